use Rattle.std.proofs.lemmas.Option.{IfSome_then}
use Rattle.parsing_places.specs.Tail.{is_zulu}
use Rattle.parsing_shapes.specs.Tail.{zone_parts}
use Rattle.parsing_shapes.proofs.NumberLemmas.{tailed}
use Rattle.parsing_shapes.proofs.moment.read_long_moment.Goals as goal

pub returns : goal.returns
returns c = λ front fits_front.
    let x = c.in_ok-numbers.ensures.says front fits_front in
    IfSome_then c.on_day.result c.on_day.ensures (λ f h. (x.0, x.2, tailed front (zone_parts x.0) (is_zulu x.0) x.1 c.args.text.now c.in_ok-numbers.numbers f x.4 h))
