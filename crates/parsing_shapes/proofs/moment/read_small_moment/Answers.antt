use Rattle.std.proofs.lemmas.Option.{IfSome_then}
use Rattle.std.proofs.Common.{true}
use Rattle.parsing_shapes.specs.Tail.{small_parts}
use Rattle.parsing_shapes.proofs.NumberLemmas.{tailed}
use Rattle.parsing_shapes.proofs.moment.read_small_moment.Goals as goal

pub returns : goal.returns
returns c = λ front fits_front.
    let x = c.in_ok-numbers.ensures front fits_front in
    IfSome_then c.on_day.result c.on_day.ensures (λ f h. tailed front small_parts true x.0 c.args.text.now c.in_ok-numbers.numbers f x.1 h)
