use Rattle.parsing_combinator.proofs.AtPlaces.{four_there}
use Rattle.parsing_combinator.proofs.places.four_digits_at.Goals as goal

pub returns-clause-digits : goal.returns-clause-digits
returns-clause-digits c =
    let pairs = c.two_pairs_at-high in
    rw (c.from.ensures, c.from-2.ensures) (four_there c.args.text.now c.args.place pairs.result.0 pairs.result.1 pairs.ensures.first pairs.ensures.second)
