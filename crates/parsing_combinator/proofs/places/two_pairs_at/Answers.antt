use Rattle.std.proofs.Common.{arith}
use Rattle.parsing_combinator.proofs.AtPlaces.{four_bounds, pairs_there}
use Rattle.parsing_combinator.proofs.places.two_pairs_at.Goals as goal

pub returns : goal.returns
returns c =
    let p = pairs_there _ c.args.text.now c.args.place c.requires.first c.requires.second (omega (arith, c.from_le_bytes.ensures, four_bounds c.args.text.now c.args.place c.requires.first c.requires.second)) in
    record { first = rw c.pairs.ensures.first p.first; second = rw c.pairs.ensures.second p.second; first_bound = omega arith; second_bound = omega arith }
