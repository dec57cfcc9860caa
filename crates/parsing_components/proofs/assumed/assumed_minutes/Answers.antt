use Rattle.std.proofs.Common.{◌≡◌, arith, to_z, of_z, w16}
use Rattle.std.proofs.lemmas.Int.{ints}
use Rattle.parsing_components.proofs.AssumedOffsets.{assumed_is}
use Rattle.parsing_components.proofs.assumed.assumed_minutes.Goals as goal

pub returns-clause-named : goal.returns-clause-named
returns-clause-named c =
    let whole : to_z w16 (of_z w16 c.whole_minutes.result) ≡ c.whole_minutes.result = omega (arith, ints) in
    rw whole (assumed_is c.args.offset c.whole_minutes.result c.whole_minutes.ensures.value c.whole_minutes.ensures.bound)
