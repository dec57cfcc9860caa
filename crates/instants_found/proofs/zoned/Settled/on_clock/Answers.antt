use Rattle.std.proofs.Common.{◌≡◌, w64, to_z, of_z, arith}
use Rattle.std.proofs.lemmas.Int.{ints}
use Rattle.instants_found.proofs.ZonedLemmas.{both_shown, one_shown}
use Rattle.instants_found.proofs.zoned.Settled.on_clock.Goals as goal

pub chosen-requires-clause-first : goal.chosen-requires-clause-first
chosen-requires-clause-first c =
    let both = both_shown c.args.zone.now c.args.prefix _ c.in-Repeated.first c.in-Repeated.second c.moments.result (omega (arith, ints, c.requires.shown, c.requires.bound)) c.moments.ensures.relation c.in-Repeated.is in
    let same : to_z w64 (of_z w64 c.in-Repeated.first) ≡ c.in-Repeated.first = omega (arith, ints, c.in-Repeated.ensures) in
    rw same both.0

pub chosen-requires-clause-second : goal.chosen-requires-clause-second
chosen-requires-clause-second c =
    let both = both_shown c.args.zone.now c.args.prefix _ c.in-Repeated.first c.in-Repeated.second c.moments.result (omega (arith, ints, c.requires.shown, c.requires.bound)) c.moments.ensures.relation c.in-Repeated.is in
    let same : to_z w64 (of_z w64 c.in-Repeated.second) ≡ c.in-Repeated.second = omega (arith, ints, c.in-Repeated.ensures) in
    rw same both.1

pub at_only-requires-clause-shown : goal.at_only-requires-clause-shown
at_only-requires-clause-shown c =
    let one = one_shown c.args.zone.now c.args.prefix _ c.in-One.moment c.moments.result (omega (arith, ints, c.requires.shown, c.requires.bound)) c.moments.ensures.relation c.in-One.is in
    let same : to_z w64 (of_z w64 c.in-One.moment) ≡ c.in-One.moment = omega (arith, ints, c.in-One.ensures) in
    rw same one
