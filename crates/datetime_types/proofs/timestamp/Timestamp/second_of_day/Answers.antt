use Rattle.std.proofs.Common.{◌≡◌, to_z, of_z, w64, arith}
use Rattle.std.proofs.lemmas.Int.{ints}
use Rattle.datetime_types.proofs.UnixLemmas.{unix_nanos_time}
use Rattle.datetime_types.proofs.timestamp.Timestamp.second_of_day.Goals as goal

pub returns-clause-value : goal.returns-clause-value
returns-clause-value c =
    let own = c.self.inside in
    let back : to_z w64 (of_z w64 own.seconds) ≡ own.seconds = omega (arith, ints, c.self.invariant.0) in
    let is = unix_nanos_time own.seconds own.nanoseconds c.second_of_day.result c.self.invariant.1 (rw back at c.second_of_day.ensures.value) in
    rw (← c.self.view_is) (omega (arith, is, c.self.invariant.1))
