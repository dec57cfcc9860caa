use Rattle.std.proofs.Common.{sym, ◌≡◌, to_z, of_z, w64, arith}
use Rattle.std.proofs.lemmas.Int.{ints}
use Rattle.datetime_types.proofs.UnixLemmas.{unix_nanos_day, unix_nanos_range}
use Rattle.datetime_types.proofs.timestamp.Timestamp.count.Goals as goal

pub returns-clause-value : goal.returns-clause-value
returns-clause-value c =
    let own = c.self.inside in
    let back : to_z w64 (of_z w64 own.seconds) ≡ own.seconds = omega (arith, ints, c.self.invariant.0) in
    rw (← c.self.view_is) (sym (unix_nanos_day own.seconds own.nanoseconds c.count_of_seconds.result c.self.invariant.1 (rw back at c.count_of_seconds.ensures.value)))

pub returns-clause-range : goal.returns-clause-range
returns-clause-range c = rw (← c.self.view_is) (unix_nanos_range c.self.inside.seconds c.self.inside.nanoseconds c.self.invariant.0 c.self.invariant.1)
