use Rattle.std.proofs.Common.{rules, arith, ◌≡◌, ◌+ℤ◌, ◌*ℤ◌, pos, to_z, of_z, w64}
use Rattle.calendar_count.proofs.lemmas.Signed.{signed}
use Rattle.datetime_wall.specs.Wall.{second_nanos, Shown, instant}
use Rattle.datetime_types.proofs.UnixLemmas.{instant_parts}
use Rattle.datetime_types.proofs.offset_date_time.OffsetDateTime.checked_to_timestamp.Goals as goal

pub returns-clause-value : goal.returns-clause-value
returns-clause-value c =
    let own = c.self.inside in
    let shown : Shown = record { wall = own.wall; offset = own.offset } in
    let seconds = rw (← c.self.view_is) at c.unix_timestamp.ensures.value in
    let is : to_z w64 (of_z w64 c.unix_timestamp.result) *ℤ pos second_nanos +ℤ pos c.nanosecond.result ≡ instant shown = omega (arith, signed, instant_parts shown, seconds, c.nanosecond.ensures.value, c.unix_timestamp.ensures.bound) in
    let named = rw is at c.new.ensures.value in
    rw (← c.self.view_is) (search rules)
