use Rattle.std.proofs.Common.{arith, ◌≡◌, pos}
use Rattle.std.specs.Int.{int_div_euclid}
use Rattle.std.proofs.lemmas.Int.{ints}
use Rattle.datetime_wall.specs.Wall.{second_nanos, wall_clock, Shown}
use Rattle.datetime_wall.proofs.lemmas.WallClocks.{wall_clock_parts}
use Rattle.datetime_types.proofs.UnixLemmas.{instant_seconds}
use Rattle.datetime_types.proofs.offset_date_time.OffsetDateTime.unix_timestamp.Goals as goal

pub returns-clause-value : goal.returns-clause-value
returns-clause-value c =
    let own = c.self.inside in
    let shown : Shown = record { wall = own.wall; offset = own.offset } in
    let wall : wall_clock c.date.result c.time.result ≡ own.wall = rw (c.date.ensures.value, c.time.ensures.value) (wall_clock_parts own.wall c.date.ensures.range) in
    let seconds : c.unix_seconds-seconds.result ≡ int_div_euclid own.wall (pos second_nanos) = rw wall at c.unix_seconds-seconds.ensures.value in
    rw (← c.self.view_is, instant_seconds shown, ← seconds) (omega (arith, ints, c.unix_seconds-seconds.ensures.bound, c.whole_seconds.ensures, c.from.ensures))
