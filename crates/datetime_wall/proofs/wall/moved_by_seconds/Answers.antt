use Rattle.std.proofs.Common.{arith, refl, ℕ, ◌≡◌, ◌+◌, ◌-◌, ◌*◌, ◌/◌, ◌%◌, to_z, of_z, w32, to_z-of_z}
use Rattle.datetime_wall.specs.Wall.{second_nanos}
use Rattle.datetime_wall.proofs.lemmas.WallClocks.{IsWallClock-wall_clock}
use Rattle.datetime_wall.proofs.MovedLemmas.{Shifted-parts, moved_value, too_early, too_late}
use Rattle.datetime_wall.proofs.wall.moved_by_seconds.Goals as goal

pub returns-then-day-lt-SHIFT_DAYS-clause-some : goal.returns-then-day-lt-SHIFT_DAYS-clause-some
returns-then-day-lt-SHIFT_DAYS-clause-some c =
    let seconds = c.args.seconds in
    let back : to_z w32 (of_z w32 seconds) ≡ seconds = to_z-of_z c.ranges.seconds in
    let parts = Shifted-parts c.args.time _ seconds (rw back at c.shifted_second-shifted.ensures.value) in
    (λ e. absurd (cc e), λ within. absurd (too_early c.args.date c.args.time _ _ _ seconds parts (omega arith) within))

pub returns-then-count-gt-LAST_COUNT-clause-some : goal.returns-then-count-gt-LAST_COUNT-clause-some
returns-then-count-gt-LAST_COUNT-clause-some c =
    let seconds = c.args.seconds in
    let back : to_z w32 (of_z w32 seconds) ≡ seconds = to_z-of_z c.ranges.seconds in
    let parts = Shifted-parts c.args.time _ seconds (rw back at c.shifted_second-shifted.ensures.value) in
    let count : ℕ = c.args.date + c.shifted_second-shifted.result / 86_400 - 3 in
    (λ e. absurd (cc e), λ within. absurd (too_late c.args.date c.args.time _ _ _ count seconds parts (omega arith) (omega arith) within))

pub returns-clause-value : goal.returns-clause-value
returns-clause-value c =
    let seconds = c.args.seconds in
    let shifted = c.shifted_second-shifted.result in
    let back : to_z w32 (of_z w32 seconds) ≡ seconds = to_z-of_z c.ranges.seconds in
    let parts = Shifted-parts c.args.time shifted seconds (rw back at c.shifted_second-shifted.ensures.value) in
    let time : c.from_seconds_nanoseconds-time.result ≡ shifted % 86_400 * second_nanos + c.args.time % second_nanos = omega arith in
    rw time (moved_value c.args.date c.args.time _ _ shifted c.from_count.result seconds parts (omega arith))

pub returns-clause-some : goal.returns-clause-some
returns-clause-some c =
    let value = returns-clause-value c in
    (λ _. rw value at (IsWallClock-wall_clock c.from_count.result c.from_seconds_nanoseconds-time.result c.from_count.ensures.bound c.from_seconds_nanoseconds-time.ensures.bound), λ _. refl)
