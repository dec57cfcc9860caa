use Rattle.std.proofs.Common.{arith, refl, ◌≡◌, pos, to_z, of_z, w32, w64, ◌+ℤ◌, ◌*ℤ◌}
use Rattle.std.specs.Prelude.{int_rem}
use Rattle.std.proofs.lemmas.Int.{ints}
use Rattle.calendar_clock.specs.Time.{second_nanos}
use Rattle.calendar_clock.proofs.ClockLemmas.{past_days, days_and_rest, rest_forward, rest_back}
use Rattle.calendar_clock.proofs.time_moved.past_days.Goals as goal

rest : (c : goal.After-subsec_nanoseconds) → to_z w32 (of_z w32 (to_z w64 (of_z w64 (int_rem (to_z w64 (of_z w64 c.whole_seconds.result)) (pos 86_400))))) *ℤ pos second_nanos +ℤ to_z w32 (of_z w32 c.subsec_nanoseconds.result) ≡ past_days c.args.duration
rest c =
    let s = c.whole_seconds.result in
    let n = c.subsec_nanoseconds.result in
    let same : to_z w64 (of_z w64 s) ≡ s = omega (arith, ints) in
    let seconds : to_z w32 (of_z w32 (to_z w64 (of_z w64 (int_rem s (pos 86_400))))) ≡ int_rem s (pos 86_400) = omega (arith, ints) in
    let nanoseconds : to_z w32 (of_z w32 n) ≡ n = omega (arith, ints) in
    rw (same, seconds, nanoseconds, c.whole_seconds.ensures.value, c.subsec_nanoseconds.ensures.value) refl

pub returns-clause-whole : goal.returns-clause-whole
returns-clause-whole c = rw (rest c) (days_and_rest c.args.duration)

pub returns-clause-forward : goal.returns-clause-forward
returns-clause-forward c = λ h. rest_forward c.args.duration (rw (rest c) at h)

pub returns-clause-back : goal.returns-clause-back
returns-clause-back c = λ h. rest_back c.args.duration (rw (rest c) at h)
