use Rattle.std.proofs.Common.{arith, refl, ◌≡◌, ◌≤◌, ℤ, pos, ◌+ℤ◌, ◌*ℤ◌, to_z, of_z, w8, w32, to_z-of_z, unsigned_abs}
use Rattle.std.proofs.lemmas.Int.{ints}
use Rattle.calendar_clock.specs.UtcOffset.{IsOffset}
use Rattle.calendar_clock.proofs.utc_offset.seconds_of_parts.Goals as goal

-- the sum as the code has it
abbrev summed : ℤ → ℤ → ℤ → ℤ
summed h m s = to_z w32 (of_z w32 (to_z w32 (of_z w32 (to_z w32 (of_z w32 (to_z w32 (of_z w32 (to_z w8 (of_z w8 h))) *ℤ pos 3600)) +ℤ to_z w32 (of_z w32 (to_z w32 (of_z w32 (to_z w8 (of_z w8 m))) *ℤ pos 60)))) +ℤ to_z w32 (of_z w32 (to_z w8 (of_z w8 s)))))

summed_is : (h m s : ℤ) → unsigned_abs h ≤ 25 → unsigned_abs m ≤ 59 → unsigned_abs s ≤ 59 → summed h m s ≡ h *ℤ pos 3600 +ℤ m *ℤ pos 60 +ℤ s
summed_is h m s hours minutes seconds = omega (arith, ints)

small : (h m s : ℤ) → unsigned_abs h ≤ 25 → unsigned_abs m ≤ 59 → unsigned_abs s ≤ 59 → IsOffset (h *ℤ pos 3600 +ℤ m *ℤ pos 60 +ℤ s)
small h m s hours minutes seconds = (omega (arith, ints), omega (arith, ints))

pub overflow_add-result-2 : goal.overflow_add-result-2
overflow_add-result-2 c = omega (arith, ints)

pub returns-clause-value : goal.returns-clause-value
returns-clause-value c =
    let inner = c.with_sign_of.result in
    let hours : to_z w8 (of_z w8 c.args.hours) ≡ c.args.hours = to_z-of_z c.ranges.hours in
    let minutes : to_z w8 (of_z w8 c.args.minutes) ≡ c.args.minutes = to_z-of_z c.ranges.minutes in
    let seconds : to_z w8 (of_z w8 c.args.seconds) ≡ c.args.seconds = to_z-of_z c.ranges.seconds in
    let back : to_z w8 (of_z w8 inner) ≡ inner = omega (arith, ints, c.with_sign_of.ensures.bound) in
    let finest = rw (minutes, seconds) at c.with_sign_of.ensures.value in
    let finer = rw (hours, back, finest) at c.with_sign_of-seconds.ensures.value in
    let fine = rw (hours, minutes) at c.with_sign_of-minutes.ensures.value in
    rw (summed_is c.args.hours c.with_sign_of-minutes.result c.with_sign_of-seconds.result c.requires.hours c.with_sign_of-minutes.ensures.bound c.with_sign_of-seconds.ensures.bound, fine, finer) refl

pub returns-clause-bound : goal.returns-clause-bound
returns-clause-bound c =
    rw (summed_is c.args.hours c.with_sign_of-minutes.result c.with_sign_of-seconds.result c.requires.hours c.with_sign_of-minutes.ensures.bound c.with_sign_of-seconds.ensures.bound)
    (small c.args.hours c.with_sign_of-minutes.result c.with_sign_of-seconds.result c.requires.hours c.with_sign_of-minutes.ensures.bound c.with_sign_of-seconds.ensures.bound)
