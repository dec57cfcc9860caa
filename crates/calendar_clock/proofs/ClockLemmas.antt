-- A duration in whole days and what is past them, and times round the clock.
use Rattle.std.proofs.Common.{arith, ◌≡◌, ℕ, ◌<◌, ◌≤◌, ℤ, pos, neg_ℤ, ◌+ℤ◌, ◌-ℤ◌, ◌*ℤ◌, ◌<ℤ◌, unsigned_abs, to_z, of_z, w32, FitsSigned}
use Rattle.std.specs.Prelude.{int_div, int_rem}
use Rattle.std.specs.Int.{int_div_euclid}
use Rattle.std.proofs.lemmas.Int.{ints, quot-rem, by_lt_z}
use Rattle.calendar_count.proofs.lemmas.Signed.{signed, one_sided}
use Rattle.calendar_clock.specs.Time.{second_nanos, day_nanos, on_clock}

-- what is past the whole days, by the parts that a duration gives
abbrev pub past_days : ℤ → ℤ
past_days d = int_rem (int_div d (pos second_nanos)) (pos 86_400) *ℤ pos second_nanos +ℤ int_rem d (pos second_nanos)

pub days_and_rest : (d : ℤ) → d ≡ int_div d (pos day_nanos) *ℤ pos day_nanos +ℤ past_days d
days_and_rest d =
    let s = int_div d (pos second_nanos) in
    let nested : int_div s (pos 86_400) ≡ int_div d (pos day_nanos) = omega (arith, signed, one_sided d) in
    let seconds = quot-rem s (pos 86_400) in
    let whole = quot-rem d (pos second_nanos) in
    omega (arith, signed, nested, seconds, whole)

pub rest_forward : (d : ℤ) → pos 0 <ℤ past_days d → pos 0 <ℤ d
rest_forward d h = by_lt_z (pos 0) d (λ l. l) (λ l. absurd (omega (arith, signed, h, one_sided d)))

pub rest_back : (d : ℤ) → past_days d <ℤ pos 0 → d <ℤ pos 0
rest_back d h = by_lt_z d (pos 0) (λ l. l) (λ l. absurd (omega (arith, signed, h, one_sided d)))

pub round_clock : (days : ℤ) (t : ℕ) → t < day_nanos → on_clock (days *ℤ pos day_nanos +ℤ pos t) ≡ t
round_clock days t h = omega (arith, signed)

pub back_again : (t : ℕ) (d : ℤ) → t < day_nanos → on_clock (pos (on_clock (pos t +ℤ d)) -ℤ d) ≡ t
back_again t d h =
    let days = neg_ℤ (int_div_euclid (pos t +ℤ d) (pos day_nanos)) in
    let same : pos (on_clock (pos t +ℤ d)) -ℤ d ≡ days *ℤ pos day_nanos +ℤ pos t = omega (arith, signed) in
    rw same (round_clock days t h)

-- the seconds and nanoseconds that a time is moved by, on and back, as the code has them
abbrev pub moved_on : ℤ → ℤ → ℤ
moved_on s n = to_z w32 (of_z w32 s) *ℤ pos second_nanos +ℤ to_z w32 (of_z w32 n)

abbrev pub moved_back : ℤ → ℤ → ℤ
moved_back s n =
    to_z w32 (of_z w32 (pos 0 -ℤ to_z w32 (of_z w32 s))) *ℤ pos second_nanos +ℤ to_z w32 (of_z w32 (pos 0 -ℤ to_z w32 (of_z w32 n)))

pub moved_on_is : (s n : ℤ) → (unsigned_abs s < 86_400) → (unsigned_abs n < second_nanos) → moved_on s n ≡ s *ℤ pos second_nanos +ℤ n
moved_on_is s n a b = omega (arith, ints)

pub moved_back_is : (s n : ℤ) → (unsigned_abs s < 86_400) → (unsigned_abs n < second_nanos) → moved_back s n ≡ neg_ℤ (s *ℤ pos second_nanos +ℤ n)
moved_back_is s n a b = omega (arith, ints)

-- what is turned fits, and is no longer than before
pub fits_back : (s : ℤ) (k : ℕ) → k ≤ second_nanos → unsigned_abs s < k → FitsSigned w32 (pos 0 -ℤ to_z w32 (of_z w32 s))
fits_back s k h small = omega (arith, ints)

pub small_back : (s : ℤ) (k : ℕ) → k ≤ second_nanos → unsigned_abs s < k → unsigned_abs (to_z w32 (of_z w32 (pos 0 -ℤ to_z w32 (of_z w32 s)))) < k
small_back s k h small = omega (arith, ints)

-- the whole days of a duration go to the days, and what is past them is what a time is moved by
pub days_on : (t r : ℕ) (d q k p : ℤ) → d ≡ q *ℤ pos day_nanos +ℤ p → pos t +ℤ p ≡ k *ℤ pos day_nanos +ℤ pos r → pos t +ℤ d ≡ (q +ℤ k) *ℤ pos day_nanos +ℤ pos r
days_on t r d q k p whole sum = omega (arith, ints)

pub days_back : (t r : ℕ) (d q k p : ℤ) → d ≡ q *ℤ pos day_nanos +ℤ p → pos t +ℤ neg_ℤ p ≡ k *ℤ pos day_nanos +ℤ pos r → pos t -ℤ d ≡ (k -ℤ q) *ℤ pos day_nanos +ℤ pos r
days_back t r d q k p whole sum = omega (arith, ints)

-- which way a time was moved that is on the next day, or on the one before
pub next_is_on : (t r : ℕ) (k p : ℤ) → t < day_nanos → k ≡ pos 1 → pos t +ℤ p ≡ k *ℤ pos day_nanos +ℤ pos r → pos 0 <ℤ p
next_is_on t r k p h one sum = omega (arith, ints)

pub previous_is_back : (t r : ℕ) (k p : ℤ) → r < day_nanos → k ≡ neg_ℤ (pos 1) → pos t +ℤ p ≡ k *ℤ pos day_nanos +ℤ pos r → p <ℤ pos 0
previous_is_back t r k p h one sum = omega (arith, ints)

pub turned_back : (p : ℤ) → pos 0 <ℤ neg_ℤ p → p <ℤ pos 0
turned_back p h = omega (arith, ints)

pub turned_on : (p : ℤ) → neg_ℤ p <ℤ pos 0 → pos 0 <ℤ p
turned_on p h = omega (arith, ints)
