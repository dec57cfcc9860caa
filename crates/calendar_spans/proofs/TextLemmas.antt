-- The parts of a duration's length.
use Rattle.std.proofs.Common.{arith, refl, ◌≡◌, ◌≢◌, ℕ, ◌/◌, ◌%◌, ℤ, pos, negsuc, unsigned_abs, if◌then◌else◌, ◌==◌, false, List, [], ◌++◌}
use Rattle.std.specs.Prelude.{int_div, int_rem, int_lt, codes}
use Rattle.std.proofs.lemmas.Int.{ints}
use Rattle.std.proofs.lemmas.Bool.Decides.{nat_tests}
use Rattle.calendar_spans.proofs.QuotientLemmas.{nonzero_abs}
use Rattle.calendar_spans.specs.Duration.{second_nanos}
use Rattle.std.specs.Fmt.{decimal}
use Rattle.calendar_spans.specs.DurationText.{part_text, seconds_text, nanoseconds_text, duration_text}

pub seconds_of_length : (z : ℤ) → unsigned_abs (int_div z (pos second_nanos)) ≡ unsigned_abs z / second_nanos
seconds_of_length (pos n) = omega arith
seconds_of_length (negsuc n) = omega (arith, ints)

pub nanoseconds_of_length : (z : ℤ) → unsigned_abs (int_rem z (pos second_nanos)) ≡ unsigned_abs z % second_nanos
nanoseconds_of_length (pos n) = omega arith
nanoseconds_of_length (negsuc n) = omega (arith, ints)

-- the text of a part that is not 0
pub part_of_more : (n : ℕ) (unit : List ℕ) → n ≢ 0 → decimal n ++ unit ≡ part_text n unit
part_of_more n unit h =
    let some : (n == 0) ≡ false = grind (arith, nat_tests) in
    rw some refl

-- the text of a duration that is not 0, by the parts of its length
pub text_of_parts : (z : ℤ) (seconds nanoseconds : ℕ) → z ≢ pos 0 → seconds ≡ unsigned_abs z / second_nanos → nanoseconds ≡ unsigned_abs z % second_nanos → duration_text z ≡ (if int_lt z (pos 0) then codes "-" else []) ++ seconds_text seconds ++ nanoseconds_text nanoseconds
text_of_parts z s n h p q =
    let length : (unsigned_abs z == 0) ≡ false = grind (arith, ints, nat_tests, nonzero_abs z h) in
    rw (p, q, length) refl
