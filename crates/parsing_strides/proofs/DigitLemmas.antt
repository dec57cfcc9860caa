-- Digits of a fraction, and ten digits, at the start of a text.
use Rattle.std.proofs.Common.{◌≡◌, ◌≤◌, ◌+◌, ◌*◌, ◌∙◌, ◌==◌, ℕ, Bool, false, List, length, take, drop, Option, Some, None, refl, ap, arith}
use Rattle.std.proofs.lemmas.Bool.Decides.{nat_tests}
use Rattle.std.proofs.lemmas.List.{length-drop}
use Rattle.std.proofs.lemmas.List.Sums.{prefix_len-le-length}
use Rattle.parsing_combinator.specs.Pieces.{digits, digit_count, digit_run, fraction, nanoseconds_of}
use Rattle.parsing_combinator.specs.Shape.{taken, fraction_between, digits_between}
use Rattle.parsing_combinator.proofs.Decimal.{count_drop}
use Rattle.parsing_combinator.proofs.Fixed.{digits_add}
use Rattle.parsing_combinator.proofs.FractionDigits.{digits_read, none_there}
use Rattle.parsing_combinator.proofs.Longest.{taken_digits}

few_taken : (bytes : List ℕ) (c : ℕ) → digit_count bytes ≡ c → 1 ≤ c → c ≤ 32 → taken (fraction_between 1 32) bytes ≡ Some (nanoseconds_of (take c bytes), drop c bytes)
few_taken bytes c is some few = grind (arith, nat_tests, taken_digits)

abbrev run_of_all : List ℕ → Option (ℕ × List ℕ)
run_of_all bytes = Some (nanoseconds_of (take (digit_count bytes) bytes), drop (digit_count bytes) bytes)

run_at : (b : Bool) (bytes rest : List ℕ) (n : ℕ) → (digit_count bytes == 0) ≡ b → fraction bytes ≡ Some (n, rest)
    → (b ≡ false) × (run_of_all bytes ≡ Some (n, rest))
unfolding fraction digit_run
run_at b bytes rest n is e = grind (arith, nat_tests)

pub fraction_taken : (bytes rest : List ℕ) (n : ℕ) → fraction bytes ≡ Some (n, rest) → length bytes ≤ length rest + 9 → taken (fraction_between 1 32) bytes ≡ Some (n, rest)
fraction_taken bytes rest n e short = grind (arith, nat_tests, run_at, length-drop, prefix_len-le-length, few_taken)

ten_there : (most : ℕ) (line rest : List ℕ) (number : ℕ) → 10 ≤ most → digits 10 line ≡ Some (number, rest) → digits 1 rest ≡ None → taken (digits_between 1 most) line ≡ Some (number, rest)
ten_there most line rest number enough e none =
    let d = digits_read 10 line number rest e in
    let left : digit_count rest ≡ 0 = none_there rest none in
    let after : digit_count (drop 10 line) ≡ 0 = ap digit_count d.after ∙ left in
    let count : digit_count line ≡ 10 = omega (arith, after, count_drop 10 line d.enough) in
    grind (arith, nat_tests, taken_digits)

pub ten_taken : (most : ℕ) (line middle rest : List ℕ) (first last : ℕ) → 10 ≤ most → digits 1 line ≡ Some (first, middle) → digits 9 middle ≡ Some (last, rest) → digits 1 rest ≡ None
    → taken (digits_between 1 most) line ≡ Some (first * 1_000_000_000 + last, rest)
ten_taken most line middle rest first last enough one nine none =
    let ten : digits 10 line ≡ Some (first * 1_000_000_000 + last, rest) = digits_add 1 9 line ∙ rw one (rw nine refl) in
    ten_there most line rest (first * 1_000_000_000 + last) enough ten none
