-- Runs of digits, and what they are as a fraction.
use Rattle.std.proofs.Common.{◌≡◌, ◌≤◌, ◌<◌, ◌+◌, ℕ, Bool, true, List, length, take, drop, Some, refl, arith}
use Rattle.std.specs.Prelude.{◌==◌}
use Rattle.std.specs.Str.Parse.{digits_value}
use Rattle.std.specs.Char.{is_ascii_digit}
use Rattle.std.proofs.lemmas.Bool.{eq-eqb}
use Rattle.std.proofs.lemmas.Bool.Decides.{nat_tests}
use Rattle.std.proofs.lemmas.List.{length-take-le, length-drop, take-append-drop, take_all, take-take}
use Rattle.std.proofs.lemmas.List.Folds.{prefix_len-append}
use Rattle.parsing_combinator.specs.Pieces.{digit_count, digit_run, fraction, nanoseconds_of}
use Rattle.parsing_combinator.specs.Shape.{taken, digits_between}
use Rattle.parsing_combinator.proofs.Decimal.{digit_count_within, count_drop, count_prefix}
use Rattle.parsing_combinator.proofs.FractionDigits.{long_fraction}
use Rattle.parsing_combinator.specs.Written.{WriteFraction}
use Rattle.parsing_combinator.proofs.Longest.{taken_digits}
use Rattle.parsing_layout.specs.Layout.{exact_fraction}
use Rattle.parsing_layout.proofs.PieceLemmas.{exact_said}

-- what a run is: all digits at the start, at least one
record IsRun (text run rest : List ℕ) : Type 0 where
  some : 0 < digit_count text
  all : take (digit_count text) text ≡ run
  after : drop (digit_count text) text ≡ rest

is_run : (none : Bool) (text run rest : List ℕ) → (digit_count text == 0) ≡ none → digit_run text ≡ Some (run, rest) → IsRun text run rest
unfolding digit_run
is_run none text run rest is e = grind (arith, nat_tests)

pub run_taken : (most : ℕ) (text run rest : List ℕ) → digit_run text ≡ Some (run, rest) → length run ≤ most → taken (digits_between 1 most) text ≡ Some (digits_value 10 run, rest)
run_taken most text run rest e few = grind (arith, nat_tests, is_run, length-take-le, digit_count_within, taken_digits)

-- ---- a fraction of so many digits

-- digits that a prefix of bytes is made of are counted
counted : (n : ℕ) (text : List ℕ) → digit_count (take n text) ≡ length (take n text) → length (take n text) ≤ digit_count text
counted n text all =
    let same : (digit_count (take n text) == length (take n text)) ≡ true = eq-eqb _ _ all in
    let sum = rw (same, take-append-drop n text) at (prefix_len-append {X = ℕ} is_ascii_digit (take n text) (drop n text)) in
    omega (arith, sum)

pub exact_taken : (n v : ℕ) (text first left rest : List ℕ) → n ≤ length text → take n text ≡ first → drop n text ≡ rest → fraction first ≡ Some (v, left) → (length left == 0) ≡ true → exact_fraction n text ≡ Some (v, rest)
unfolding exact_fraction fraction
exact_taken n v text first left rest within before after e none_left =
    grind (arith, nat_tests, is_run, length-take-le, length-drop, digit_count_within, take_all, counted)

-- a fraction of more than nine digits, by the first nine
pub long_written : (bytes first left : List ℕ) (count n : ℕ) → 9 < count → take 9 bytes ≡ first → fraction first ≡ Some (n, left) → (length left == 0) ≡ true → count ≤ 9 + digit_count (drop 9 bytes) → WriteFraction bytes count n
long_written bytes first left count n many before e none_left more =
    let within : 9 ≤ length bytes = omega (arith, digit_count_within (drop 9 bytes), length-drop 9 bytes, many, more) in
    let nine = exact_said _ bytes _ 9 n refl (exact_taken 9 n bytes first left (drop 9 bytes) within before refl e none_left) in
    let enough : count ≤ digit_count bytes = omega (arith, count_drop 9 bytes nine.0, more) in
    let run = take count bytes in
    let long : length run ≡ count = length-take-le count bytes (omega (arith, enough, digit_count_within bytes)) in
    let all : digit_count run ≡ length run = count_prefix bytes count enough in
    let same : take 9 run ≡ take 9 bytes = take-take 9 count bytes (omega (arith, many)) in
    let all_of : digits_value 10 (take 9 bytes) ≡ nanoseconds_of (take count bytes) = rw (← same) (long_fraction run (omega (arith, long, many)) all) in
    let nine_long : length (take 9 bytes) ≡ 9 = length-take-le 9 bytes within in
    grind (arith, nat_tests)
