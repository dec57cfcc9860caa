-- The digits of a fraction past the ninth have no effect.
use Rattle.std.proofs.Common.{◌≡◌, ℕ, suc, Bool, true, cond, ◌+◌, ◌-◌, ◌*◌, ◌/◌, ◌^◌, ◌<◌, ◌≤◌, List, [], ◌∷◌, ◌++◌, length, replicate, take, drop, sym, ap, ◌∙◌, arith, lit<, inl, inr, Some, None}
use Rattle.std.specs.Char.{is_ascii_digit}
use Rattle.std.specs.Str.Parse.{digits_value, AllDigits}
use Rattle.std.proofs.lemmas.Bool.{cases_lt}
use Rattle.std.proofs.lemmas.Bool.Decides.{nat_tests}
use Rattle.std.proofs.lemmas.List.{take-append-drop, take_all, length-drop}
use Rattle.std.proofs.lemmas.List.{drop-replicate, append-nil, length-append, length-replicate}
use Rattle.std.proofs.lemmas.List.Folds.{prefix_len-append, prefix_len-replicate}
use Rattle.std.proofs.lemmas.Int.Digits.{digits_value-lt}
use Rattle.std.proofs.lemmas.Nat.{pow-add, le-div}
use Rattle.std.proofs.Math.Nat.{mul-div_cancel, mul_assoc, mul-div-mul_right, one-le-pow}
use Rattle.parsing_combinator.proofs.Decimal.{digit_here, value_after, value_append, value_zeros, count_drop, count_prefix}
use Rattle.parsing_combinator.specs.Pieces.{digits, digit_count, digit_run, fraction, nanoseconds_of}

counted_first : (b : Bool) (n k : ℕ) → cond b (1 + n) 0 ≡ suc k → (b ≡ true) × (n ≡ k)
counted_first b n k e = grind (arith, nat_tests)

pub all_digits : (cs : List ℕ) → digit_count cs ≡ length cs → AllDigits 10 cs
all_digits [] e = tt
all_digits (c ∷ cs) e =
    let parts = counted_first (is_ascii_digit c) (digit_count cs) (length cs) e in
    let here = digit_here c parts.0 in
    (omega (arith, here.2, here.0, here.1), all_digits cs parts.1)

pub short_fraction : (run : List ℕ) → length run ≤ 9 → digits_value 10 run * 10 ^ (9 - length run) ≡ nanoseconds_of run
short_fraction run le =
    let n = length run in
    let split : 10 ^ 9 ≡ 10 ^ (9 - n) * 10 ^ n = ap (λ (k : ℕ). 10 ^ k) (let e : 9 ≡ 9 - n + n = omega arith in e) ∙ pow-add 10 (9 - n) n in
    let product : digits_value 10 run * 10 ^ 9 ≡ digits_value 10 run * 10 ^ (9 - n) * 10 ^ n = ap (λ (k : ℕ). digits_value 10 run * k) split ∙ sym (mul_assoc (digits_value 10 run) (10 ^ (9 - n)) (10 ^ n)) in
    sym (ap (λ (k : ℕ). k / 10 ^ n) product ∙ mul-div_cancel (digits_value 10 run * 10 ^ (9 - n)) {n = 10 ^ n} (one-le-pow n 10 (lit< tt)))

pub long_fraction : (run : List ℕ) → 9 < length run → digit_count run ≡ length run → digits_value 10 (take 9 run) ≡ nanoseconds_of run
long_fraction run lt all =
    let k = length run - 9 in
    let prefix = digits_value 10 (take 9 run) in
    let rest = drop 9 run in
    let rest_length : length rest ≡ k = length-drop 9 run in
    let counted = count_drop 9 run (omega arith) in
    let small : digits_value 10 rest < 10 ^ k = rw rest_length at (digits_value-lt 10 rest (all_digits rest (omega (arith, rest_length, counted)))) in
    let value : digits_value 10 run ≡ prefix * 10 ^ k + digits_value 10 rest = ap (digits_value 10) (sym (take-append-drop 9 run)) ∙ value_append 0 (take 9 run) rest ∙ rw rest_length at (value_after prefix rest) in
    let low : prefix * 10 ^ k ≤ digits_value 10 run = omega (arith, value) in
    grind (arith, nat_tests, pow-add, mul-div-mul_right, le-div)

-- what was read of n digits
pub record Read (n : ℕ) (bytes : List ℕ) (v : ℕ) (rest : List ℕ) : Type 0 where
  pub enough : n ≤ digit_count bytes
  pub value : digits_value 10 (take n bytes) ≡ v
  pub after : drop n bytes ≡ rest

-- what stands after a test was there, so the test passed
pub cut_of : {A : Type 0} (b : Bool) (x y : A) → cond b (Some x) None ≡ Some y → (b ≡ true) × (x ≡ y)
cut_of b x y e = grind (arith, nat_tests)

pub digits_read : (n : ℕ) (bytes : List ℕ) (v : ℕ) (rest : List ℕ) → digits n bytes ≡ Some (v, rest) → Read n bytes v rest
unfolding digits
digits_read n bytes v rest h = grind (arith, nat_tests)

pub none_there : (bytes : List ℕ) → digits 1 bytes ≡ None → digit_count bytes ≡ 0
unfolding digits
none_there bytes h = grind (arith, nat_tests)

-- digits, and zeros after them
pub padded_count : (run : List ℕ) (m : ℕ) → digit_count run ≡ length run → digit_count (run ++ replicate m 48) ≡ length run + m
padded_count run m all = grind (arith, nat_tests, prefix_len-append, prefix_len-replicate)

pub padded_value : (run : List ℕ) (m : ℕ) → length run + m ≡ 9 → digits_value 10 (run ++ replicate m 48) ≡ nanoseconds_of run
padded_value run m nine =
    let left : m ≡ 9 - length run = omega arith in
    value_append 0 run (replicate m 48) ∙ value_zeros (digits_value 10 run) m ∙ ap (λ (n : ℕ). digits_value 10 run * 10 ^ n) left ∙ short_fraction run (omega arith)

-- the first nine digits, with zeros where they are fewer
pub nine_count : (run : List ℕ) (used : ℕ) → digit_count run ≡ length run → used ≤ length run → digit_count (take used run ++ drop used (replicate 9 48)) ≡ length (take used run ++ drop used (replicate 9 48))
nine_count run used all within =
    rw (drop-replicate {X = ℕ} used 9 48)
    (padded_count (take used run) (9 - used) (count_prefix run used (omega arith)) ∙ sym (length-append (take used run) (replicate (9 - used) 48) ∙ ap (λ (n : ℕ). length (take used run) + n) (length-replicate {A = ℕ} (9 - used) 48)))

pub nine_value : (run : List ℕ) (used : ℕ) → digit_count run ≡ length run → (length run ≤ 9 → used ≡ length run) → (9 < length run → used ≡ 9) → digits_value 10 (take used run ++ drop used (replicate 9 48)) ≡ nanoseconds_of run
nine_value run used all short long =
    elim (cases_lt 9 (length run)) [
      | inl lt ↦ let u : used ≡ 9 = long lt in rw (u, append-nil (take 9 run)) (long_fraction run lt all)
      | inr le ↦ let u : used ≡ length run = short le in rw (u, take_all (length run) run (omega arith), drop-replicate {X = ℕ} (length run) 9 48) (padded_value run (9 - length run) (omega arith))
    ]

-- the digits that are all that are there are a fraction
pub fraction_there : (bytes : List ℕ) (count : ℕ) → 0 < count → digit_count bytes ≡ count → fraction bytes ≡ Some (nanoseconds_of (take count bytes), drop count bytes)
unfolding fraction digit_run
fraction_there bytes count some is = grind (arith, nat_tests)
