-- The numbers that digits write, and how many digits there are.
use Rattle.std.proofs.Common.{◌≡◌, ℕ, zero, suc, cond, ◌+◌, ◌-◌, ◌*◌, ◌^◌, ◌<◌, ◌≤◌, Bool, true, List, [], ◌∷◌, ◌++◌, length, take, drop, replicate, get_or, inl, inr, refl, ap, ◌∙◌, arith}
use Rattle.std.specs.Char.{is_ascii_digit, digit_value}
use Rattle.std.specs.Str.Parse.{digits_value_after}
use Rattle.std.proofs.lemmas.Bool.Decides.{nat_tests}
use Rattle.std.proofs.lemmas.List.{length-take-le, get_or-take}
use Rattle.std.proofs.lemmas.List.Sums.{prefix_len_is, prefix_len_passes, prefix_len_stops, prefix_len-le-length}
use Rattle.std.proofs.lemmas.Bool.{cases_lt}
use Rattle.std.proofs.lemmas.Nat.{pow-add}
use Rattle.parsing_combinator.specs.Pieces.{digit_count}

pub digit_here : (c : ℕ) → is_ascii_digit c ≡ true → (48 ≤ c) × (c ≤ 57) × (digit_value c ≡ c - 48)
digit_here c h = grind (arith, nat_tests)

pub power_next : (n : ℕ) → 10 ^ suc n ≡ 10 ^ n * 10
power_next n = ap (λ (k : ℕ). 10 ^ k) (let e : suc n ≡ n + 1 = omega arith in e) ∙ pow-add 10 n 1

carried : (n d p q v a b : ℕ) → q ≡ p * 10 → a ≡ (n * 10 + d) * p + v → b ≡ (0 + d) * p + v → a ≡ n * q + b
carried n d p q v a b e h k = rw (h, k, e) (omega arith)

-- the number of digits after a number
pub value_after : (n : ℕ) (cs : List ℕ) → digits_value_after 10 n cs ≡ n * 10 ^ length cs + digits_value_after 10 0 cs
value_after n [] = omega arith
value_after n (c ∷ cs) =
    carried n (digit_value c) (10 ^ length cs) (10 ^ suc (length cs)) (digits_value_after 10 0 cs) _ _ (power_next (length cs)) (value_after (n * 10 + digit_value c) cs) (value_after (0 + digit_value c) cs)

-- the number of digits in two parts
pub value_append : (n : ℕ) (xs ys : List ℕ) → digits_value_after 10 n (xs ++ ys) ≡ digits_value_after 10 (digits_value_after 10 n xs) ys
value_append n [] ys = refl
value_append n (x ∷ xs) ys = value_append (n * 10 + digit_value x) xs ys

-- zeros after a number
pub value_zeros : (n m : ℕ) → digits_value_after 10 n (replicate m 48) ≡ n * 10 ^ m
value_zeros n zero = omega arith
value_zeros n (suc m) = value_zeros (n * 10 + 0) m ∙ rw (power_next m) (omega arith)

count_step : (b : Bool) (n k m : ℕ) → (n ≤ k → m + n ≡ k) → suc n ≤ cond b (1 + k) 0 → m + suc n ≡ cond b (1 + k) 0
count_step b n k m more le = grind (arith, nat_tests)

-- how many digits are left after the first n
pub count_drop : (n : ℕ) (bytes : List ℕ) → n ≤ digit_count bytes → digit_count (drop n bytes) + n ≡ digit_count bytes
count_drop zero bytes le = omega arith
count_drop (suc n) [] le = absurd (omega arith)
count_drop (suc n) (c ∷ cs) le = count_step (is_ascii_digit c) n (digit_count cs) (digit_count (drop n cs)) (count_drop n cs) le

-- the first n of the digits at the start are digits
pub count_prefix : (bytes : List ℕ) (n : ℕ) → n ≤ digit_count bytes → digit_count (take n bytes) ≡ length (take n bytes)
count_prefix bytes n le =
    let fits : n ≤ length bytes = omega (arith, prefix_len-le-length is_ascii_digit bytes) in
    let long : length (take n bytes) ≡ n = length-take-le n bytes fits in
    prefix_len_is is_ascii_digit (take n bytes) (length (take n bytes)) 0 (omega arith)
    (λ k lt. let below : k < n = omega arith in rw (get_or-take n bytes k 0 below) (prefix_len_passes is_ascii_digit bytes k 0 (omega arith)))
    (λ lt. absurd (omega arith))

-- digits at the first places are counted
pub count_least : (n : ℕ) (bytes : List ℕ) → n ≤ length bytes → ((k : ℕ) → k < n → is_ascii_digit (get_or bytes k 0) ≡ true) → n ≤ digit_count bytes
count_least n bytes le all =
    elim (cases_lt (digit_count bytes) n) [
      | inl lt ↦ absurd (let stops = prefix_len_stops is_ascii_digit bytes 0 (omega arith) in let here = all (digit_count bytes) lt in cc)
      | inr enough ↦ enough
    ]

pub digit_count_within : (bytes : List ℕ) → digit_count bytes ≤ length bytes
digit_count_within bytes = prefix_len-le-length is_ascii_digit bytes
