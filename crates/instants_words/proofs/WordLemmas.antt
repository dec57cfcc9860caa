-- Lemmas on what words say.
use Rattle.std.proofs.Common.{◌≡◌, ℕ, ◌+◌, ◌-◌, ◌*◌, ◌^◌, ◌<◌, ◌≤◌, true, List, [], ◌∷◌, length, take, get_or, refl, ap, ◌∙◌, arith, rules, tests}
use Rattle.std.proofs.Math.Nat.{pow-le-pow_right}
use Rattle.std.proofs.lemmas.List.Elements.{All-get_or}
use Rattle.std.proofs.lemmas.List.Sums.{AllPass-from_list_all}
use Rattle.std.proofs.lemmas.Str.{digit_value_digit}
use Rattle.std.specs.Char.{is_ascii_digit, digit_value}
use Rattle.std.specs.List.{list_all}
use Rattle.std.specs.Str.Parse.{digits_value}
use Rattle.std.proofs.lemmas.Int.Digits.{digits_value_more}
use Rattle.instants_words.specs.Pieces.{number_said, clock_seconds, with_sign, offset_said}

-- what a word of six bytes with a colon in the middle says
pub offset_said_six : (word : List ℕ) → length word ≡ 6 → get_or word 3 0 ≡ 58
    → offset_said word ≡ with_sign (get_or word 0 0) (clock_seconds (number_said 0 23 2 (get_or word 1 0 ∷ get_or word 2 0 ∷ [])) (number_said 0 59 2 (get_or word 4 0 ∷ get_or word 5 0 ∷ [])))
unfolding offset_said
offset_said_six (a ∷ b ∷ c ∷ d ∷ e ∷ f ∷ []) six colon = rw colon refl
offset_said_six word six colon = absurd (omega arith)

-- the value of a digit
pub digit_is : (b : ℕ) → is_ascii_digit b ≡ true → (digit_value b ≡ b - 48) × (b ≤ 57) × (48 ≤ b)
digit_is b e = let h : (48 ≤ b) × (b ≤ 57) = search (rules, tests) in let v = digit_value_digit b h in (omega (arith, v), h.1, h.0)

-- one more digit
pub digit_more : (word : List ℕ) (i : ℕ) → i < length word → is_ascii_digit (get_or word i 0) ≡ true → digits_value 10 (take (i + 1) word) ≡ digits_value 10 (take i word) * 10 + (get_or word i 0 - 48)
digit_more word i h e = digits_value_more 10 word i h ∙ ap (λ (d : ℕ). digits_value 10 (take i word) * 10 + d) (digit_is (get_or word i 0) e).0

-- each byte of digits is a digit
pub digit_at : (word : List ℕ) (i : ℕ) → list_all is_ascii_digit word ≡ true → i < length word → is_ascii_digit (get_or word i 0) ≡ true
digit_at word i all h = All-get_or (λ b. is_ascii_digit b ≡ true) word i 0 h (AllPass-from_list_all is_ascii_digit word all)

-- powers of ten up to the seventh
pub power_bound : (i : ℕ) → i ≤ 6 → 10 ^ i ≤ 1_000_000
power_bound i h = pow-le-pow_right (omega arith) h
