-- A count is what the digits write.
use Rattle.std.proofs.Common.{◌≡◌, ℕ, ◌<◌, ◌≤◌, ◌^◌, ◌&&◌, true, List, [], ◌∷◌, length, Result, Some, None, refl, ap, ◌∙◌, arith, inl, inr, nat_lt}
use Rattle.std.specs.Prelude.{if◌then◌else◌}
use Rattle.std.proofs.lemmas.Bool.{cases_lt}
use Rattle.std.specs.Result.{OkIff}
use Rattle.std.specs.Char.{is_ascii_digit}
use Rattle.std.specs.List.{list_all}
use Rattle.std.specs.Str.{all_ascii_digits}
use Rattle.std.specs.Str.Parse.{ParsesUnsigned, digits_value}
use Rattle.std.proofs.lemmas.Str.Parse.{parse_digits, numerals_by_value, tells_all_ascii_digits}
use Rattle.std.proofs.lemmas.Bool.Decides.{nat_tests}
use Rattle.description_tables.specs.Values.{count_of}

all_same : (word : List ℕ) → all_ascii_digits word ≡ list_all is_ascii_digit word
all_same [] = refl
all_same (b ∷ bs) = ap (λ r. is_ascii_digit b && r) (all_same bs)

pub parsed : {E : Type 0} (word : List ℕ) (r : Result ℕ E) → list_all is_ascii_digit word ≡ true → ParsesUnsigned 16 10 word r → OkIff r ((0 < length word) × (digits_value 10 word < 2 ^ 16)) (digits_value 10 word)
parsed word r digits h = parse_digits (numerals_by_value _ tells_all_ascii_digits) 16 word r h (all_same word ∙ digits)

pub count_too_great : (word : List ℕ) → list_all is_ascii_digit word ≡ true → ((0 < length word) × (digits_value 10 word < 2 ^ 16) → ⊥) → None ≡ count_of word
unfolding count_of
count_too_great [] digits h = refl
count_too_great (b ∷ bs) digits h =
    elim (cases_lt (digits_value 10 (b ∷ bs)) (2 ^ 16)) [
      | inl lt ↦ absurd (h (omega arith, lt))
      | inr le ↦ rw digits (too_great (digits_value 10 (b ∷ bs)) le)
    ]
  where
    too_great : (n : ℕ) → 2 ^ 16 ≤ n → None ≡ (if nat_lt 0 n && nat_lt n 65536 then Some n else None)
    too_great n le = grind (arith, nat_tests)
