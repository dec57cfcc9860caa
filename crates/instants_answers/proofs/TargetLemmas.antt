-- The text of an offset, with zeros after it.
use Rattle.std.proofs.Common.{◌≡◌, ℕ, ◌+◌, ◌/◌, ◌%◌, ◌-◌, ◌≤◌, List, [], ◌∷◌, ◌++◌, length, take, drop, replicate, lit≤, Bool, true, false, codes, length-append, refl, ap, ◌∙◌, arith, ℤ, pos}
use Rattle.std.specs.Prelude.{int_lt, unsigned_abs, if◌then◌else◌}
use Rattle.std.specs.Ordering.{int_eq}
use Rattle.std.proofs.lemmas.List.{take_at, drop_at, length-replicate, take_more_set}
use Rattle.base.specs.Bytes.{line_feed}
use Rattle.parsing_values.proofs.lemmas.Decimals.{decimal_length}
use Rattle.parsing_values.specs.Decimal.{decimal}
use Rattle.instants_answers.specs.Text.{offset_text}
use Rattle.instants_answers.specs.Padded.{padded_offset, ended_offset, offset_len}

pub zulu : (z : ℤ) → z ≡ pos 0 → (90 ∷ 0 ∷ 0 ∷ 0 ∷ 0 ∷ 0 ∷ 0 ∷ 0 ∷ []) ≡ padded_offset z
unfolding offset_text
zulu z e = rw e refl

pub zulu_len : (z : ℤ) → z ≡ pos 0 → 1 ≡ offset_len z
unfolding offset_text
zulu_len z e = rw e refl

-- a sign, and the digits of hours and minutes
pub record Signs (z : ℤ) (s : ℕ) : Type 0 where
  pub not_zero : int_eq z (pos 0) ≡ false
  pub sign : s ∷ [] ≡ (if int_lt z (pos 0) then codes "-" else codes "+")
  pub range : unsigned_abs z ≤ 86_340

same_six : (s a b c d a' b' c' d' : ℕ) → a ≡ a' → b ≡ b' → c ≡ c' → d ≡ d' → (s ∷ a ∷ b ∷ 58 ∷ c ∷ d ∷ 0 ∷ 0 ∷ []) ≡ (s ∷ a' ∷ b' ∷ 58 ∷ c' ∷ d' ∷ 0 ∷ 0 ∷ [])
same_six s a b c d a' b' c' d' ea eb ec ed = cc

pub signed_text : (z : ℤ) (s a b c d : ℕ) → Signs z s → a ≡ 48 + unsigned_abs z / 60 / 60 / 10 → b ≡ 48 + unsigned_abs z / 60 / 60 % 10 → c ≡ 48 + unsigned_abs z / 60 % 60 / 10 → d ≡ 48 + unsigned_abs z / 60 % 60 % 10
    → (s ∷ a ∷ b ∷ 58 ∷ c ∷ d ∷ 0 ∷ 0 ∷ []) ≡ padded_offset z
unfolding offset_text decimal
signed_text z s a b c d is ea eb ec ed =
    let h = is.range in
    rw (is.not_zero, ← is.sign) (same_six s a b c d _ _ _ _ (omega (arith, ea, h)) (omega (arith, eb, h)) (omega (arith, ec, h)) (omega (arith, ed, h)))

pub signed_len : (z : ℤ) (s : ℕ) → Signs z s → 6 ≡ offset_len z
unfolding offset_text decimal
signed_len z s is = rw (is.not_zero, ← is.sign) refl

by_signs : (zero less : Bool) (hours minutes : List ℕ) → length hours ≡ 2 → length minutes ≡ 2
    → length (if zero then codes "Z" else (if less then codes "-" else codes "+") ++ hours ++ codes ":" ++ minutes) ≡ (if zero then 1 else 6)
by_signs true less hours minutes h m = refl
by_signs false true hours minutes h m = let long : length (hours ++ codes ":" ++ minutes) ≡ 5 = length-append (hours ++ codes ":") minutes ∙ omega (arith, length-append hours (codes ":"), h, m) in omega (arith, long)
by_signs false false hours minutes h m = let long : length (hours ++ codes ":" ++ minutes) ≡ 5 = length-append (hours ++ codes ":") minutes ∙ omega (arith, length-append hours (codes ":"), h, m) in omega (arith, long)

pub text_len : (z : ℤ) → offset_len z ≡ (if int_eq z (pos 0) then 1 else 6)
unfolding offset_text
text_len z = by_signs (int_eq z (pos 0)) (int_lt z (pos 0)) (decimal 2 (unsigned_abs z / 3600)) (decimal 2 (unsigned_abs z / 60 % 60)) (decimal_length 2 _) (decimal_length 2 _)

few : (zero : Bool) → (if zero then 1 else 6) ≤ 6
few true = lit≤ tt
few false = lit≤ tt

pub text_small : (z : ℤ) → offset_len z ≤ 6
text_small z = omega (arith, text_len z, few (int_eq z (pos 0)))

pub text_few : (z : ℤ) → offset_len z ≤ 8
text_few z = omega (arith, text_small z)

pub padded_len : (z : ℤ) → length (padded_offset z) ≡ 8
padded_len z = length-append (offset_text z) (replicate (8 - offset_len z) 0) ∙ omega (arith, length-replicate {A = ℕ} (8 - offset_len z) 0, text_few z)

pub text_prefix : (z : ℤ) → take (offset_len z) (padded_offset z) ≡ offset_text z
text_prefix z = take_at (offset_text z) (replicate (8 - offset_len z) 0) (offset_len z) refl

-- the text and a line feed
pub ended_prefix : (z : ℤ) → take (offset_len z + 1) (ended_offset z) ≡ offset_text z ++ line_feed ∷ []
ended_prefix z = take_more_set (padded_offset z) (offset_len z) line_feed (omega (arith, padded_len z, text_small z)) ∙ ap (λ l. l ++ line_feed ∷ []) (text_prefix z)

pub text_zeros : (z : ℤ) → drop (offset_len z) (padded_offset z) ≡ replicate (8 - offset_len z) 0
text_zeros z = drop_at (offset_text z) (replicate (8 - offset_len z) 0) (offset_len z) refl

-- the length of a line whose offset is or isn't zero
pub line_len : (zero : Bool) → 29 + (if zero then 1 else 6) ≡ (if zero then 30 else 35)
line_len true = refl
line_len false = refl
