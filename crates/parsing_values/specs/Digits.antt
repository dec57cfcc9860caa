-- Digits that are kept as numbers: the nine of a fraction of a second, and the four of a year.
use Rattle.std.specs.Prelude.{◌≡◌, ℕ, ◌^◌, ◌<◌, List, [], ◌∷◌, ◌++◌}
use Rattle.std.specs.Int.{w32, w64, to_le_bytes}
use Rattle.parsing_combinator.specs.Pieces.{digit_count}

-- eight bytes as one number, the first one lowest, and the ninth
unfoldable pub nine_digits : ℕ → ℕ → List ℕ
nine_digits first last = to_le_bytes w64 first ++ last ∷ []

abbrev pub AreNineDigits : ℕ → ℕ → Type 0
AreNineDigits first last = (first < 2 ^ 64) × (digit_count (nine_digits first last) ≡ 9)

-- four bytes as one number, the first one lowest
abbrev pub four_digits : ℕ → List ℕ
four_digits digits = to_le_bytes w32 digits

abbrev pub AreFourDigits : ℕ → Type 0
AreFourDigits digits = (digits < 2 ^ 32) × (digit_count (four_digits digits) ≡ 4)
