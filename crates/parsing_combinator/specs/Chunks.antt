-- Eight bytes as one number, the first byte the lowest.
use Rattle.std.specs.Prelude.{◌≡◌, ℕ, ◌+◌, ◌-◌, ◌*◌, ◌/◌, ◌%◌, ◌^◌, ◌<◌, ◌≤◌, List, [], ◌∷◌, ◌++◌, length, take, drop, replicate, None, bit_and, bit_xor}
use Rattle.std.specs.Int.{w64, trailing_zeros}
use Rattle.base.specs.Bytes.{digit_zero}
use Rattle.parsing_combinator.specs.Pieces.{digits, digit_count}

-- the number of these bytes
unfoldable pub chunk : List ℕ → ℕ
chunk [] = 0
chunk (b ∷ bs) = chunk bs * 256 + b

-- each of eight bytes has the high half of a digit, and so has the byte six above it
pub record AreEightDigits (number : ℕ) : Type 0 where
  pub here : bit_and number 17_361_641_481_138_401_520 ≡ 3_472_328_296_227_680_304
  pub above : bit_and ((number + 434_041_037_028_460_038) % 2 ^ 64) 17_361_641_481_138_401_520 ≡ 3_472_328_296_227_680_304

-- the first bytes and then the digit zero, eight in all
abbrev pub padded : ℕ → List ℕ → List ℕ
padded count bytes = take count bytes ++ replicate (8 - count) digit_zero

-- how many of eight bytes come before the first that has not the high half of a digit
unfoldable pub likely_digits : ℕ → ℕ
likely_digits number =
    trailing_zeros w64 (bit_xor (bit_and number 17_361_641_481_138_401_520) 3_472_328_296_227_680_304) / 8

-- the number of so many digits at the start, with the digit zero after them
pub record IsOfDigits (bytes : List ℕ) (number count : ℕ) : Type 0 where
  pub some : 0 < count
  pub few : count ≤ 8
  pub within : count ≤ length bytes
  pub number_is : number ≡ chunk (padded count bytes)
  pub digits_are : 8 ≤ digit_count (padded count bytes)

-- the same, where they are fewer than eight of all that are there
pub record IsDigitChunk (bytes : List ℕ) (number count : ℕ) : Type 0 where
  pub of_digits : IsOfDigits bytes number count
  pub ends : count < 8 → digits 1 (drop count bytes) ≡ None
