-- Numbers written with a fixed number of digits.
use Rattle.std.specs.Prelude.{ℕ, ◌+◌, ◌/◌, ◌%◌, ◌==◌, if◌then◌else◌, List, [], ◌∷◌, ◌++◌}
use Rattle.std.specs.List.{list_all}

-- the digits of a number below a hundred, below a thousand, and below a thousand million; `0` is 48
abbrev pub two_digits : ℕ → List ℕ
two_digits n = (48 + n / 10) ∷ (48 + n % 10) ∷ []

abbrev pub three_digits : ℕ → List ℕ
three_digits n = (48 + n / 100) ∷ (48 + n / 10 % 10) ∷ (48 + n % 10) ∷ []

abbrev pub nine_digits : ℕ → List ℕ
nine_digits n = three_digits (n / 1_000_000) ++ three_digits (n / 1000 % 1000) ++ three_digits (n % 1000)

-- digits without the zeros at their end, but for the first digit
unfoldable pub without_zeros : List ℕ → List ℕ
without_zeros [] = []
without_zeros (digit ∷ rest) = digit ∷ (if list_all (λ d. d == 48) rest then [] else without_zeros rest)
