-- Decimal digits of fixed width.
use Rattle.std.specs.Prelude.{ℕ, zero, suc, ◌+◌, ◌/◌, ◌%◌, List, [], ◌∷◌, ◌++◌}
use Rattle.base.specs.Bytes.{digit_zero}

-- the last digits of a number, as many as the width says, as bytes of ASCII
unfoldable pub decimal : ℕ → ℕ → List ℕ
decimal zero n = []
decimal (suc width) n = decimal width (n / 10) ++ (digit_zero + n % 10) ∷ []
