-- Bits for sixteen places.
use Rattle.std.specs.Prelude.{◌≡◌, ◌<◌, ℕ}
use Rattle.std.specs.Int.{bit_at}

-- there is a bit for each place, or none
abbrev pub AreAllOrNone : ℕ → Type 0
AreAllOrNone bits = (k : ℕ) → k < 16 → bit_at bits k ≡ 0 → bits ≡ 0
