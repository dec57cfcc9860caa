use Rattle.std.proofs.Common.{◌≡◌, ℕ, true, length, get_or}
use Rattle.parsing_item_layouts.proofs.first_bytes.joined.Given as goal

-- no byte of either is left out
abbrev pub invariant-loop-byte : goal.invariant-loop-byte
invariant-loop-byte l = (length l.bytes ≡ 256) × ((b : ℕ) → get_or l.some b true ≡ true → get_or l.bytes b true ≡ true) × ((b : ℕ) → get_or l.others b true ≡ true → get_or l.bytes b true ≡ true)
