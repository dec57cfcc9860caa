-- Bytes from one up to another.
use Rattle.std.specs.Prelude.{◌≡◌, ◌<◌, ◌+◌, ◌-◌, ◌^◌, ◌%◌, ℕ, nat_le, Bool, true, false, List, get_or}
use Rattle.instants_found.specs.declared.range.Range.{Range}

-- how far a byte lies above another, as a byte
abbrev pub above : ℕ → ℕ → ℕ
above byte low = (byte + 2 ^ 8 - low) % 2 ^ 8

-- a byte is in the range
abbrev pub is_within : Range → ℕ → Bool
is_within range byte = nat_le (above byte range.low.byte) range.span.byte

-- no byte outside of the range is marked in a table
abbrev pub AreWithin : List Bool → Range → Type 0
AreWithin table range = (byte : ℕ) → byte < 256 → is_within range byte ≡ false → get_or table byte true ≡ false
