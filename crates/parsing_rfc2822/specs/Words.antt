-- Three letters as one number.
use Rattle.std.specs.Prelude.{ℕ, ◌+◌, ◌*◌, List, slice_index, bit_or}

-- a byte with the bit by which small letters differ from big ones
abbrev pub small : ℕ → ℕ
small c = bit_or c 32

-- the first letter is the highest
unfoldable pub word_of : List ℕ → ℕ
word_of text =
    small (slice_index text 0) * 65_536 + small (slice_index text 1) * 256 + small (slice_index text 2)
