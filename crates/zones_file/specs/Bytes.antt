-- Numbers in a file, RFC 9636, section 3: the most significant byte comes first, and a sign is in two's complement.
use Rattle.std.specs.Prelude.{ℕ, ◌+◌, ℤ, List, [], ◌∷◌, ◌++◌, slice_index}
use Rattle.std.specs.Int.{from_be_bytes, cast_signed, w32, w64}

-- four bytes from a place on, and eight
abbrev pub four_at : List ℕ → ℕ → List ℕ
four_at bytes place = slice_index bytes place ∷ slice_index bytes (place + 1) ∷ slice_index bytes (place + 2) ∷ slice_index bytes (place + 3) ∷ []

abbrev pub eight_at : List ℕ → ℕ → List ℕ
eight_at bytes place = four_at bytes place ++ four_at bytes (place + 4)

-- a count, and signed numbers
abbrev pub be_u32 : List ℕ → ℕ → ℕ
be_u32 bytes place = from_be_bytes w32 (four_at bytes place)

abbrev pub be_i32 : List ℕ → ℕ → ℤ
be_i32 bytes place = cast_signed w32 (from_be_bytes w32 (four_at bytes place))

abbrev pub be_i64 : List ℕ → ℕ → ℤ
be_i64 bytes place = cast_signed w64 (from_be_bytes w64 (eight_at bytes place))
