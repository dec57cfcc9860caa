-- Pieces: each cuts a prefix off the bytes, where they have such a prefix, and tells its value and the rest.
use Rattle.std.specs.Prelude.{ℕ, ◌*◌, ◌/◌, ◌^◌, ◌||◌, Bool, true, List, [], ◌∷◌, length, take, drop, Option, Some, None, option_map, nat_le, ◌==◌, if◌then◌else◌}
use Rattle.std.specs.List.{prefix_len}
use Rattle.std.specs.Char.{is_ascii_digit}
use Rattle.std.specs.Str.Parse.{digits_value}
use Rattle.std.specs.Borrow.{Bor}
use Rattle.base.specs.Bytes.{plus, hyphen}

abbrev pub Piece : Type 0 → Type 0
Piece A = List ℕ → Option (A × List ℕ)

-- what a function cut off, with the bytes after the reference
abbrev pub cut_view : {A : Type 0} → Option (A × Bor (List ℕ)) → Option (A × List ℕ)
cut_view r = option_map (λ p. (p.0, p.1.now)) r

-- the same for a value that is bytes
abbrev pub run_view : Option (Bor (List ℕ) × Bor (List ℕ)) → Option (List ℕ × List ℕ)
run_view r = option_map (λ p. (p.0.now, p.1.now)) r

-- what stands after what a function cut off, which tells no value
abbrev pub rest_view : Option (Bor (List ℕ)) → Option (Unit {0} × List ℕ)
rest_view r = option_map (λ rest. (tt, rest.now)) r

-- how many digits the bytes begin with
abbrev pub digit_count : List ℕ → ℕ
digit_count bytes = prefix_len is_ascii_digit bytes

-- exactly n digits, and the number that they write
unfoldable pub digits : ℕ → Piece ℕ
digits n bytes = if nat_le n (digit_count bytes) then Some (digits_value 10 (take n bytes), drop n bytes) else None

-- all digits that are there, at least one
unfoldable pub digit_run : Piece (List ℕ)
digit_run bytes = if digit_count bytes == 0 then None else Some (take (digit_count bytes) bytes, drop (digit_count bytes) bytes)

-- the whole nanoseconds of a fraction of a second with these digits after the point, however many they are
abbrev pub nanoseconds_of : List ℕ → ℕ
nanoseconds_of ds = digits_value 10 ds * 10 ^ 9 / 10 ^ length ds

-- all digits that are there, at least one, as a fraction of a second
unfoldable pub fraction : Piece ℕ
fraction bytes = option_map (λ p. (nanoseconds_of p.0, p.1)) (digit_run bytes)

-- one byte that passes
unfoldable pub byte_of : (ℕ → Bool) → Piece ℕ
byte_of p [] = None
byte_of p (x ∷ rest) = if p x then Some (x, rest) else None

-- `+` or `-`
abbrev pub sign : Piece ℕ
sign = byte_of (λ x. (x == plus) || (x == hyphen))

-- one byte that passes, and which one it is does not matter
unfoldable pub skip_of : (ℕ → Bool) → Piece (Unit {0})
skip_of p [] = None
skip_of p (x ∷ rest) = if p x then Some (tt, rest) else None

abbrev pub byte : ℕ → Piece (Unit {0})
byte c = skip_of (λ x. x == c)

abbrev pub any_byte : Piece (Unit {0})
any_byte = skip_of (λ _. true)
