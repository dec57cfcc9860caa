-- A shape is a set of byte strings with what each of them says. What is taken from the start of the bytes is the longest prefix in the shape.
use Rattle.std.specs.Prelude.{ℕ, zero, suc, ◌-◌, ◌&&◌, ◌||◌, Bool, false, List, [], ◌∷◌, length, take, drop, Option, Some, None, option_map, nat_le, nat_lt, ◌==◌, if◌then◌else◌}
use Rattle.std.specs.List.{list_all, prefix_len}
use Rattle.std.specs.Char.{is_ascii_digit}
use Rattle.std.specs.Str.Parse.{digits_value}
use Rattle.parsing_combinator.specs.Pieces.{Piece, nanoseconds_of}

-- what a byte string says, or that it is not of the shape
abbrev pub Shape : Type 0 → Type 0
Shape A = List ℕ → Option A

abbrev pub or_before : {A : Type 0} → Option A → Option A → Option A
or_before (Some x) before = Some x
or_before None before = before

-- what is found at the greatest number up to n at which something is
abbrev pub greatest : {A : Type 0} → (ℕ → Option A) → ℕ → Option A
greatest f zero = f 0
greatest f (suc n) = or_before (f (suc n)) (greatest f n)

-- the prefix of k bytes, where it is in the shape: what it says, and the bytes after it
abbrev pub prefix : {A : Type 0} → Shape A → List ℕ → ℕ → Option (A × List ℕ)
prefix shape bytes k = option_map (λ x. (x, drop k bytes)) (shape (take k bytes))

-- the longest prefix in the shape
unfoldable pub taken : {A : Type 0} → Shape A → Piece A
taken shape bytes = greatest (prefix shape bytes) (length bytes)

-- ---- the shapes

abbrev pub is_sign : ℕ → Bool
is_sign c = (c == 43) || (c == 45)

abbrev pub is_space : ℕ → Bool
is_space c = c == 32

abbrev pub space_count : List ℕ → ℕ
space_count bytes = prefix_len is_space bytes

-- no byte string
unfoldable pub nothing : {A : Type 0} → Shape A
nothing text = None

-- n to m digits
abbrev pub are_digits : ℕ → ℕ → List ℕ → Bool
are_digits n m text = nat_le n (length text) && nat_le (length text) m && list_all is_ascii_digit text

-- n to m digits, and a value of them
unfoldable pub digits_as : {A : Type 0} → (List ℕ → A) → ℕ → ℕ → Shape A
digits_as value n m text = if are_digits n m text then Some (value text) else None

-- the number that they write
abbrev pub digits_between : ℕ → ℕ → Shape ℕ
digits_between = digits_as (digits_value 10)

-- the nanoseconds of a second that they write after the point
abbrev pub fraction_between : ℕ → ℕ → Shape ℕ
fraction_between = digits_as nanoseconds_of

-- fewer than n spaces, then digits: n to m bytes in all
abbrev pub after_spaces : ℕ → ℕ → ℕ → List ℕ → Option ℕ
after_spaces spaces n m text = if nat_lt spaces n then digits_between (n - spaces) (m - spaces) (drop spaces text) else None

unfoldable pub spaced_between : ℕ → ℕ → Shape ℕ
spaced_between n m text = after_spaces (space_count text) n m text

-- one shape after a sign, another where there is none; and whether the sign is a minus
unfoldable pub signed : {A : Type 0} → Shape A → Shape A → Shape (Bool × A)
signed after bare [] = option_map (λ x. (false, x)) (bare [])
signed after bare (c ∷ cs) = if is_sign c then option_map (λ x. (c == 45, x)) (after cs) else option_map (λ x. (false, x)) (bare (c ∷ cs))
