-- The bytes that a text begins with, whatever it says.
use Rattle.std.specs.Prelude.{◌≡◌, ◌<◌, ◌==◌, ◌||◌, ℕ, Bool, true, false, List, [], ◌∷◌, get_or, drop, nat_lt, if◌then◌else◌}
use Rattle.std.specs.Char.{is_ascii_digit, to_ascii_lowercase}
use Rattle.std.specs.List.{list_any}
use Rattle.parsing_combinator.specs.Shape.{is_sign, is_space}
use Rattle.parsing_layout.specs.Layout.{Names, Part}
use Rattle.parsing_layout.specs.declared.parts.Names.TheVariants as names
use Rattle.parsing_layout.specs.declared.parts.Part.TheVariants as part
pub use Rattle.parsing_layout.specs.declared.stretch.Kind.{Kind}
use Rattle.parsing_layout.specs.declared.stretch.Kind.TheVariants as kind
pub use Rattle.parsing_layout.specs.declared.stretch.Stretch.{Stretch}

-- ---- kinds of bytes

-- the small letters that names begin with
abbrev pub initials : Names → List ℕ
initials names.ShortMonth = 106 ∷ 102 ∷ 109 ∷ 97 ∷ 115 ∷ 111 ∷ 110 ∷ 100 ∷ []
initials names.LongMonth = 106 ∷ 102 ∷ 109 ∷ 97 ∷ 115 ∷ 111 ∷ 110 ∷ 100 ∷ []
initials names.ShortWeekday = 109 ∷ 116 ∷ 119 ∷ 102 ∷ 115 ∷ []
initials names.LongWeekday = 109 ∷ 116 ∷ 119 ∷ 102 ∷ 115 ∷ []
initials names.HalfOfDay = 97 ∷ 112 ∷ []

-- one of these letters first, in any case, and then what lies after the digits
abbrev pub name_stands : List ℕ → ℕ → ℕ → Bool
name_stands letters place c = if place == 0 then list_any (λ initial. initial == to_ascii_lowercase c) letters else nat_lt 57 c

-- whether a byte of a kind can stand at a place
abbrev pub stands : Kind → ℕ → ℕ → Bool
stands (kind.Only b) place c = c == b
stands kind.Any place c = true
stands kind.Digit place c = is_ascii_digit c
stands kind.DigitOrSpace place c = is_ascii_digit c || is_space c
stands kind.Sign place c = is_sign c
stands (kind.Letter n) place c = name_stands (initials n) place c

-- ---- stretches of them

-- each of so many first bytes can stand at its place; after the line stands 0
abbrev pub Begins : (ℕ → ℕ → Bool) → ℕ → List ℕ → Type 0
Begins test least line = (place : ℕ) → place < least → test place (get_or line place 0) ≡ true

-- .. and this stands after them, where there are no more
abbrev pub Leaves : (ℕ → ℕ → Bool) → ℕ → Bool → List ℕ → List ℕ → Type 0
Leaves test least whole line rest = Begins test least line × (whole ≡ true → rest ≡ drop least line)

-- a stretch stands at the start of a line, and this after it
abbrev pub IsCut : Stretch → List ℕ → List ℕ → Type 0
IsCut s line rest = Leaves (stands s.kind) s.least s.is_whole line rest

-- ---- the stretches of parts

abbrev pub least_name : Names → ℕ
least_name names.HalfOfDay = 2
least_name other = 3

abbrev pub has_one_length : Names → Bool
has_one_length names.LongMonth = false
has_one_length names.LongWeekday = false
has_one_length other = true

abbrev pub exactly : Kind → ℕ → Stretch
exactly k n = record { kind = k; least = n; is_whole = true }

abbrev pub at_least : Kind → ℕ → Stretch
at_least k n = record { kind = k; least = n; is_whole = false }

abbrev pub stretch_of : Part → Stretch
stretch_of (part.Byte b) = exactly (kind.Only b) 1
stretch_of part.Any = exactly kind.Any 1
stretch_of (part.Digits f n) = exactly kind.Digit n
stretch_of (part.Bare f) = at_least kind.Digit 1
stretch_of (part.Spaced f) = exactly kind.DigitOrSpace 2
stretch_of (part.Name n case_counts) = record { kind = kind.Letter n; least = least_name n; is_whole = has_one_length n }
stretch_of part.Sign = exactly kind.Sign 1
stretch_of (part.Fraction n) = exactly kind.Digit n
stretch_of part.OpenFraction = at_least kind.Digit 1
stretch_of (part.Run f most) = at_least kind.Digit 1
