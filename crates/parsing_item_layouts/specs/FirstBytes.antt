-- Lines that begin otherwise than all that is read.
use Rattle.std.specs.Prelude.{◌≡◌, ◌&&◌, ℕ, Bool, true, not, List, [], None, get_or, nat_lt, if◌then◌else◌}
use Rattle.std.specs.Result.{result_ok}
use Rattle.parsing_components.specs.Meaning.{Meaning}
use Rattle.parsing_components.specs.declared.fields.Record.{Record}
use Rattle.parsing_item_layouts.specs.declared.first_bytes.FirstBytes.{FirstBytes}

-- the bytes that can stand at a place of a line that is read; after the fourth place none is left out
abbrev pub bytes_at : FirstBytes → ℕ → List Bool
bytes_at f place = if nat_lt place 4 then get_or f.places place [] else []

-- whether a byte can stand at a place
abbrev pub can_stand : FirstBytes → ℕ → ℕ → Bool
can_stand f place byte = get_or (bytes_at f place) byte true

-- whether the byte at a place of a line can stand there; after the line stands 0
abbrev pub fits_at : FirstBytes → List ℕ → ℕ → Bool
fits_at f line place = can_stand f place (get_or line place 0)

-- whether one of the first four bytes can't stand at its place
unfoldable pub rule_out : FirstBytes → List ℕ → Bool
rule_out f line = not (fits_at f line 0 && (fits_at f line 1 && (fits_at f line 2 && fits_at f line 3)))

-- no byte of a line can't stand at its place
abbrev pub Fits : FirstBytes → List ℕ → Type 0
Fits f line = (place : ℕ) → fits_at f line place ≡ true

-- a line with this byte at this place is refused, whatever record reading begins with
abbrev pub IsRefusedAt : Meaning → ℕ → ℕ → Type 0
IsRefusedAt meaning place byte = (line : List ℕ) → get_or line place 0 ≡ byte → (r : Record) → result_ok (meaning r line) ≡ None

-- what they rule out is refused
abbrev pub AreOf : Meaning → FirstBytes → Type 0
AreOf meaning first_bytes = (line : List ℕ) → rule_out first_bytes line ≡ true → (r : Record) → result_ok (meaning r line) ≡ None
