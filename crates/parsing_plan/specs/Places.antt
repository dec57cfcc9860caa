-- Places, Unix time, and the items that they stand for.
use Rattle.std.specs.Prelude.{ℤ, Option}
use Rattle.parsing_components.specs.Meaning.{Meaning}
use Rattle.parsing_item_parts.specs.Assumed.{Assumes}
use Rattle.parsing_item_parts.specs.declared.minutes.Minutes.{Minutes}
use Rattle.parsing_item_parts.specs.Items.{IsItem, parts_kept}
use Rattle.parsing_plan.specs.UnixTime.{IsUnixOf}
use Rattle.parsing_plan.specs.declared.places.Places.{Places}
use Rattle.parsing_plan.specs.declared.unix.UnixTime.{UnixTime}

-- what a text says by the parts, the items read
abbrev pub ArePlacesOf : Meaning → Places → Type 0
ArePlacesOf m places = IsItem m (parts_kept places.parts)

-- the items read as Unix time says
abbrev pub IsUnixTimeOf : Meaning → UnixTime → Type 0
IsUnixTimeOf m unix = IsUnixOf m unix.finer

-- where a line has no offset, the one that is assumed has these minutes
abbrev pub AssumesMinutes : Places → Minutes → Option ℤ → Type 0
AssumesMinutes places minutes assumed = Assumes places.front.beside.has_offset assumed minutes.number
