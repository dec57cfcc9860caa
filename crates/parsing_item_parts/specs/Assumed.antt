-- The offset that is assumed for lines without one.
use Rattle.std.specs.Prelude.{◌≡◌, ◌*ℤ◌, Bool, false, Option, Ok, ℤ, pos}
use Rattle.parsing_components.specs.Prefix.{beginning}
use Rattle.parsing_components.specs.Whole.{offset_named}

-- where no offset is written, the one that is assumed has these minutes
abbrev pub Assumes : Bool → Option ℤ → ℤ → Type 0
Assumes written assumed minutes = written ≡ false → offset_named (beginning assumed) ≡ Ok (pos 60 *ℤ minutes)
