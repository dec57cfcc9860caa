-- Lines that are answered by date-times.
use Rattle.std.specs.Prelude.{◌≡◌, ℕ, List, Ok, IsOk, ℤ}
use Rattle.datetime_wall.specs.Wall.{Shown}
use Rattle.instants_timeline.specs.Place.{Setting, first_named, place_of}

-- the first source with a moment names this one for the line, and the target shows it in a year of four digits
pub record IsAnswered (setting : Setting) (line : List ℕ) (named : Shown) : Type 0 where
  pub first : first_named setting.assumed setting.sources line ≡ Ok named
  pub placed : IsOk (place_of setting line)

-- a setting with another target
abbrev pub with_target : Setting → ℤ → Setting
with_target setting target = record setting { target = target }
