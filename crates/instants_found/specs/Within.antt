-- Where a date that is found lies.
use Rattle.std.specs.Prelude.{◌<◌, ◌≤◌, ℕ, List, length}
use Rattle.instants_found.specs.Found.{looked_at}
use Rattle.instants_found.specs.declared.found.Found.{Found}
use Rattle.instants_found.specs.declared.found.Finding.{Finding}
use Rattle.instants_found.specs.declared.found.Finding.TheVariants.{Doubtful, There}

-- a date lies within so many bytes, and is read by one of so many sources
pub record LiesWithin (bytes sources : ℕ) (date : Found) : Type 0 where
  pub start : date.start ≤ bytes
  pub end : date.end ≤ bytes
  pub source : date.source < sources

-- what is found lies within a line, and a place of dates in doubt within the bytes of it that are looked at
abbrev pub IsWithin : ℕ → List ℕ → ℕ → Finding → Type 0
IsWithin limit line sources (Doubtful place) = place < length (looked_at limit line)
IsWithin limit line sources (There date) = LiesWithin (length line) sources date
