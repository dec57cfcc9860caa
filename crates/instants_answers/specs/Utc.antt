-- Moments in UTC.
use Rattle.std.specs.Prelude.{IsTrue, ℤ, pos}
use Rattle.datetime_wall.specs.Wall.{Shown, instant, IsWallClock}
use Rattle.instants_answers.specs.Text.{has_written_year}

-- an instant as a clock in UTC shows it
abbrev pub in_utc : ℤ → Shown
in_utc i = record { wall = i; offset = pos 0 }

-- the calendar has the moment's day in UTC, and four digits write its year
pub record FitsUtcLine (m : Shown) : Type 0 where
  pub day : IsWallClock (instant m)
  pub year : IsTrue (has_written_year (in_utc (instant m)))
