-- Moments that have a line.
use Rattle.std.specs.Prelude.{IsTrue}
use Rattle.datetime_wall.specs.Wall.{Shown, IsWallClock}
use Rattle.instants_answers.specs.Text.{has_written_year}

-- the calendar has the day that is shown, and four digits write its year
abbrev pub IsWritten : Shown → Type 0
IsWritten m = IsWallClock m.wall × IsTrue (has_written_year m)
