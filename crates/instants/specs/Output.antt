-- Lines of a stream that are answered by date-times.
use Rattle.std.specs.Prelude.{◌≡◌, ◌≤◌, ℕ, List, ◌∷◌, ◌++◌, length}
use Rattle.std.specs.List.{flat_map}
use Rattle.datetime_wall.specs.Wall.{Shown}
use Rattle.instants_stream.specs.Lines.{lines}
use Rattle.instants_stream.specs.Answers.{answered}
use Rattle.instants.specs.Answered.{IsAnswered}
use Rattle.instants_timeline.specs.Place.{Setting, answer_to}

-- a line of a stream, between the lines before and after it, is within the limit and answered by a date-time
pub record IsAnsweredIn (setting : Setting) (limit : ℕ) (stream : List ℕ) (before : List (List ℕ)) (line : List ℕ) (after : List (List ℕ)) (named : Shown) : Type 0 where
  pub stands : lines stream ≡ before ++ line ∷ after
  pub within : length line ≤ limit
  pub answered : IsAnswered setting line named

-- what is written for lines
abbrev pub written : Setting → ℕ → List (List ℕ) → List ℕ
written setting limit some = flat_map (answered (answer_to setting) limit) some
