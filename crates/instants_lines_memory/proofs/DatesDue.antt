-- The dates of lines, one after another.
use Rattle.std.proofs.Common.{◌≡◌, ℕ, List, [], ◌∷◌, ap}
use Rattle.instants_stream.specs.Lines.{lines}
use Rattle.instants_lines.specs.Going.{Going, below}
use Rattle.instants_lines.specs.LineDates.{dates_from, numbered}

-- those of the next line and of the lines after it
pub next_dated : (going : Going) (rest after line : List ℕ) → lines rest ≡ line ∷ lines after → dates_from going (lines rest) ≡ numbered going line ∷ dates_from (below going line) (lines after)
unfolding dates_from
next_dated going rest after line first = ap (dates_from going) first

-- no line is left
pub none_dated : (going : Going) (rest : List ℕ) → lines rest ≡ [] → dates_from going (lines rest) ≡ []
unfolding dates_from
none_dated going rest none = ap (dates_from going) none
