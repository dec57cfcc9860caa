-- Sums of durations one after another.
use Rattle.std.specs.Prelude.{ℕ, List, take, fold, ℤ, pos, ◌+ℤ◌}
use Rattle.calendar_spans.specs.Duration.{IsDuration}

abbrev pub total : List ℤ → ℤ
total xs = fold ◌+ℤ◌ (pos 0) xs

-- the sum of each prefix of a list is a duration
abbrev pub HasPartialSums : List ℤ → Type 0
HasPartialSums xs = (n : ℕ) → IsDuration (total (take n xs))
