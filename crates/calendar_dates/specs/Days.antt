-- The days from one to another.
use Rattle.std.specs.Prelude.{ℕ, zero, suc, ◌+◌, ◌-◌, List, [], ◌∷◌}

-- so many counts, one after another
unfoldable pub counts_from : ℕ → ℕ → List ℕ
counts_from first zero = []
counts_from first (suc n) = first ∷ counts_from (first + 1) n

-- both ends included, and none where the last is earlier
abbrev pub days_between : ℕ → ℕ → List ℕ
days_between first last = counts_from first (last + 1 - first)
