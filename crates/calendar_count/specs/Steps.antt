-- Steps round a cycle.
use Rattle.std.specs.Prelude.{ℕ, zero, suc}

-- where so many steps lead to
unfoldable pub steps : (ℕ → ℕ) → ℕ → ℕ → ℕ
steps next zero from = from
steps next (suc n) from = next (steps next n from)
