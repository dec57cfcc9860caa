-- What lines leave as it is.
use Rattle.std.proofs.Common.{ℕ, ◌+◌, nat_lt, true, false, List, [], ◌∷◌, length, take}
use Rattle.std.specs.Prelude.{if◌then◌else◌}
use Rattle.instants_stream.specs.Steps.{state_within, line_next, after}
use Rattle.instants_lines.specs.Going.{Going, next_in, lines_steps}

module _ (P : Going → Type 0) (leaves : (going : Going) (line : List ℕ) → P going → P (next_in going.mode going line)) (many : ℕ) where
  after_line : (going : Going) (line : List ℕ) → P going → P (line_next lines_steps many going line)
  unfolding line_next state_within
  after_line going line p =
      elim (nat_lt many (length line)) as (λ longer. P (if longer then next_in going.mode going (take (many + 1) line) else next_in going.mode going line)) [
        | true ↦ leaves going (take (many + 1) line) p
        | false ↦ leaves going line p
      ]

  pub after_lines : (going : Going) (some : List (List ℕ)) → P going → P (after lines_steps many going some)
  unfolding after
  after_lines going [] p = p
  after_lines going (line ∷ others) p = after_lines (line_next lines_steps many going line) others (after_line going line p)
