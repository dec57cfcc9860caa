use Rattle.std.proofs.Common.{ℕ, ◌==◌, not, ap}
use Rattle.instants_edges.proofs.clock.begins_clock.Goals as goal

pub returns-then-is_ascii_digit : goal.returns-then-is_ascii_digit
returns-then-is_ascii_digit c = ap (λ (n : ℕ). not (n == 0)) c.begun.ensures.value
