use Rattle.std.proofs.Common.{arith, lit≤, ℕ}
use Rattle.std.proofs.lemmas.List.{get_or-replicate}
use Rattle.parsing_places.proofs.last.calls.places_before.Goals as goal

pub loop-place-init : goal.loop-place-init
loop-place-init c = ((λ k lt. absurd (omega (arith, lt))), (λ k le lt. rw (get_or-replicate {A = ℕ} 32 k 128 0 lt) (lit≤ tt)))
