use Rattle.parsing_places.proofs.ReadLemmas.{have_window}
use Rattle.parsing_places.proofs.shape.Window.taken_at.Goals as goal

pub returns-clause-above : goal.returns-clause-above
returns-clause-above c = λ k lt. rw (c.sixteen_from.ensures.bytes k lt) at (c.all_above-above.ensures.above k lt)

pub returns-clause-taken : goal.returns-clause-taken
returns-clause-taken c = λ fits. have_window _ _ _ c.all_above-above.result _ (λ k lt. rw (c.sixteen_from.ensures.bytes k lt) at (c.all_above-above.ensures.above k lt)) fits c.taken_by.ensures.taken c.taken_by.ensures.none
