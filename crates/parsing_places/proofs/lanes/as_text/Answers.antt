use Rattle.std.proofs.Common.{arith, refl, ◌∙◌}
use Rattle.std.proofs.lemmas.Bool.{lt-ltb, le-ltb}
use Rattle.parsing_places.proofs.LaneLemmas.{text_at}
use Rattle.parsing_places.proofs.lanes.as_text.Goals as goal

pub returns-clause-text : goal.returns-clause-text
returns-clause-text c = λ k lt. text_at c.args.digits k (omega (arith, c)) (omega (arith, lt)) ∙ rw (lt-ltb k 9 lt) refl

pub returns-clause-rest : goal.returns-clause-rest
returns-clause-rest c = λ k le lt is. text_at c.args.digits k (omega (arith, c)) lt ∙ rw (le-ltb k 9 le, is) refl
