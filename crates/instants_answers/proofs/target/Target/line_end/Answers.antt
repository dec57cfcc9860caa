use Rattle.std.proofs.Common.{◌∷◌, [], ◌++◌, ap, ◌∙◌, arith}
use Rattle.instants_answers.specs.Text.{offset_text}
use Rattle.instants_answers.proofs.TargetLemmas.{text_small, ended_prefix}
use Rattle.instants_answers.proofs.target.Target.line_end.Goals as goal

pub overflow_add-result : goal.overflow_add-result
overflow_add-result c = omega (arith, c.self.invariant.4, text_small c.self.inside.offset)

pub returns-clause-text : goal.returns-clause-text
returns-clause-text c =
    let q = c.self.inside in
    rw (c.self.invariant.4, c.self.invariant.3) (ended_prefix q.offset ∙ ap (λ z. offset_text z ++ 10 ∷ []) c.self.view_is)

pub returns-clause-len : goal.returns-clause-len
returns-clause-len c = omega (arith, c.self.invariant.4, text_small c.self.inside.offset)
