use Rattle.std.proofs.Common.{ℕ, ◌+◌, ◌-◌, ◌≤◌, List, ◌++◌, length, ap, ◌∙◌, arith}
use Rattle.instants_answers.specs.Padded.{padded-take}
use Rattle.instants_answers.proofs.AppendLemmas.{IsPadded_append, take_append}
use Rattle.instants_answers.proofs.answer.Answer.push_bytes.Goals as goal

-- there is room
fits : (g : goal.After-self-1) → g.self.inside.len + length g.args.bytes.now ≤ 64
fits c = omega (arith, ap length c.self.view_is, (padded-take c.self.inside.len c.self.inside.bytes c.self.invariant).0, c.requires)

pub invariant_of-self : goal.invariant_of-self
invariant_of-self c =
    let q = c.self.inside in
    let n = length c.args.bytes.now in
    IsPadded_append q.len n (q.len + n - q.len) q.bytes c.copy_from_slice.new.self c.self.invariant (ap length c.copy_from_slice.ensures.after) (omega arith) (fits c)

pub returns : goal.returns
returns c =
    let q = c.self.inside in
    let n = length c.args.bytes.now in
    take_append q.len n (q.len + n - q.len) q.bytes c.copy_from_slice.new.self c.self.invariant (ap length c.copy_from_slice.ensures.after) (omega arith) (fits c)
    ∙ ap (λ (l : List ℕ). l ++ c.copy_from_slice.new.self) c.self.view_is ∙ ap (λ (l : List ℕ). c.args.self.now ++ l) c.copy_from_slice.ensures.after
