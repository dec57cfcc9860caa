use Rattle.std.proofs.Common.{◌≡◌, ℕ, ◌+◌, ◌-◌, ◌≤◌, List, ◌++◌, length, take, drop, replicate, ap, ◌∙◌, arith}
use Rattle.instants_answers.specs.Padded.{padded-take}
use Rattle.instants_answers.proofs.AppendLemmas.{IsPadded_padded, take_padded}
use Rattle.instants_answers.proofs.answer.Answer.push_prefix.Goals as goal

-- there is room
fits : (g : goal.After-self-1) → g.self.inside.len + length g.args.bytes.now ≤ 64
fits c = omega (arith, ap length c.self.view_is, (padded-take c.self.inside.len c.self.inside.bytes c.self.invariant).0, c.requires.room)

zeros : (g : goal.After-self-1) → drop g.args.count g.copy_from_slice.new.self ≡ replicate (length g.args.bytes.now - g.args.count) 0
zeros c = ap (drop c.args.count) c.copy_from_slice.ensures.after ∙ c.requires.zeros

pub invariant_of-self : goal.invariant_of-self
invariant_of-self c =
    let q = c.self.inside in
    let n = length c.args.bytes.now in
    IsPadded_padded q.len n (q.len + n - q.len) q.bytes c.copy_from_slice.new.self c.self.invariant (ap length c.copy_from_slice.ensures.after) (omega arith) (fits c) c.args.count c.requires.few (zeros c)

pub returns : goal.returns
returns c =
    let q = c.self.inside in
    let n = length c.args.bytes.now in
    take_padded q.len n (q.len + n - q.len) q.bytes c.copy_from_slice.new.self c.self.invariant (ap length c.copy_from_slice.ensures.after) (omega arith) (fits c) c.args.count c.requires.few (zeros c)
    ∙ ap (λ (l : List ℕ). l ++ take c.args.count c.copy_from_slice.new.self) c.self.view_is ∙ ap (λ (l : List ℕ). c.args.self.now ++ take c.args.count l) c.copy_from_slice.ensures.after
