use Rattle.std.proofs.Common.{length, ap, arith}
use Rattle.instants_answers.specs.Padded.{IsPadded-push, padded-take}
use Rattle.instants_answers.proofs.answer.Answer.push.Goals as goal

pub invariant_of-self : goal.invariant_of-self
invariant_of-self c =
    let q = c.self.inside in
    IsPadded-push q.len c.args.byte q.bytes c.self.invariant (omega (arith, ap length c.self.view_is, (padded-take q.len q.bytes c.self.invariant).0, c.requires))
