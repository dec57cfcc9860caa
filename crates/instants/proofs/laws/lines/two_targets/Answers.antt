use Rattle.std.proofs.Common.{refl, sym, ◌∙◌}
use Rattle.instants.specs.Answered.{with_target}
use Rattle.instants.proofs.Answered.{embedded, equal_when}
use Rattle.instants.proofs.laws.lines.two_targets.Goals as goal

pub returns : goal.returns
returns c = record {
  order = λ one other target x y m n e h g k l.
      (embedded one other x y m n e h g).gives ∙ sym (embedded (with_target one target) (with_target other target) x y m n refl k l).gives;
  equality = λ one other target x y m n e h g k l.
      let here = equal_when one other x y m n e h g in
      let there = equal_when (with_target one target) (with_target other target) x y m n refl k l in
      (λ same. there.1 (here.0 same), λ same. here.1 (there.0 same));
}
