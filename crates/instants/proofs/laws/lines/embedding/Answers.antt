use Rattle.instants.proofs.Answered.{embedded, equal_when}
use Rattle.instants.proofs.Written.{stands_in}
use Rattle.instants.proofs.laws.lines.embedding.Goals as goal

pub returns : goal.returns
returns c = record {
  order = λ one other x y m n e h g. (embedded one other x y m n e h g).gives;
  equality = equal_when;
  output = stands_in;
}
