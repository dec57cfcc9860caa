use Rattle.instants_lines.proofs.Handed.{handed_said, handed_next}
use Rattle.instants_lines.proofs.laws.handed_on.Goals as goal

pub returns : goal.returns
returns c = record {
  said = λ going line other. handed_said going line other;
  next = λ going line other. handed_next going line other;
}
