use Rattle.instants_lines.proofs.Replaced.{lines_stay}
use Rattle.instants_lines.proofs.laws.lines_stay.Goals as goal

pub returns : goal.returns
returns c = record {
  fed = λ going stream e. (lines_stay going stream e).0;
  last = λ going stream e. (lines_stay going stream e).1;
}
