use Rattle.instants_lines.proofs.Wholly.{key_alone}
use Rattle.instants_lines.proofs.WhollyAssumed.{key_assumed}
use Rattle.instants_lines.proofs.laws.whole_line.Goals as goal

pub returns : goal.returns
returns c = record {
  alike = λ going grammar line moment none alone own e assumed some long text may likely first.
      key_alone going grammar line moment (c.two_roads_of_rfc3339.ensures line) (c.two_roads_of_rfc2822.ensures line) none alone own e assumed some long text may likely first;
  assumed = key_assumed;
}
