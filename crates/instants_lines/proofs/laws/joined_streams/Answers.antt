use Rattle.instants_stream.proofs.Lines.{last_part_none}
use Rattle.instants_lines.proofs.Joined.{joined, joined_others, joined_explained}
use Rattle.instants_lines.proofs.Carried.{joined_carried}
use Rattle.instants_lines.proofs.laws.joined_streams.Goals as goal

pub returns : goal.returns
returns c = record {
  joined = λ going limit first second ends. joined going limit first second (last_part_none first ends);
  others = λ going limit first second other years ends. joined_others going limit first second other years (last_part_none first ends);
  explained = λ going limit first second mode ends. joined_explained going limit first second mode (last_part_none first ends);
  carry = λ going first second line others finding mode years ends cut margin e.
      joined_carried going line others finding mode margin e second cut first years (last_part_none first ends);
}
