use Rattle.instants_stream.proofs.Lines.{output-append, last_part_none}
use Rattle.instants_stream.proofs.laws.joined_streams.Goals as goal

pub returns : goal.returns
returns c = λ answer limit first second ends. output-append answer limit first second (last_part_none first ends)
