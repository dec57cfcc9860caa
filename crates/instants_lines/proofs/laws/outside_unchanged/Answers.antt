use Rattle.instants_lines.proofs.Outside.{written, unwritten, doubtful, undated}
use Rattle.instants_lines.proofs.Within.{date_within}
use Rattle.instants_lines.proofs.laws.outside_unchanged.Goals as goal

pub returns : goal.returns
returns c = record { within = date_within; written = written; unwritten = unwritten; doubtful = doubtful; undated = undated }
