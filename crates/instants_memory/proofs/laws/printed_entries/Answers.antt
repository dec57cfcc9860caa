use Rattle.instants_memory.proofs.Printed.{printed_line, printed_output}
use Rattle.instants_memory.proofs.laws.printed_entries.Goals as goal

pub returns-clause-line : goal.returns-clause-line
returns-clause-line c = printed_line

pub returns-clause-output : goal.returns-clause-output
returns-clause-output c = printed_output
