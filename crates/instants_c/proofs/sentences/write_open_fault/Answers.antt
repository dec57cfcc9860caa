use Rattle.std.proofs.Common.{refl, inr}
use Rattle.instants_faults.specs.declared.program_fault.ProgramFault.TheVariants as program
use Rattle.instants_lines.specs.declared.lines_fault.LinesFault.TheVariants as lines
use Rattle.instants_lines_memory.specs.declared.open_fault.OpenFault.TheVariants as fault
use Rattle.instants_c.proofs.sentences.write_open_fault.Goals as goal

pub returns-in-Err : goal.returns-in-Err
returns-in-Err c = (fault.Lines (lines.Program program.Memory), inr refl, refl, c.put-in-Err.ensures)
