-- What ends a run, as what ends the program.
use Rattle.instants_faults.specs.declared.program_fault.ProgramFault.{ProgramFault}
use Rattle.instants_faults.specs.declared.program_fault.ProgramFault.TheVariants as program
use Rattle.instants_faults.specs.declared.runs_fault.RunsFault.{RunsFault}
use Rattle.instants_faults.specs.declared.runs_fault.RunsFault.TheVariants as runs

-- the same fault as one of the program
abbrev pub of_runs : RunsFault → ProgramFault
of_runs runs.Memory = program.Memory
of_runs (runs.Run fault) = program.Run fault
