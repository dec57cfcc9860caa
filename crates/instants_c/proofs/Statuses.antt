-- The status of what is refused is not 0.
use Rattle.std.proofs.Common.{◌≡◌, ℕ, arith}
use Rattle.zones_file.specs.declared.fault.ZoneFault.{ZoneFault}
use Rattle.zones_file.specs.declared.fault.ZoneFault.TheVariants as zone
use Rattle.instants_words.specs.declared.fault.WordsFault.{WordsFault}
use Rattle.instants_words.specs.declared.fault.WordsFault.TheVariants as words
use Rattle.instants_faults.specs.ProgramText as instants
use Rattle.instants_faults.specs.declared.new_fault.NewFault.TheVariants as new
use Rattle.instants_faults.specs.declared.program_fault.ProgramFault.{ProgramFault}
use Rattle.instants_faults.specs.declared.program_fault.ProgramFault.TheVariants as program
use Rattle.instants_lines.specs.declared.lines_fault.LinesFault.TheVariants as lines
use Rattle.instants_lines_memory.specs.FaultText.{status_of}
use Rattle.instants_lines_memory.specs.declared.open_fault.OpenFault.{OpenFault}
use Rattle.instants_lines_memory.specs.declared.open_fault.OpenFault.TheVariants.{Lines, Zone, Mode}

of_zone : (why : ZoneFault) → status_of (Zone why) ≡ 0 → ⊥
of_zone zone.Long e = omega (arith, e)
of_zone zone.Header e = omega (arith, e)
of_zone zone.Version e = omega (arith, e)
of_zone zone.Length e = omega (arith, e)
of_zone zone.LeapSeconds e = omega (arith, e)
of_zone zone.UnknownType e = omega (arith, e)
of_zone zone.Offset e = omega (arith, e)
of_zone zone.Order e = omega (arith, e)
of_zone zone.Footer e = omega (arith, e)
of_zone zone.Crossing e = omega (arith, e)
of_zone zone.Disagrees e = omega (arith, e)
of_zone zone.Memory e = omega (arith, e)

of_words : (wrong : WordsFault) → instants.status_of (program.Words wrong) ≡ 0 → ⊥
of_words words.Usage e = omega (arith, e)
of_words words.Target e = omega (arith, e)
of_words words.Assumed e = omega (arith, e)
of_words words.Limit e = omega (arith, e)
of_words (words.Source place) e = omega (arith, e)
of_words words.Memory e = omega (arith, e)

of_program : (why : ProgramFault) → instants.status_of why ≡ 0 → ⊥
of_program (program.Words wrong) e = of_words wrong e
of_program (program.New (new.Source place fault)) e = omega (arith, e)
of_program (program.New new.Memory) e = omega (arith, e)
of_program (program.Run ended) e = omega (arith, e)
of_program program.Memory e = omega (arith, e)

pub some_status : (why : OpenFault) → status_of why ≡ 0 → ⊥
some_status (Lines (lines.Words wrong)) e = omega (arith, e)
some_status (Lines (lines.Zone name)) e = omega (arith, e)
some_status (Lines (lines.Lacks lacking)) e = omega (arith, e)
some_status (Lines (lines.Program why)) e = of_program why e
some_status (Zone why) e = of_zone why e
some_status Mode e = omega (arith, e)
