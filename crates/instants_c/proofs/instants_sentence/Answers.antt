use Rattle.std.proofs.Common.{◌≡◌, ◌⊎◌, ◌*◌, ◌≤◌, ℕ, List, [], length, Err, refl, sym, ap, subst, inl, inr, arith}
use Rattle.instants_stream.specs.Lines.{lines}
use Rattle.instants_stream.specs.declared.run.RunFault.TheVariants as run
use Rattle.instants_timeline.specs.Program.{IsBeforeRun, IsRefusedAs}
use Rattle.instants_faults.specs.declared.program_fault.ProgramFault.{ProgramFault}
use Rattle.instants_faults.specs.declared.program_fault.ProgramFault.TheVariants as program
use Rattle.instants_memory.proofs.Room.{few_lines}
use Rattle.instants_c.proofs.instants_sentence.Goals as goal

-- a fault that is none of the run is what is refused
early : (words : List (List ℕ)) (fault : ProgramFault) (P : Type 0) → (fault ≡ program.Run run.Write → ⊥) → (fault ≡ program.Run run.Read → ⊥)
    → (IsBeforeRun fault → IsRefusedAs words fault × P) → IsRefusedAs words fault
early words (program.Run run.Write) P write read refused = absurd (write refl)
early words (program.Run run.Read) P write read refused = absurd (read refl)
early words (program.Words fault) P write read refused = (refused tt).0
early words (program.New fault) P write read refused = (refused tt).0
early words program.Memory P write read refused = tt

-- so is lack of memory that is told in its place
told_so : (words : List (List ℕ)) (fault told : ProgramFault) → ((told ≡ fault) ⊎ (told ≡ program.Memory)) → IsRefusedAs words fault → IsRefusedAs words told
told_so words fault told (inl e) h = subst (IsRefusedAs words) (sym e) h
told_so words fault told (inr e) h = subst (IsRefusedAs words) (sym e) tt

no_room : 36 * length (lines []) ≤ 0
no_room = omega (arith, few_lines [])

pub returns-in-Err-clause-refused : goal.returns-in-Err-clause-refused
returns-in-Err-clause-refused c = λ some.
    let (told, which, status, len, output) = c.write.ensures.told in
    let refused = early _ c.in-Err.fault _ (λ e. c.in-Err.ensures.line_room no_room (ap Err e)) (λ e. c.in-Err.ensures.read (ap Err e)) c.in-Err.ensures.refused in
    (told, told_so _ c.in-Err.fault told which refused, status, len, output)
