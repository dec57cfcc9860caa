use Rattle.std.proofs.Common.{◌≡◌, ◌⊎◌, ℕ, List, refl, sym, ap, ◌∙◌, subst, inl, inr}
use Rattle.instants_faults.specs.declared.program_fault.ProgramFault.TheVariants as program
use Rattle.instants_lines.specs.declared.lines_fault.LinesFault.TheVariants as lines
use Rattle.instants_lines_memory.specs.Zoned.{IsRefused}
use Rattle.instants_lines_memory.specs.declared.open_fault.OpenFault.{OpenFault}
use Rattle.instants_lines_memory.specs.declared.open_fault.OpenFault.TheVariants as fault
use Rattle.instants_c.proofs.Statuses.{some_status}
use Rattle.instants_c.proofs.line_calls.instants_lines_sentence.Goals as goal
use Rattle.instants_c.proofs.line_calls.instants_lines_sentence.Goals.{in-Ok, in-Err}

-- lack of memory that is told in the place of a fault is refused too
told_so : (words : List (List ℕ)) (zone : List ℕ) (why told : OpenFault) → ((told ≡ why) ⊎ (told ≡ fault.Lines (lines.Program program.Memory))) → IsRefused words zone why → IsRefused words zone told
told_so words zone why told (inl e) h = subst (IsRefused words zone) (sym e) h
told_so words zone why told (inr e) h = subst (IsRefused words zone) (sym e) tt

pub returns-clause-accepted : goal.returns-clause-accepted
returns-clause-accepted c = elim c.match-opened.branch [
  | in-Ok w ↦ λ zero. (_, w.in-Ok.ensures.ok, w.len-is, w.output-is)
  | in-Err w ↦ λ zero.
      let (told, which, status, put) = w.write_open_fault.ensures in
      absurd (some_status told (sym status ∙ sym w.result-is ∙ zero))
]

pub returns-clause-refused : goal.returns-clause-refused
returns-clause-refused c = elim c.match-opened.branch [
  | in-Ok w ↦ λ some. absurd (some w.result-is)
  | in-Err w ↦ λ some.
      let (told, which, status, put) = w.write_open_fault.ensures in
      rw (w.result-is, w.output-is, w.len-is) (told, told_so _ _ w.in-Err.fault told which w.in-Err.ensures.refused, status, put)
]
