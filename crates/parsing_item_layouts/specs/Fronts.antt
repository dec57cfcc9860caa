-- What is known of the first bytes of lines, from that of what is left of them.
use Rattle.std.specs.Prelude.{ℕ, Bool, List, IfOk}
use Rattle.parsing_components.specs.Meaning.{Meaning}
use Rattle.parsing_components.specs.declared.fields.Record.{Record}

-- where a line is read, and what is left fits the one, the line fits the other
abbrev pub Leads : {F : Type 0} → (Bool → F → List ℕ → Type 0) → Meaning → F → F → Type 0
Leads fits m after before = (whole : Bool) (r : Record) (line : List ℕ) → IfOk (m r line) (λ x. fits whole after x.1 → fits whole before line)
