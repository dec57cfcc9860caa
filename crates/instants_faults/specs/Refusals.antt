-- What a refused source is for a timeline.
use Rattle.std.specs.Prelude.{ℕ}
use Rattle.description_lexer.specs.declared.description_fault.DescriptionFault.{DescriptionFault}
use Rattle.description_lexer.specs.declared.description_fault.DescriptionFault.TheVariants as description
use Rattle.instants_faults.specs.declared.new_fault.NewFault.{NewFault}
use Rattle.instants_faults.specs.declared.new_fault.NewFault.TheVariants as new

-- the refusal of the source in this place, counted from 1
abbrev pub refused_at : ℕ → DescriptionFault → NewFault
refused_at place (description.Description fault) = new.Source place fault
refused_at place description.Memory = new.Memory
