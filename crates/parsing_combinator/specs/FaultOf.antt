-- The faults that the code's refusals stand for.
use Rattle.std.specs.Prelude.{◌≡◌, Result, Ok, Err}
use Rattle.parsing_combinator.specs.Fault.{Fault, literal, component, trailing, insufficient, range}
use Rattle.parsing_combinator.specs.declared.fault.ParseFromDescription.{ParseFromDescription}
use Rattle.parsing_combinator.specs.declared.fault.ParseFromDescription.TheVariants as unread
use Rattle.parsing_combinator.specs.declared.fault.TryFromParsed.{TryFromParsed}
use Rattle.parsing_combinator.specs.declared.fault.TryFromParsed.TheVariants as unresolved
use Rattle.parsing_combinator.specs.declared.fault.Parse.{Parse}
use Rattle.parsing_combinator.specs.declared.fault.Parse.TheVariants as refused

-- why bytes can't be read
abbrev pub reading_fault : ParseFromDescription → Fault
reading_fault unread.InvalidLiteral = literal
reading_fault (unread.InvalidComponent name) = component name.now
reading_fault unread.UnexpectedTrailingCharacters = trailing

-- why what was read names no value
abbrev pub resolution_fault : TryFromParsed → Fault
resolution_fault unresolved.InsufficientInformation = insufficient
resolution_fault (unresolved.ComponentRange r) = range r

-- why a text was refused
abbrev pub fault_of : Parse → Fault
fault_of (refused.TryFromParsed e) = resolution_fault e
fault_of (refused.ParseFromDescription e) = reading_fault e

-- a function returned what a definition says: its value seen by `view`, or a refusal that stands for the fault
abbrev pub Gives : {X Y E : Type 0} → (X → Y) → (E → Fault) → Result X E → Result Y Fault → Type 0
Gives view fault (Ok x) said = said ≡ Ok (view x)
Gives view fault (Err e) said = said ≡ Err (fault e)
