-- The printed texts of faults.
use Rattle.std.specs.Prelude.{ℕ, List, ◌++◌, codes}
use Rattle.calendar_count.specs.ComponentRange.{range_text}
use Rattle.parsing_combinator.specs.Fault.{Fault, literal, component, trailing, insufficient, range}

abbrev pub fault_text : Fault → List ℕ
fault_text literal = codes "a character literal was not valid"
fault_text (component name) = codes "the '" ++ name ++ codes "' component could not be parsed"
fault_text trailing = codes "unexpected trailing characters; the end of input was expected"
fault_text insufficient = codes "the `Parsed` struct did not include enough information to construct the type"
fault_text (range r) = range_text r
