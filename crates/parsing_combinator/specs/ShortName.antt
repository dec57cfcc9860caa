-- Faults that an answer of fixed length has room for.
use Rattle.std.specs.Prelude.{◌≤◌, length}
use Rattle.parsing_combinator.specs.Fault.{Fault, literal, component, trailing, insufficient, range}

-- a component's name has at most 15 bytes, one more than `unix_timestamp`
abbrev pub HasShortName : Fault → Type 0
HasShortName literal = Unit {0}
HasShortName (component name) = length name ≤ 15
HasShortName trailing = Unit {0}
HasShortName insufficient = Unit {0}
HasShortName (range r) = Unit {0}
