-- Why a line has no place on the timeline, and what is written for it then.
use Rattle.std.specs.Prelude.{ℕ, ◌≤◌, List, ◌++◌, length, codes, ⊤}
use Rattle.calendar_count.specs.ComponentRange.{component_name, refused_component}
use Rattle.parsing_combinator.specs.Fault.{Fault}
use Rattle.parsing_combinator.specs.Fault as fault
use Rattle.instants_faults.specs.declared.line_fault.LineFault.{LineFault}
use Rattle.instants_faults.specs.declared.line_fault.LineFault.TheVariants as line_fault

pub data Refusal : Type 0 where
  -- a text that is due is not there
  literal : Refusal
  -- the component of this name can't be read
  component : List ℕ → Refusal
  -- something follows what was read
  trailing : Refusal
  -- what was read names no moment
  insufficient : Refusal
  -- the component of this name is out of range
  range : List ℕ → Refusal
  -- the year shown at the target offset is not 0 to 9999
  year : Refusal
  -- the line is longer than the limit
  long : Refusal

-- why a source names no moment, by the component's name alone where it is out of range
abbrev pub refusal_of : Fault → Refusal
refusal_of fault.literal = literal
refusal_of (fault.component name) = component name
refusal_of fault.trailing = trailing
refusal_of fault.insufficient = insufficient
refusal_of (fault.range refused) = range (component_name (refused_component refused))

-- what a `LineFault` says
abbrev pub refusal_said : LineFault → Refusal
refusal_said line_fault.Literal = literal
refusal_said (line_fault.Component name) = component name.now
refusal_said line_fault.Trailing = trailing
refusal_said line_fault.Insufficient = insufficient
refusal_said (line_fault.Range name) = range name.now
refusal_said line_fault.Year = year
refusal_said line_fault.Long = long

-- what is written in place of a date-time
abbrev pub refusal_text : Refusal → List ℕ
refusal_text literal = codes "! literal"
refusal_text (component name) = codes "! component " ++ name
refusal_text trailing = codes "! trailing"
refusal_text insufficient = codes "! insufficient"
refusal_text (range name) = codes "! range " ++ name
refusal_text year = codes "! year"
refusal_text long = codes "! long"

-- a name that leaves room for what stands around it in an answer
abbrev pub IsShort : Refusal → Type 0
IsShort (component name) = length name ≤ 15
IsShort (range name) = length name ≤ 15
IsShort _ = ⊤
