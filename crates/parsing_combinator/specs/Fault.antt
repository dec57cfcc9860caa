-- Why a text names no moment, without where a name lies in memory.
use Rattle.std.specs.Prelude.{ℕ, List}
use Rattle.calendar_count.specs.declared.component_range.ComponentRange.{ComponentRange}

pub data Fault : Type 0 where
  -- a text that is due is not there
  literal : Fault
  -- the component of this name can't be read
  component : List ℕ → Fault
  -- something follows what was read
  trailing : Fault
  -- what was read names no value
  insufficient : Fault
  -- what was read is out of range
  range : ComponentRange → Fault
