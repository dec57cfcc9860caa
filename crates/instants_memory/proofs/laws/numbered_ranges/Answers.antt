use Rattle.std.proofs.Common.{◌≢◌, arith}
use Rattle.calendar_count.specs.ComponentRange.{component_name}
use Rattle.calendar_count.specs.declared.component_range.ComponentName.{ComponentName}
use Rattle.calendar_count.specs.declared.component_range.ComponentName.TheVariants.{Year, Month, Day, Ordinal, Week, JulianDay, Hour, Minute, Second, Millisecond, Microsecond, Nanosecond, Hours, Minutes, Seconds, Timestamp}
use Rattle.instants_memory.specs.Numbers.{name_number}
use Rattle.instants_memory.proofs.laws.numbered_ranges.Goals as goal

numbered : (component : ComponentName) → name_number (component_name component) ≢ 0
unfolding name_number
numbered Year = omega arith
numbered Month = omega arith
numbered Day = omega arith
numbered Ordinal = omega arith
numbered Week = omega arith
numbered JulianDay = omega arith
numbered Hour = omega arith
numbered Minute = omega arith
numbered Second = omega arith
numbered Millisecond = omega arith
numbered Microsecond = omega arith
numbered Nanosecond = omega arith
numbered Hours = omega arith
numbered Minutes = omega arith
numbered Seconds = omega arith
numbered Timestamp = omega arith

pub returns : goal.returns
returns c = numbered
