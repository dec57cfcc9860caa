-- The refusal of a value that is out of range.
use Rattle.std.specs.Prelude.{ℕ, Bool, false, true, List, ◌++◌, codes, if◌then◌else◌}
use Rattle.calendar_count.specs.declared.component_range.ComponentName.{ComponentName}
use Rattle.calendar_count.specs.declared.component_range.ComponentName.TheVariants.{Year, Month, Day, Ordinal, Week, JulianDay, Hour, Minute, Second, Millisecond, Microsecond, Nanosecond, Hours, Minutes, Seconds, Timestamp}
use Rattle.calendar_count.specs.declared.component_range.ComponentRange.{ComponentRange}

-- the component is out of range whatever the others are
abbrev pub out_of_range : ComponentName → ComponentRange
out_of_range c = record { component = c; is_conditional = false }

-- the component is out of range given the others
abbrev pub out_of_conditional_range : ComponentName → ComponentRange
out_of_conditional_range c = record { component = c; is_conditional = true }

-- the component that was out of range
abbrev pub refused_component : ComponentRange → ComponentName
refused_component r = r.component

-- whether the other components decided it
abbrev pub refused_conditionally : ComponentRange → Bool
refused_conditionally r = r.is_conditional

-- the names as they are printed
abbrev pub component_name : ComponentName → List ℕ
component_name Year = codes "year"
component_name Month = codes "month"
component_name Day = codes "day"
component_name Ordinal = codes "ordinal"
component_name Week = codes "week"
component_name JulianDay = codes "julian_day"
component_name Hour = codes "hour"
component_name Minute = codes "minute"
component_name Second = codes "second"
component_name Millisecond = codes "millisecond"
component_name Microsecond = codes "microsecond"
component_name Nanosecond = codes "nanosecond"
component_name Hours = codes "hours"
component_name Minutes = codes "minutes"
component_name Seconds = codes "seconds"
component_name Timestamp = codes "timestamp"

-- `day was not in range given values of other parameters`
abbrev pub range_text : ComponentRange → List ℕ
range_text r = component_name r.component ++ (if r.is_conditional then codes " was not in range given values of other parameters" else codes " was not in range")
