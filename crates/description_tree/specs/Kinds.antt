-- The kinds of components.
use Rattle.std.specs.Prelude.{Bool, true, false}
use Rattle.description_items.specs.declared.component.Component.{Component}
use Rattle.description_items.specs.declared.component.Component.TheVariants as component
use Rattle.description_items.specs.Tree.{Tree, Part}

abbrev pub is_date_part : Component → Bool
is_date_part (component.Day m) = true
is_date_part (component.MonthShort m) = true
is_date_part (component.MonthLong m) = true
is_date_part (component.MonthNumerical m) = true
is_date_part (component.Ordinal m) = true
is_date_part (component.WeekdayShort m) = true
is_date_part (component.WeekdayLong m) = true
is_date_part (component.WeekdaySunday m) = true
is_date_part (component.WeekdayMonday m) = true
is_date_part (component.WeekNumberIso m) = true
is_date_part (component.WeekNumberSunday m) = true
is_date_part (component.WeekNumberMonday m) = true
is_date_part c = false

abbrev pub is_year_part : Component → Bool
is_year_part (component.CalendarYearFullExtendedRange m) = true
is_year_part (component.IsoYearFullExtendedRange m) = true
is_year_part (component.CalendarYearFullStandardRange m) = true
is_year_part (component.IsoYearFullStandardRange m) = true
is_year_part (component.CalendarYearCenturyExtendedRange m) = true
is_year_part (component.IsoYearCenturyExtendedRange m) = true
is_year_part (component.CalendarYearCenturyStandardRange m) = true
is_year_part (component.IsoYearCenturyStandardRange m) = true
is_year_part (component.CalendarYearLastTwo m) = true
is_year_part (component.IsoYearLastTwo m) = true
is_year_part c = false

abbrev pub is_time_part : Component → Bool
is_time_part (component.Hour12 m) = true
is_time_part (component.Hour24 m) = true
is_time_part (component.Minute m) = true
is_time_part (component.Period m) = true
is_time_part (component.Second m) = true
is_time_part (component.Subsecond m) = true
is_time_part (component.OffsetHour m) = true
is_time_part (component.OffsetMinute m) = true
is_time_part (component.OffsetSecond m) = true
is_time_part (component.Ignore m) = true
is_time_part (component.UnixTimestampSecond m) = true
is_time_part (component.UnixTimestampMillisecond m) = true
is_time_part (component.UnixTimestampMicrosecond m) = true
is_time_part (component.UnixTimestampNanosecond m) = true
is_time_part (component.End m) = true
is_time_part c = false

-- the tree is a component of such a kind
abbrev pub is_part_of : (Component → Bool) → Tree → Bool
is_part_of kind (Part c) = kind c
is_part_of kind t = false

-- the tree is a component
abbrev pub is_part : Tree → Bool
is_part (Part c) = true
is_part t = false
