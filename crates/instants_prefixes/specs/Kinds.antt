-- Kinds of components.
use Rattle.std.specs.Prelude.{Bool, true, false}
use Rattle.description_items.specs.declared.component.Component.{Component}
use Rattle.description_items.specs.declared.component.Component.TheVariants as component
use Rattle.description_items.specs.Modern.{modern}
use Rattle.instants_prefixes.specs.declared.kind.Kind.{Kind}
use Rattle.instants_prefixes.specs.declared.kind.Kind.TheVariants as kind

-- a component says something of a date, unless it ignores bytes or is an end
abbrev pub is_saying : Component → Bool
is_saying (component.Ignore m) = false
is_saying (component.End m) = false
is_saying _ = true

-- a component of a newer form that says neither a year nor a week is of this kind
abbrev pub is_of_day : Component → Kind → Bool
is_of_day (component.OffsetHour m) kind.OffsetHour = true
is_of_day (component.OffsetHour m) kind.OffsetPart = true
is_of_day (component.OffsetMinute m) kind.OffsetPart = true
is_of_day (component.OffsetSecond m) kind.OffsetPart = true
is_of_day (component.UnixTimestampSecond m) kind.UnixTime = true
is_of_day (component.UnixTimestampMillisecond m) kind.UnixTime = true
is_of_day (component.UnixTimestampMicrosecond m) kind.UnixTime = true
is_of_day (component.UnixTimestampNanosecond m) kind.UnixTime = true
is_of_day (component.MonthShort m) kind.Month = true
is_of_day (component.MonthLong m) kind.Month = true
is_of_day (component.MonthNumerical m) kind.Month = true
is_of_day (component.Day m) kind.Day = true
is_of_day (component.Ordinal m) kind.Ordinal = true
is_of_day (component.Hour24 m) kind.Hour24 = true
is_of_day (component.Hour12 m) kind.Hour12 = true
is_of_day (component.Period m) kind.Half = true
is_of_day (component.Minute m) kind.Minute = true
is_of_day (component.Second m) kind.Second = true
is_of_day (component.Subsecond m) kind.Subsecond = true
is_of_day _ _ = false

-- a component of a newer form is
abbrev pub is_newer : Component → Kind → Bool
is_newer (component.CalendarYearFullExtendedRange m) kind.Year = true
is_newer (component.CalendarYearFullStandardRange m) kind.Year = true
is_newer (component.IsoYearFullExtendedRange m) kind.IsoYear = true
is_newer (component.IsoYearFullStandardRange m) kind.IsoYear = true
is_newer (component.CalendarYearCenturyExtendedRange m) kind.Century = true
is_newer (component.CalendarYearCenturyStandardRange m) kind.Century = true
is_newer (component.IsoYearCenturyExtendedRange m) kind.Century = true
is_newer (component.IsoYearCenturyStandardRange m) kind.Century = true
is_newer (component.CalendarYearLastTwo m) kind.LastTwo = true
is_newer (component.IsoYearLastTwo m) kind.LastTwo = true
is_newer (component.WeekNumberSunday m) kind.Week = true
is_newer (component.WeekNumberMonday m) kind.Week = true
is_newer (component.WeekNumberIso m) kind.IsoWeek = true
is_newer (component.WeekdayShort m) kind.Weekday = true
is_newer (component.WeekdayLong m) kind.Weekday = true
is_newer (component.WeekdaySunday m) kind.Weekday = true
is_newer (component.WeekdayMonday m) kind.Weekday = true
is_newer c k = is_of_day c k

-- a component is of this kind; an older form is of that of the newer one which says the same
abbrev pub is_of : Kind → Component → Bool
is_of kind.Saying c = is_saying c
is_of k c = is_newer (modern c) k
