-- The component that says the same with only the modifiers that matter there.
use Rattle.std.specs.Prelude.{Bool, true, false}
use Rattle.description_modifiers.specs.declared.choices.Padding.{Padding}
use Rattle.description_modifiers.specs.declared.choices.MonthRepr.{MonthRepr}
use Rattle.description_modifiers.specs.declared.choices.MonthRepr.TheVariants as month
use Rattle.description_modifiers.specs.declared.choices.WeekdayRepr.{WeekdayRepr}
use Rattle.description_modifiers.specs.declared.choices.WeekdayRepr.TheVariants as weekday
use Rattle.description_modifiers.specs.declared.choices.WeekNumberRepr.{WeekNumberRepr}
use Rattle.description_modifiers.specs.declared.choices.WeekNumberRepr.TheVariants as week
use Rattle.description_modifiers.specs.declared.choices.YearRepr.{YearRepr}
use Rattle.description_modifiers.specs.declared.choices.YearRepr.TheVariants as year
use Rattle.description_modifiers.specs.declared.choices.YearRange.{YearRange}
use Rattle.description_modifiers.specs.declared.choices.YearRange.TheVariants as range
use Rattle.description_modifiers.specs.declared.choices.UnixTimestampPrecision.{UnixTimestampPrecision}
use Rattle.description_modifiers.specs.declared.choices.UnixTimestampPrecision.TheVariants as unit
use Rattle.description_items.specs.declared.component.Component.{Component}
use Rattle.description_items.specs.declared.component.Component.TheVariants as component

abbrev pub modern_month : MonthRepr → Padding → Bool → Component
modern_month month.Numerical padding case_sensitive = component.MonthNumerical (record { padding = padding })
modern_month month.Long padding case_sensitive = component.MonthLong (record { case_sensitive = case_sensitive })
modern_month month.Short padding case_sensitive = component.MonthShort (record { case_sensitive = case_sensitive })

abbrev pub modern_weekday : WeekdayRepr → Bool → Bool → Component
modern_weekday weekday.Short one_indexed case_sensitive = component.WeekdayShort (record { case_sensitive = case_sensitive })
modern_weekday weekday.Long one_indexed case_sensitive = component.WeekdayLong (record { case_sensitive = case_sensitive })
modern_weekday weekday.Sunday one_indexed case_sensitive = component.WeekdaySunday (record { one_indexed = one_indexed })
modern_weekday weekday.Monday one_indexed case_sensitive = component.WeekdayMonday (record { one_indexed = one_indexed })

abbrev pub modern_week_number : WeekNumberRepr → Padding → Component
modern_week_number week.Iso padding = component.WeekNumberIso (record { padding = padding })
modern_week_number week.Sunday padding = component.WeekNumberSunday (record { padding = padding })
modern_week_number week.Monday padding = component.WeekNumberMonday (record { padding = padding })

-- a year of the calendar, and a year of ISO 8601 weeks
abbrev pub modern_calendar_year : YearRepr → YearRange → Padding → Bool → Component
modern_calendar_year year.Full range.Extended padding sign = component.CalendarYearFullExtendedRange (record { padding = padding; sign_is_mandatory = sign })
modern_calendar_year year.Full range.Standard padding sign = component.CalendarYearFullStandardRange (record { padding = padding; sign_is_mandatory = sign })
modern_calendar_year year.Century range.Extended padding sign = component.CalendarYearCenturyExtendedRange (record { padding = padding; sign_is_mandatory = sign })
modern_calendar_year year.Century range.Standard padding sign = component.CalendarYearCenturyStandardRange (record { padding = padding; sign_is_mandatory = sign })
modern_calendar_year year.LastTwo reach padding sign = component.CalendarYearLastTwo (record { padding = padding })

abbrev pub modern_iso_year : YearRepr → YearRange → Padding → Bool → Component
modern_iso_year year.Full range.Extended padding sign = component.IsoYearFullExtendedRange (record { padding = padding; sign_is_mandatory = sign })
modern_iso_year year.Full range.Standard padding sign = component.IsoYearFullStandardRange (record { padding = padding; sign_is_mandatory = sign })
modern_iso_year year.Century range.Extended padding sign = component.IsoYearCenturyExtendedRange (record { padding = padding; sign_is_mandatory = sign })
modern_iso_year year.Century range.Standard padding sign = component.IsoYearCenturyStandardRange (record { padding = padding; sign_is_mandatory = sign })
modern_iso_year year.LastTwo reach padding sign = component.IsoYearLastTwo (record { padding = padding })

abbrev pub modern_year : Bool → YearRepr → YearRange → Padding → Bool → Component
modern_year false repr reach padding sign = modern_calendar_year repr reach padding sign
modern_year true repr reach padding sign = modern_iso_year repr reach padding sign

abbrev pub modern_hour : Bool → Padding → Component
modern_hour true padding = component.Hour12 (record { padding = padding })
modern_hour false padding = component.Hour24 (record { padding = padding })

abbrev pub modern_timestamp : UnixTimestampPrecision → Bool → Component
modern_timestamp unit.Second sign = component.UnixTimestampSecond (record { sign_is_mandatory = sign })
modern_timestamp unit.Millisecond sign = component.UnixTimestampMillisecond (record { sign_is_mandatory = sign })
modern_timestamp unit.Microsecond sign = component.UnixTimestampMicrosecond (record { sign_is_mandatory = sign })
modern_timestamp unit.Nanosecond sign = component.UnixTimestampNanosecond (record { sign_is_mandatory = sign })

-- the older forms, and all others as they are
abbrev pub modern : Component → Component
modern (component.Month m) = modern_month m.repr m.padding m.case_sensitive
modern (component.Weekday m) = modern_weekday m.repr m.one_indexed m.case_sensitive
modern (component.WeekNumber m) = modern_week_number m.repr m.padding
modern (component.Year m) = modern_year m.iso_week_based m.repr m.range m.padding m.sign_is_mandatory
modern (component.Hour m) = modern_hour m.is_12_hour_clock m.padding
modern (component.UnixTimestamp m) = modern_timestamp m.precision m.sign_is_mandatory
modern other = other
