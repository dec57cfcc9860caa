-- The component that a name and its chosen values make; the defaults where nothing was chosen.
use Rattle.std.specs.Prelude.{Bool, true, false, Option, Some}
use Rattle.std.specs.Option.{option_map, option_and_then, unwrap_or}
use Rattle.description_modifiers.specs.declared.choices.Padding.TheVariants as padding
use Rattle.description_modifiers.specs.declared.choices.MonthRepr.{MonthRepr}
use Rattle.description_modifiers.specs.declared.choices.MonthRepr.TheVariants as month
use Rattle.description_modifiers.specs.declared.choices.WeekdayRepr.{WeekdayRepr}
use Rattle.description_modifiers.specs.declared.choices.WeekdayRepr.TheVariants as weekday
use Rattle.description_modifiers.specs.declared.choices.WeekNumberRepr.{WeekNumberRepr}
use Rattle.description_modifiers.specs.declared.choices.WeekNumberRepr.TheVariants as week
use Rattle.description_modifiers.specs.declared.choices.YearRepr.{YearRepr}
use Rattle.description_modifiers.specs.declared.choices.YearRepr.TheVariants as year
use Rattle.description_modifiers.specs.declared.choices.YearRange.{YearRange}
use Rattle.description_modifiers.specs.declared.choices.YearRange.TheVariants as range
use Rattle.description_modifiers.specs.Ignored.{ignored}
use Rattle.description_modifiers.specs.declared.choices.SubsecondDigits.TheVariants as digits
use Rattle.description_modifiers.specs.declared.choices.UnixTimestampPrecision.TheVariants as unit
use Rattle.description_modifiers.specs.declared.choices.TrailingInput.TheVariants as trailing
use Rattle.description_items.specs.declared.component.Component.{Component}
use Rattle.description_items.specs.declared.component.Component.TheVariants as component
use Rattle.description_items.specs.Modern.{modern}
use Rattle.description_lexer.specs.declared.version.DescriptionVersion.{DescriptionVersion}
use Rattle.description_lexer.specs.declared.version.DescriptionVersion.TheVariants.{One, Two, Three}
use Rattle.description_tables.specs.declared.names.Name.{Name}
use Rattle.description_tables.specs.declared.names.Name.TheVariants as name
use Rattle.description_tables.specs.declared.values.Repr.{Repr}
use Rattle.description_tables.specs.declared.values.Repr.TheVariants as repr
use Rattle.description_tables.specs.declared.chosen.Chosen.{Chosen}

abbrev pub month_repr : Option Repr → MonthRepr
month_repr (Some repr.Long) = month.Long
month_repr (Some repr.Short) = month.Short
month_repr r = month.Numerical

abbrev pub weekday_repr : Option Repr → WeekdayRepr
weekday_repr (Some repr.Short) = weekday.Short
weekday_repr (Some repr.Sunday) = weekday.Sunday
weekday_repr (Some repr.Monday) = weekday.Monday
weekday_repr r = weekday.Long

abbrev pub week_repr : Option Repr → WeekNumberRepr
week_repr (Some repr.Sunday) = week.Sunday
week_repr (Some repr.Monday) = week.Monday
week_repr r = week.Iso

abbrev pub year_repr : Option Repr → YearRepr
year_repr (Some repr.Century) = year.Century
year_repr (Some repr.LastTwo) = year.LastTwo
year_repr r = year.Full

abbrev pub is_twelve : Option Repr → Bool
is_twelve (Some repr.Twelve) = true
is_twelve r = false

-- years reach further by default in versions 1 and 2
abbrev pub default_range : DescriptionVersion → YearRange
default_range One = range.Extended
default_range Two = range.Extended
default_range Three = range.Standard

abbrev pub month_made : Chosen → Component
month_made c = modern (component.Month (record { padding = unwrap_or c.padding padding.Zero; repr = month_repr c.repr; case_sensitive = unwrap_or c.case_sensitive true }))

abbrev pub weekday_made : Chosen → Component
weekday_made c = modern (component.Weekday (record { repr = weekday_repr c.repr; one_indexed = unwrap_or c.one_indexed true; case_sensitive = unwrap_or c.case_sensitive true }))

abbrev pub week_number_made : Chosen → Component
week_number_made c = modern (component.WeekNumber (record { padding = unwrap_or c.padding padding.Zero; repr = week_repr c.repr }))

abbrev pub year_made : DescriptionVersion → Chosen → Component
year_made v c = modern (component.Year (record { padding = unwrap_or c.padding padding.Zero; repr = year_repr c.repr; range = unwrap_or c.range (default_range v); iso_week_based = unwrap_or c.base false; sign_is_mandatory = unwrap_or c.sign false }))

abbrev pub hour_made : Chosen → Component
hour_made c = modern (component.Hour (record { padding = unwrap_or c.padding padding.Zero; is_12_hour_clock = is_twelve c.repr }))

abbrev pub period_made : Chosen → Component
period_made c = component.Period (record { is_uppercase = unwrap_or c.case true; case_sensitive = unwrap_or c.case_sensitive true })

abbrev pub offset_hour_made : Chosen → Component
offset_hour_made c = component.OffsetHour (record { sign_is_mandatory = unwrap_or c.sign false; padding = unwrap_or c.padding padding.Zero })

abbrev pub unix_timestamp_made : Chosen → Component
unix_timestamp_made c = modern (component.UnixTimestamp (record { precision = unwrap_or c.precision unit.Second; sign_is_mandatory = unwrap_or c.sign false }))

-- only a number of bytes to ignore has no default
abbrev pub made : DescriptionVersion → Name → Chosen → Option Component
made v name.Day c = Some (component.Day (record { padding = unwrap_or c.padding padding.Zero }))
made v name.Ordinal c = Some (component.Ordinal (record { padding = unwrap_or c.padding padding.Zero }))
made v name.Minute c = Some (component.Minute (record { padding = unwrap_or c.padding padding.Zero }))
made v name.Second c = Some (component.Second (record { padding = unwrap_or c.padding padding.Zero }))
made v name.OffsetMinute c = Some (component.OffsetMinute (record { padding = unwrap_or c.padding padding.Zero }))
made v name.OffsetSecond c = Some (component.OffsetSecond (record { padding = unwrap_or c.padding padding.Zero }))
made v name.Month c = Some (month_made c)
made v name.Weekday c = Some (weekday_made c)
made v name.WeekNumber c = Some (week_number_made c)
made v name.Year c = Some (year_made v c)
made v name.Hour c = Some (hour_made c)
made v name.Period c = Some (period_made c)
made v name.OffsetHour c = Some (offset_hour_made c)
made v name.UnixTimestamp c = Some (unix_timestamp_made c)
made v name.Subsecond c = Some (component.Subsecond (record { digits = unwrap_or c.digits digits.OneOrMore }))
made v name.Ignore c = option_map (λ i. component.Ignore i) (option_and_then ignored c.count)
made v name.End c = Some (component.End (record { trailing_input = unwrap_or c.trailing_input trailing.Prohibit }))
