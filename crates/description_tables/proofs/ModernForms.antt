-- What a text names is a modern component.
use Rattle.std.proofs.Common.{◌≡◌, Bool, true, false, Option, Some, None, refl}
use Rattle.std.specs.Prelude.{IfSome}
use Rattle.description_modifiers.specs.declared.choices.Padding.{Padding}
use Rattle.description_modifiers.specs.declared.choices.MonthRepr.{MonthRepr}
use Rattle.description_modifiers.specs.declared.choices.MonthRepr.TheVariants as month
use Rattle.description_modifiers.specs.declared.choices.WeekdayRepr.{WeekdayRepr}
use Rattle.description_modifiers.specs.declared.choices.WeekdayRepr.TheVariants as weekday
use Rattle.description_modifiers.specs.declared.choices.WeekNumberRepr.{WeekNumberRepr}
use Rattle.description_modifiers.specs.declared.choices.WeekNumberRepr.TheVariants as week
use Rattle.description_modifiers.specs.declared.choices.YearRepr.{YearRepr}
use Rattle.description_modifiers.specs.declared.choices.YearRepr.TheVariants as year
use Rattle.description_modifiers.specs.declared.choices.YearRange.{YearRange}
use Rattle.description_modifiers.specs.declared.choices.YearRange.TheVariants as range
use Rattle.description_modifiers.specs.declared.choices.UnixTimestampPrecision.{UnixTimestampPrecision}
use Rattle.description_modifiers.specs.declared.choices.UnixTimestampPrecision.TheVariants as unit
use Rattle.description_items.specs.declared.component.Component.{Component}
use Rattle.description_items.specs.declared.component.Component.TheVariants as component
use Rattle.std.specs.Option.{option_map, option_and_then}
use Rattle.description_modifiers.specs.Ignored.{ignored}
use Rattle.description_modifiers.specs.declared.ignore.Ignore.{Ignore}
use Rattle.description_items.specs.Modern.{modern, modern_month, modern_weekday, modern_week_number, modern_year, modern_hour, modern_timestamp}
use Rattle.description_lexer.specs.declared.version.DescriptionVersion.{DescriptionVersion}
use Rattle.description_tables.specs.declared.names.Name.{Name}
use Rattle.description_tables.specs.declared.names.Name.TheVariants as name
use Rattle.description_tables.specs.declared.chosen.Chosen.{Chosen}
use Rattle.description_tables.specs.Made.{made}

abbrev pub IsModern : Component → Type 0
IsModern c = modern c ≡ c

month_is : (r : MonthRepr) (p : Padding) (b : Bool) → IsModern (modern_month r p b)
month_is month.Numerical p b = refl
month_is r p b = refl

weekday_is : (r : WeekdayRepr) (i b : Bool) → IsModern (modern_weekday r i b)
weekday_is weekday.Short i b = refl
weekday_is r i b = refl

week_is : (r : WeekNumberRepr) (p : Padding) → IsModern (modern_week_number r p)
week_is week.Iso p = refl
week_is r p = refl

year_is : (iso : Bool) (r : YearRepr) (reach : YearRange) (p : Padding) (s : Bool) → IsModern (modern_year iso r reach p s)
year_is true year.Full range.Extended p s = refl
year_is true year.Century range.Extended p s = refl
year_is false year.Full range.Extended p s = refl
year_is false year.Century range.Extended p s = refl
year_is iso r reach p s = refl

hour_is : (twelve : Bool) (p : Padding) → IsModern (modern_hour twelve p)
hour_is true p = refl
hour_is false p = refl

timestamp_is : (u : UnixTimestampPrecision) (s : Bool) → IsModern (modern_timestamp u s)
timestamp_is unit.Second s = refl
timestamp_is u s = refl

pub made_is : (v : DescriptionVersion) (n : Name) (c : Chosen) → IfSome (made v n c) IsModern
made_is v name.Month c = month_is _ _ _
made_is v name.Weekday c = weekday_is _ _ _
made_is v name.WeekNumber c = week_is _ _
made_is v name.Year c = year_is _ _ _ _ _
made_is v name.Hour c = hour_is _ _
made_is v name.UnixTimestamp c = timestamp_is _ _
made_is v name.Ignore c = of_ignored (option_and_then ignored c.count)
  where
    of_ignored : (o : Option Ignore) → IfSome (option_map (λ i. component.Ignore i) o) IsModern
    of_ignored None = tt
    of_ignored (Some i) = refl
made_is v n c = refl
