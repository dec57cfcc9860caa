-- What a node means: the same for a borrowed and an owned form.
use Rattle.std.specs.Prelude.{List, map, string_bytes}
use Rattle.description_items.specs.declared.component.Component.TheVariants as component
use Rattle.description_items.specs.Tree.{Tree, Literal, Part, Compound, Optional, First, listed}
use Rattle.description_tree.specs.declared.inner.FormatDescriptionV3Inner.{FormatDescriptionV3Inner}
use Rattle.description_tree.specs.declared.inner.FormatDescriptionV3Inner.TheFolds.{fold-FormatDescriptionV3Inner}
use Rattle.description_tree.specs.declared.inner.FormatDescriptionV3Inner.TheOpen.{FormatDescriptionV3Inner-F, Lent-F}

-- one level, with the trees of the nodes inside
abbrev pub inner_step : FormatDescriptionV3Inner-F Tree (List Tree) → Tree
inner_step (FormatDescriptionV3Inner-F.Day m) = Part (component.Day m)
inner_step (FormatDescriptionV3Inner-F.MonthShort m) = Part (component.MonthShort m)
inner_step (FormatDescriptionV3Inner-F.MonthLong m) = Part (component.MonthLong m)
inner_step (FormatDescriptionV3Inner-F.MonthNumerical m) = Part (component.MonthNumerical m)
inner_step (FormatDescriptionV3Inner-F.Ordinal m) = Part (component.Ordinal m)
inner_step (FormatDescriptionV3Inner-F.WeekdayShort m) = Part (component.WeekdayShort m)
inner_step (FormatDescriptionV3Inner-F.WeekdayLong m) = Part (component.WeekdayLong m)
inner_step (FormatDescriptionV3Inner-F.WeekdaySunday m) = Part (component.WeekdaySunday m)
inner_step (FormatDescriptionV3Inner-F.WeekdayMonday m) = Part (component.WeekdayMonday m)
inner_step (FormatDescriptionV3Inner-F.WeekNumberIso m) = Part (component.WeekNumberIso m)
inner_step (FormatDescriptionV3Inner-F.WeekNumberSunday m) = Part (component.WeekNumberSunday m)
inner_step (FormatDescriptionV3Inner-F.WeekNumberMonday m) = Part (component.WeekNumberMonday m)
inner_step (FormatDescriptionV3Inner-F.CalendarYearFullExtendedRange m) = Part (component.CalendarYearFullExtendedRange m)
inner_step (FormatDescriptionV3Inner-F.IsoYearFullExtendedRange m) = Part (component.IsoYearFullExtendedRange m)
inner_step (FormatDescriptionV3Inner-F.CalendarYearFullStandardRange m) = Part (component.CalendarYearFullStandardRange m)
inner_step (FormatDescriptionV3Inner-F.IsoYearFullStandardRange m) = Part (component.IsoYearFullStandardRange m)
inner_step (FormatDescriptionV3Inner-F.CalendarYearCenturyExtendedRange m) = Part (component.CalendarYearCenturyExtendedRange m)
inner_step (FormatDescriptionV3Inner-F.IsoYearCenturyExtendedRange m) = Part (component.IsoYearCenturyExtendedRange m)
inner_step (FormatDescriptionV3Inner-F.CalendarYearCenturyStandardRange m) = Part (component.CalendarYearCenturyStandardRange m)
inner_step (FormatDescriptionV3Inner-F.IsoYearCenturyStandardRange m) = Part (component.IsoYearCenturyStandardRange m)
inner_step (FormatDescriptionV3Inner-F.CalendarYearLastTwo m) = Part (component.CalendarYearLastTwo m)
inner_step (FormatDescriptionV3Inner-F.IsoYearLastTwo m) = Part (component.IsoYearLastTwo m)
inner_step (FormatDescriptionV3Inner-F.Hour12 m) = Part (component.Hour12 m)
inner_step (FormatDescriptionV3Inner-F.Hour24 m) = Part (component.Hour24 m)
inner_step (FormatDescriptionV3Inner-F.Minute m) = Part (component.Minute m)
inner_step (FormatDescriptionV3Inner-F.Period m) = Part (component.Period m)
inner_step (FormatDescriptionV3Inner-F.Second m) = Part (component.Second m)
inner_step (FormatDescriptionV3Inner-F.Subsecond m) = Part (component.Subsecond m)
inner_step (FormatDescriptionV3Inner-F.OffsetHour m) = Part (component.OffsetHour m)
inner_step (FormatDescriptionV3Inner-F.OffsetMinute m) = Part (component.OffsetMinute m)
inner_step (FormatDescriptionV3Inner-F.OffsetSecond m) = Part (component.OffsetSecond m)
inner_step (FormatDescriptionV3Inner-F.Ignore m) = Part (component.Ignore m)
inner_step (FormatDescriptionV3Inner-F.UnixTimestampSecond m) = Part (component.UnixTimestampSecond m)
inner_step (FormatDescriptionV3Inner-F.UnixTimestampMillisecond m) = Part (component.UnixTimestampMillisecond m)
inner_step (FormatDescriptionV3Inner-F.UnixTimestampMicrosecond m) = Part (component.UnixTimestampMicrosecond m)
inner_step (FormatDescriptionV3Inner-F.UnixTimestampNanosecond m) = Part (component.UnixTimestampNanosecond m)
inner_step (FormatDescriptionV3Inner-F.End m) = Part (component.End m)
inner_step (FormatDescriptionV3Inner-F.BorrowedLiteral s) = Literal s.now
inner_step (FormatDescriptionV3Inner-F.BorrowedCompound lent) = Compound (listed lent)
inner_step (FormatDescriptionV3Inner-F.BorrowedOptional format item) = Optional format item.now
inner_step (FormatDescriptionV3Inner-F.BorrowedFirst lent) = First (listed lent)
inner_step (FormatDescriptionV3Inner-F.OwnedLiteral s) = Literal (string_bytes s)
inner_step (FormatDescriptionV3Inner-F.OwnedCompound v) = Compound (listed v.items)
inner_step (FormatDescriptionV3Inner-F.OwnedOptional format item) = Optional format item.value
inner_step (FormatDescriptionV3Inner-F.OwnedFirst v) = First (listed v.items)

abbrev pub lent_step : Lent-F Tree (List Tree) → List Tree
lent_step lent = lent.items.now

abbrev pub inner_tree : FormatDescriptionV3Inner → Tree
inner_tree = fold-FormatDescriptionV3Inner Tree (List Tree) inner_step lent_step

abbrev pub inner_trees : List FormatDescriptionV3Inner → List Tree
inner_trees xs = map inner_tree xs
