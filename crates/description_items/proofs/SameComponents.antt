-- Components that equality takes for the same are equal.
use Rattle.std.proofs.Common.{◌≡◌, Bool, true, ◌&&◌, sym, ap, true≢false, eqb-true}
use Rattle.std.specs.Cmp.{first_so, second_so}
use Rattle.std.proofs.Math.Bool.{beq}
use Rattle.description_modifiers.specs.declared.choices.Padding.{Padding}
use Rattle.description_modifiers.specs.contracts.choices.PaddingPartialEq.TheImpl as padding_equality
use Rattle.description_modifiers.specs.declared.choices.MonthRepr.{MonthRepr}
use Rattle.description_modifiers.specs.contracts.choices.MonthReprPartialEq.TheImpl as month_repr_equality
use Rattle.description_modifiers.specs.declared.choices.WeekdayRepr.{WeekdayRepr}
use Rattle.description_modifiers.specs.contracts.choices.WeekdayReprPartialEq.TheImpl as weekday_repr_equality
use Rattle.description_modifiers.specs.declared.choices.WeekNumberRepr.{WeekNumberRepr}
use Rattle.description_modifiers.specs.declared.choices.YearRepr.{YearRepr}
use Rattle.description_modifiers.specs.contracts.choices.YearReprPartialEq.TheImpl as year_repr_equality
use Rattle.description_modifiers.specs.declared.choices.YearRange.{YearRange}
use Rattle.description_modifiers.specs.contracts.choices.YearRangePartialEq.TheImpl as year_range_equality
use Rattle.description_modifiers.specs.declared.choices.SubsecondDigits.{SubsecondDigits}
use Rattle.description_modifiers.specs.declared.choices.UnixTimestampPrecision.{UnixTimestampPrecision}
use Rattle.description_modifiers.specs.contracts.choices.UnixTimestampPrecisionPartialEq.TheImpl as precision_equality
use Rattle.description_modifiers.specs.declared.choices.TrailingInput.{TrailingInput}
use Rattle.description_modifiers.specs.declared.month.Month.{Month}
use Rattle.description_modifiers.specs.contracts.month.MonthPartialEq.TheImpl as month_equality
use Rattle.description_modifiers.specs.declared.weekday.Weekday.{Weekday}
use Rattle.description_modifiers.specs.contracts.weekday.WeekdayPartialEq.TheImpl as weekday_equality
use Rattle.description_modifiers.specs.declared.year.Year.{Year}
use Rattle.description_modifiers.specs.contracts.year.YearPartialEq.TheImpl as year_equality
use Rattle.description_items.specs.declared.component.Component.{Component}
use Rattle.description_items.specs.declared.component.Component.TheVariants as component
use Rattle.description_items.specs.contracts.component.ComponentPartialEq.TheImpl as component_equality
use Rattle.description_items.proofs.SameChoices.{same_truth, same_count, same_padding, same_month_repr, same_weekday_repr, same_week_number_repr, same_year_repr, same_year_range, same_digits, same_precision, same_trailing_input}

same_month : (a b : Month) → month_equality.ghosts.eq a b ≡ true → a ≡ b
same_month a b h =
    let padding : a.padding ≡ b.padding = same_padding a.padding b.padding (first_so _ _ h) in
    let repr : a.repr ≡ b.repr = same_month_repr a.repr b.repr (first_so _ _ (second_so (padding_equality.ghosts.eq a.padding b.padding) _ h)) in
    let case_sensitive : a.case_sensitive ≡ b.case_sensitive = same_truth a.case_sensitive b.case_sensitive (second_so (month_repr_equality.ghosts.eq a.repr b.repr) _ (second_so (padding_equality.ghosts.eq a.padding b.padding) _ h)) in
    let whole : made a.padding a.repr a.case_sensitive ≡ made b.padding b.repr b.case_sensitive = cc in
    whole
  where
    made : Padding → MonthRepr → Bool → Month
    made padding repr case_sensitive = record { padding = padding; repr = repr; case_sensitive = case_sensitive }

same_weekday : (a b : Weekday) → weekday_equality.ghosts.eq a b ≡ true → a ≡ b
same_weekday a b h =
    let repr : a.repr ≡ b.repr = same_weekday_repr a.repr b.repr (first_so _ _ h) in
    let one_indexed : a.one_indexed ≡ b.one_indexed = same_truth a.one_indexed b.one_indexed (first_so _ _ (second_so (weekday_repr_equality.ghosts.eq a.repr b.repr) _ h)) in
    let case_sensitive : a.case_sensitive ≡ b.case_sensitive = same_truth a.case_sensitive b.case_sensitive (second_so (beq a.one_indexed b.one_indexed) _ (second_so (weekday_repr_equality.ghosts.eq a.repr b.repr) _ h)) in
    let whole : made a.repr a.one_indexed a.case_sensitive ≡ made b.repr b.one_indexed b.case_sensitive = cc in
    whole
  where
    made : WeekdayRepr → Bool → Bool → Weekday
    made repr one_indexed case_sensitive = record { repr = repr; one_indexed = one_indexed; case_sensitive = case_sensitive }

same_year : (a b : Year) → year_equality.ghosts.eq a b ≡ true → a ≡ b
same_year a b h =
    let padding : a.padding ≡ b.padding = same_padding a.padding b.padding (first_so _ _ h) in
    let repr : a.repr ≡ b.repr = same_year_repr a.repr b.repr (first_so _ _ (second_so (padding_equality.ghosts.eq a.padding b.padding) _ h)) in
    let range : a.range ≡ b.range = same_year_range a.range b.range (first_so _ _ (second_so (year_repr_equality.ghosts.eq a.repr b.repr) _ (second_so (padding_equality.ghosts.eq a.padding b.padding) _ h))) in
    let iso_week_based : a.iso_week_based ≡ b.iso_week_based = same_truth a.iso_week_based b.iso_week_based (first_so _ _ (second_so (year_range_equality.ghosts.eq a.range b.range) _ (second_so (year_repr_equality.ghosts.eq a.repr b.repr) _ (second_so (padding_equality.ghosts.eq a.padding b.padding) _ h)))) in
    let sign_is_mandatory : a.sign_is_mandatory ≡ b.sign_is_mandatory = same_truth a.sign_is_mandatory b.sign_is_mandatory (second_so (beq a.iso_week_based b.iso_week_based) _ (second_so (year_range_equality.ghosts.eq a.range b.range) _ (second_so (year_repr_equality.ghosts.eq a.repr b.repr) _ (second_so (padding_equality.ghosts.eq a.padding b.padding) _ h)))) in
    let whole : made a.padding a.repr a.range a.iso_week_based a.sign_is_mandatory ≡ made b.padding b.repr b.range b.iso_week_based b.sign_is_mandatory = cc in
    whole
  where
    made : Padding → YearRepr → YearRange → Bool → Bool → Year
    made padding repr range iso_week_based sign_is_mandatory = record { padding = padding; repr = repr; range = range; iso_week_based = iso_week_based; sign_is_mandatory = sign_is_mandatory }

pub both : {A B C : Type 0} (make : A → B → C) {a c : A} {b d : B} → a ≡ c → b ≡ d → make a b ≡ make c d
both make e f = cc

padded : (make : Padding → Component) (p q : Padding) → padding_equality.ghosts.eq p q ≡ true → make p ≡ make q
padded make p q h = ap make (same_padding p q h)

told : (make : Bool → Component) (x y : Bool) → beq x y ≡ true → make x ≡ make y
told make x y h = ap make (same_truth x y h)

padded_told : (make : Padding → Bool → Component) (p q : Padding) (x y : Bool) → padding_equality.ghosts.eq p q && beq x y ≡ true → make p x ≡ make q y
padded_told make p q x y h = both make (same_padding p q (first_so _ _ h)) (same_truth x y (second_so (padding_equality.ghosts.eq p q) _ h))

pub same_component : (a b : Component) → component_equality.ghosts.eq a b ≡ true → a ≡ b
same_component (component.Day a) (component.Day b) h = padded (λ x. component.Day (record { padding = x })) a.padding b.padding h
same_component (component.MonthShort a) (component.MonthShort b) h = told (λ x. component.MonthShort (record { case_sensitive = x })) a.case_sensitive b.case_sensitive h
same_component (component.MonthLong a) (component.MonthLong b) h = told (λ x. component.MonthLong (record { case_sensitive = x })) a.case_sensitive b.case_sensitive h
same_component (component.MonthNumerical a) (component.MonthNumerical b) h = padded (λ x. component.MonthNumerical (record { padding = x })) a.padding b.padding h
same_component (component.Ordinal a) (component.Ordinal b) h = padded (λ x. component.Ordinal (record { padding = x })) a.padding b.padding h
same_component (component.WeekdayShort a) (component.WeekdayShort b) h = told (λ x. component.WeekdayShort (record { case_sensitive = x })) a.case_sensitive b.case_sensitive h
same_component (component.WeekdayLong a) (component.WeekdayLong b) h = told (λ x. component.WeekdayLong (record { case_sensitive = x })) a.case_sensitive b.case_sensitive h
same_component (component.WeekdaySunday a) (component.WeekdaySunday b) h = told (λ x. component.WeekdaySunday (record { one_indexed = x })) a.one_indexed b.one_indexed h
same_component (component.WeekdayMonday a) (component.WeekdayMonday b) h = told (λ x. component.WeekdayMonday (record { one_indexed = x })) a.one_indexed b.one_indexed h
same_component (component.WeekNumberIso a) (component.WeekNumberIso b) h = padded (λ x. component.WeekNumberIso (record { padding = x })) a.padding b.padding h
same_component (component.WeekNumberSunday a) (component.WeekNumberSunday b) h = padded (λ x. component.WeekNumberSunday (record { padding = x })) a.padding b.padding h
same_component (component.WeekNumberMonday a) (component.WeekNumberMonday b) h = padded (λ x. component.WeekNumberMonday (record { padding = x })) a.padding b.padding h
same_component (component.CalendarYearFullExtendedRange a) (component.CalendarYearFullExtendedRange b) h = padded_told (λ x y. component.CalendarYearFullExtendedRange (record { padding = x; sign_is_mandatory = y })) a.padding b.padding a.sign_is_mandatory b.sign_is_mandatory h
same_component (component.CalendarYearFullStandardRange a) (component.CalendarYearFullStandardRange b) h = padded_told (λ x y. component.CalendarYearFullStandardRange (record { padding = x; sign_is_mandatory = y })) a.padding b.padding a.sign_is_mandatory b.sign_is_mandatory h
same_component (component.IsoYearFullExtendedRange a) (component.IsoYearFullExtendedRange b) h = padded_told (λ x y. component.IsoYearFullExtendedRange (record { padding = x; sign_is_mandatory = y })) a.padding b.padding a.sign_is_mandatory b.sign_is_mandatory h
same_component (component.IsoYearFullStandardRange a) (component.IsoYearFullStandardRange b) h = padded_told (λ x y. component.IsoYearFullStandardRange (record { padding = x; sign_is_mandatory = y })) a.padding b.padding a.sign_is_mandatory b.sign_is_mandatory h
same_component (component.CalendarYearCenturyExtendedRange a) (component.CalendarYearCenturyExtendedRange b) h = padded_told (λ x y. component.CalendarYearCenturyExtendedRange (record { padding = x; sign_is_mandatory = y })) a.padding b.padding a.sign_is_mandatory b.sign_is_mandatory h
same_component (component.CalendarYearCenturyStandardRange a) (component.CalendarYearCenturyStandardRange b) h = padded_told (λ x y. component.CalendarYearCenturyStandardRange (record { padding = x; sign_is_mandatory = y })) a.padding b.padding a.sign_is_mandatory b.sign_is_mandatory h
same_component (component.IsoYearCenturyExtendedRange a) (component.IsoYearCenturyExtendedRange b) h = padded_told (λ x y. component.IsoYearCenturyExtendedRange (record { padding = x; sign_is_mandatory = y })) a.padding b.padding a.sign_is_mandatory b.sign_is_mandatory h
same_component (component.IsoYearCenturyStandardRange a) (component.IsoYearCenturyStandardRange b) h = padded_told (λ x y. component.IsoYearCenturyStandardRange (record { padding = x; sign_is_mandatory = y })) a.padding b.padding a.sign_is_mandatory b.sign_is_mandatory h
same_component (component.CalendarYearLastTwo a) (component.CalendarYearLastTwo b) h = padded (λ x. component.CalendarYearLastTwo (record { padding = x })) a.padding b.padding h
same_component (component.IsoYearLastTwo a) (component.IsoYearLastTwo b) h = padded (λ x. component.IsoYearLastTwo (record { padding = x })) a.padding b.padding h
same_component (component.Hour12 a) (component.Hour12 b) h = padded (λ x. component.Hour12 (record { padding = x })) a.padding b.padding h
same_component (component.Hour24 a) (component.Hour24 b) h = padded (λ x. component.Hour24 (record { padding = x })) a.padding b.padding h
same_component (component.Minute a) (component.Minute b) h = padded (λ x. component.Minute (record { padding = x })) a.padding b.padding h
same_component (component.Period a) (component.Period b) h =
    both (λ (x : Bool) (y : Bool). component.Period (record { is_uppercase = x; case_sensitive = y })) (same_truth a.is_uppercase b.is_uppercase (first_so _ _ h)) (same_truth a.case_sensitive b.case_sensitive (second_so (beq a.is_uppercase b.is_uppercase) _ h))
same_component (component.Second a) (component.Second b) h = padded (λ x. component.Second (record { padding = x })) a.padding b.padding h
same_component (component.Subsecond a) (component.Subsecond b) h = ap (λ (x : SubsecondDigits). component.Subsecond (record { digits = x })) (same_digits a.digits b.digits h)
same_component (component.OffsetHour a) (component.OffsetHour b) h =
    both (λ (x : Bool) (y : Padding). component.OffsetHour (record { sign_is_mandatory = x; padding = y })) (same_truth a.sign_is_mandatory b.sign_is_mandatory (first_so _ _ h)) (same_padding a.padding b.padding (second_so (beq a.sign_is_mandatory b.sign_is_mandatory) _ h))
same_component (component.OffsetMinute a) (component.OffsetMinute b) h = padded (λ x. component.OffsetMinute (record { padding = x })) a.padding b.padding h
same_component (component.OffsetSecond a) (component.OffsetSecond b) h = padded (λ x. component.OffsetSecond (record { padding = x })) a.padding b.padding h
same_component (component.Ignore a) (component.Ignore b) h = ap component.Ignore (same_count a b (eqb-true a.count b.count h))
same_component (component.UnixTimestampSecond a) (component.UnixTimestampSecond b) h = told (λ x. component.UnixTimestampSecond (record { sign_is_mandatory = x })) a.sign_is_mandatory b.sign_is_mandatory h
same_component (component.UnixTimestampMillisecond a) (component.UnixTimestampMillisecond b) h = told (λ x. component.UnixTimestampMillisecond (record { sign_is_mandatory = x })) a.sign_is_mandatory b.sign_is_mandatory h
same_component (component.UnixTimestampMicrosecond a) (component.UnixTimestampMicrosecond b) h = told (λ x. component.UnixTimestampMicrosecond (record { sign_is_mandatory = x })) a.sign_is_mandatory b.sign_is_mandatory h
same_component (component.UnixTimestampNanosecond a) (component.UnixTimestampNanosecond b) h = told (λ x. component.UnixTimestampNanosecond (record { sign_is_mandatory = x })) a.sign_is_mandatory b.sign_is_mandatory h
same_component (component.End a) (component.End b) h = ap (λ (x : TrailingInput). component.End (record { trailing_input = x })) (same_trailing_input a.trailing_input b.trailing_input h)
same_component (component.Month a) (component.Month b) h = ap component.Month (same_month a b h)
same_component (component.Weekday a) (component.Weekday b) h = ap component.Weekday (same_weekday a b h)
same_component (component.WeekNumber a) (component.WeekNumber b) h =
    both (λ (x : Padding) (y : WeekNumberRepr). component.WeekNumber (record { padding = x; repr = y })) (same_padding a.padding b.padding (first_so _ _ h)) (same_week_number_repr a.repr b.repr (second_so (padding_equality.ghosts.eq a.padding b.padding) _ h))
same_component (component.Year a) (component.Year b) h = ap component.Year (same_year a b h)
same_component (component.Hour a) (component.Hour b) h = padded_told (λ x y. component.Hour (record { padding = x; is_12_hour_clock = y })) a.padding b.padding a.is_12_hour_clock b.is_12_hour_clock h
same_component (component.UnixTimestamp a) (component.UnixTimestamp b) h =
    both (λ (x : UnixTimestampPrecision) (y : Bool). component.UnixTimestamp (record { precision = x; sign_is_mandatory = y })) (same_precision a.precision b.precision (first_so _ _ h)) (same_truth a.sign_is_mandatory b.sign_is_mandatory (second_so (precision_equality.ghosts.eq a.precision b.precision) _ h))
same_component a b h = absurd (true≢false (sym h))
