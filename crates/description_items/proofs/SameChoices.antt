-- Choices that equality takes for the same are equal.
use Rattle.std.proofs.Common.{◌≡◌, ℕ, ◌<◌, Bool, true, false, refl, sym, ap, subst, true≢false}
use Rattle.std.proofs.Math.Bool.{beq}
use Rattle.std.proofs.Math.Bridge.{le_prop}
use Rattle.description_modifiers.specs.declared.choices.Padding.{Padding}
use Rattle.description_modifiers.specs.declared.choices.Padding.TheVariants as padding
use Rattle.description_modifiers.specs.contracts.choices.PaddingPartialEq.TheImpl as padding_equality
use Rattle.description_modifiers.specs.declared.choices.MonthRepr.{MonthRepr}
use Rattle.description_modifiers.specs.declared.choices.MonthRepr.TheVariants as month_repr
use Rattle.description_modifiers.specs.contracts.choices.MonthReprPartialEq.TheImpl as month_repr_equality
use Rattle.description_modifiers.specs.declared.choices.WeekdayRepr.{WeekdayRepr}
use Rattle.description_modifiers.specs.declared.choices.WeekdayRepr.TheVariants as weekday_repr
use Rattle.description_modifiers.specs.contracts.choices.WeekdayReprPartialEq.TheImpl as weekday_repr_equality
use Rattle.description_modifiers.specs.declared.choices.WeekNumberRepr.{WeekNumberRepr}
use Rattle.description_modifiers.specs.declared.choices.WeekNumberRepr.TheVariants as week_number_repr
use Rattle.description_modifiers.specs.contracts.choices.WeekNumberReprPartialEq.TheImpl as week_number_repr_equality
use Rattle.description_modifiers.specs.declared.choices.YearRepr.{YearRepr}
use Rattle.description_modifiers.specs.declared.choices.YearRepr.TheVariants as year_repr
use Rattle.description_modifiers.specs.contracts.choices.YearReprPartialEq.TheImpl as year_repr_equality
use Rattle.description_modifiers.specs.declared.choices.YearRange.{YearRange}
use Rattle.description_modifiers.specs.declared.choices.YearRange.TheVariants as year_range
use Rattle.description_modifiers.specs.contracts.choices.YearRangePartialEq.TheImpl as year_range_equality
use Rattle.description_modifiers.specs.declared.choices.SubsecondDigits.{SubsecondDigits}
use Rattle.description_modifiers.specs.declared.choices.SubsecondDigits.TheVariants as digits
use Rattle.description_modifiers.specs.contracts.choices.SubsecondDigitsPartialEq.TheImpl as digits_equality
use Rattle.description_modifiers.specs.declared.choices.UnixTimestampPrecision.{UnixTimestampPrecision}
use Rattle.description_modifiers.specs.declared.choices.UnixTimestampPrecision.TheVariants as precision
use Rattle.description_modifiers.specs.contracts.choices.UnixTimestampPrecisionPartialEq.TheImpl as precision_equality
use Rattle.description_modifiers.specs.declared.choices.TrailingInput.{TrailingInput}
use Rattle.description_modifiers.specs.declared.choices.TrailingInput.TheVariants as trailing_input
use Rattle.description_modifiers.specs.contracts.choices.TrailingInputPartialEq.TheImpl as trailing_input_equality
use Rattle.description_modifiers.specs.declared.ignore.Ignore.{Ignore}

pub same_truth : (a b : Bool) → beq a b ≡ true → a ≡ b
same_truth true true h = refl
same_truth false false h = refl
same_truth a b h = absurd (true≢false (sym h))

pub same_padding : (a b : Padding) → padding_equality.ghosts.eq a b ≡ true → a ≡ b
same_padding padding.Space padding.Space h = refl
same_padding padding.Zero padding.Zero h = refl
same_padding padding.None padding.None h = refl
same_padding a b h = absurd (true≢false (sym h))

pub same_month_repr : (a b : MonthRepr) → month_repr_equality.ghosts.eq a b ≡ true → a ≡ b
same_month_repr month_repr.Numerical month_repr.Numerical h = refl
same_month_repr month_repr.Long month_repr.Long h = refl
same_month_repr month_repr.Short month_repr.Short h = refl
same_month_repr a b h = absurd (true≢false (sym h))

pub same_weekday_repr : (a b : WeekdayRepr) → weekday_repr_equality.ghosts.eq a b ≡ true → a ≡ b
same_weekday_repr weekday_repr.Short weekday_repr.Short h = refl
same_weekday_repr weekday_repr.Long weekday_repr.Long h = refl
same_weekday_repr weekday_repr.Sunday weekday_repr.Sunday h = refl
same_weekday_repr weekday_repr.Monday weekday_repr.Monday h = refl
same_weekday_repr a b h = absurd (true≢false (sym h))

pub same_week_number_repr : (a b : WeekNumberRepr) → week_number_repr_equality.ghosts.eq a b ≡ true → a ≡ b
same_week_number_repr week_number_repr.Iso week_number_repr.Iso h = refl
same_week_number_repr week_number_repr.Sunday week_number_repr.Sunday h = refl
same_week_number_repr week_number_repr.Monday week_number_repr.Monday h = refl
same_week_number_repr a b h = absurd (true≢false (sym h))

pub same_year_repr : (a b : YearRepr) → year_repr_equality.ghosts.eq a b ≡ true → a ≡ b
same_year_repr year_repr.Full year_repr.Full h = refl
same_year_repr year_repr.Century year_repr.Century h = refl
same_year_repr year_repr.LastTwo year_repr.LastTwo h = refl
same_year_repr a b h = absurd (true≢false (sym h))

pub same_year_range : (a b : YearRange) → year_range_equality.ghosts.eq a b ≡ true → a ≡ b
same_year_range year_range.Standard year_range.Standard h = refl
same_year_range year_range.Extended year_range.Extended h = refl
same_year_range a b h = absurd (true≢false (sym h))

pub same_digits : (a b : SubsecondDigits) → digits_equality.ghosts.eq a b ≡ true → a ≡ b
same_digits digits.One digits.One h = refl
same_digits digits.Two digits.Two h = refl
same_digits digits.Three digits.Three h = refl
same_digits digits.Four digits.Four h = refl
same_digits digits.Five digits.Five h = refl
same_digits digits.Six digits.Six h = refl
same_digits digits.Seven digits.Seven h = refl
same_digits digits.Eight digits.Eight h = refl
same_digits digits.Nine digits.Nine h = refl
same_digits digits.OneOrMore digits.OneOrMore h = refl
same_digits a b h = absurd (true≢false (sym h))

pub same_precision : (a b : UnixTimestampPrecision) → precision_equality.ghosts.eq a b ≡ true → a ≡ b
same_precision precision.Second precision.Second h = refl
same_precision precision.Millisecond precision.Millisecond h = refl
same_precision precision.Microsecond precision.Microsecond h = refl
same_precision precision.Nanosecond precision.Nanosecond h = refl
same_precision a b h = absurd (true≢false (sym h))

pub same_trailing_input : (a b : TrailingInput) → trailing_input_equality.ghosts.eq a b ≡ true → a ≡ b
same_trailing_input trailing_input.Prohibit trailing_input.Prohibit h = refl
same_trailing_input trailing_input.Discard trailing_input.Discard h = refl
same_trailing_input a b h = absurd (true≢false (sym h))

-- numbers of bytes are equal by their counts
pub same_count : (a b : Ignore) → a.count ≡ b.count → a ≡ b
same_count a b e = subst (λ (n : ℕ). (some : 0 < n) → a ≡ made n some) e (λ some. ap (made a.count) (le_prop a.some some)) b.some
  where
    made : (n : ℕ) → 0 < n → Ignore
    made n some = record { count = n; some = some }
