-- A text that says the layout is read, and names the moment of its values.
use Rattle.std.proofs.Common.{◌≡◌, ℕ, ◌+◌, ◌*◌, ◌≤◌, true, List, [], Option, Some, None, Ok, pos, refl, ap, lit<}
use Rattle.calendar_count.specs.Month.{month_number}
use Rattle.calendar_count.specs.declared.month.Month.{Month}
use Rattle.calendar_count.specs.declared.weekday.Weekday.{Weekday}
use Rattle.parsing_combinator.specs.Names.{named, short_months, short_weekdays}
use Rattle.parsing_combinator.specs.Shape.{taken}
use Rattle.parsing_values.specs.Moment as Moment
use Rattle.parsing_values.specs.Numbers.{HaveNumbers}
use Rattle.parsing_values.specs.declared.fields.Fields.{Fields}
use Rattle.parsing_values.proofs.lemmas.Moments.{fields_date, fields_time, moment_is}
use Rattle.parsing_layout.specs.Layout.{Values, Says}
use Rattle.parsing_layout.specs.declared.parts.Field.TheVariants as field
use Rattle.parsing_layout.proofs.LayoutLemmas.{numbered}
use Rattle.parsing_layout.proofs.PieceLemmas.{inside, literal_said}
use Rattle.asctime_tests.specs.Asctime.{asctime, asctime_parts, moment_of, numbers}

-- what was read as a number
said : {A : Type 0} → (f : A → ℕ) (o : Option (A × List ℕ)) (n : ℕ) (after : List ℕ) → numbered f o ≡ Some (n, after) → (what : A) × (o ≡ Some (what, after)) × (f what ≡ n)
said f None n after e = absurd cc
said f (Some x) n after e =
    let is = inside (f x.0, x.1) (n, after) e in
    (x.0, ap (λ (z : ℕ × List ℕ). Some (x.0, z.1)) is, ap (λ (z : ℕ × List ℕ). z.0) is)

numbers_with : (text : List ℕ) (v : Values) (w : Weekday) (m : Month) (says : Says asctime_parts text v [])
    → taken (named true short_weekdays) text ≡ Some (w, says.0) → taken (named true short_months) says.2.0 ≡ Some (m, says.2.2.0)
    → numbers text ≡ Ok ((v field.Year, m, v field.Day, v field.Hour, v field.Minute, v field.Second), [])
unfolding numbers
numbers_with text v w m says in_weekday in_month =
    let day = says.2.2.2.2 in
    let hour = day.2.2 in
    let minute = hour.2.2 in
    let second = minute.2.2 in
    let year = second.2.2 in
    rw (
      in_weekday,
      literal_said _ _ says.2.1,
      in_month,
      literal_said _ _ says.2.2.2.1,
      day.1,
      literal_said _ _ day.2.1,
      hour.1,
      literal_said _ _ hour.2.1,
      minute.1,
      literal_said _ _ minute.2.1,
      second.1,
      literal_said _ _ second.2.1,
      year.1,
      year.2,
    ) refl

numbers_read : (text : List ℕ) (v : Values) → Says asctime_parts text v []
    → (m : Month) × (month_number m ≡ v field.Month) × (numbers text ≡ Ok ((v field.Year, m, v field.Day, v field.Hour, v field.Minute, v field.Second), []))
numbers_read text v says =
    let weekday = said _ _ _ _ says.1 in
    let month = said month_number _ _ _ says.2.2.1 in
    (month.0, month.2, numbers_with text v weekday.0 month.0 says weekday.1 month.1)

pub text_read : (text : List ℕ) (v : Values) (f : Fields) → Says asctime_parts text v [] → v field.Hour ≤ 23 → v field.Minute ≤ 59
    → HaveNumbers f (v field.Year) (v field.Month) (v field.Day) (v field.Hour * 60 + v field.Minute) (v field.Second) 0 (pos 0) → asctime text ≡ Ok (Moment.moment_of f)
unfolding asctime moment_of
text_read text v f says hour_few minute_few n =
    let read = numbers_read text v says in
    rw (read.2, read.1, fields_date f _ _ _ _ _ _ _ n, fields_time f _ _ _ _ _ _ _ _ n hour_few minute_few (lit< tt), ← moment_is f, n.same_offset) refl
