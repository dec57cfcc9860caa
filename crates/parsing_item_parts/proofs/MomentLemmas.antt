-- The moment of the record that parts set.
use Rattle.std.proofs.Common.{◌≡◌, ◌∙◌, ◌≤◌, ◌<◌, ◌+◌, ◌*◌, ◌%◌, ◌==◌, ℕ, Bool, true, false, Option, Some, None, Ok, refl, sym, ap, arith, pos, ℤ}
use Rattle.std.specs.Prelude.{◌*ℤ◌, nat_lt, IfSome, if◌then◌else◌}
use Rattle.std.specs.Int.{is_in_range, IsInRange}
use Rattle.std.proofs.lemmas.Bool.Decides.{nat_tests}
use Rattle.std.proofs.lemmas.Int.{ints}
use Rattle.base.specs.Bytes.{hyphen}
use Rattle.calendar_count.specs.Calendar.{is_year, IsDay, days_in_month}
use Rattle.calendar_count.specs.Month.{month_number}
use Rattle.calendar_count.specs.declared.month.Month.{Month}
use Rattle.calendar_clock.specs.Time.{time_of}
use Rattle.datetime_wall.specs.Wall.{Shown, wall_clock, is_wall_clock, second_nanos}
use Rattle.parsing_values.specs.Resolution.{date_of, permitted_time_of, signed_offset_of}
use Rattle.parsing_values.specs.StandIn.{leap_checked}
use Rattle.parsing_values.proofs.lemmas.Ranges.{in_both}
use Rattle.parsing_values.specs.NamedDate.{named_date, by_ordinal, by_day, year_of}
use Rattle.parsing_values.specs.NamedDay.{calendar_date_of}
use Rattle.parsing_values.specs.NamedTime.{named_time, hour_of, half_day_hour, finer_parts}
use Rattle.parsing_values.specs.NamedMoment.{unix_subsecond, unix_instant, named_wall, dated_moment, named_moment}
use Rattle.parsing_values.specs.declared.fields.Fields as fields
use Rattle.parsing_values.specs.Moment.{day_of_fields, time_of_fields, moment_of}
use Rattle.parsing_values.specs.Numbers.{HaveNumbers}
use Rattle.parsing_values.proofs.lemmas.Moments.{fields_date, fields_time, moment_is}
use Rattle.parsing_components.specs.Ranged.{counted, months}
use Rattle.parsing_components.specs.Parts.{time_parts}
use Rattle.parsing_components.specs.Prefix.{beginning}
use Rattle.parsing_components.specs.Whole.{moment_named, offset_named}
use Rattle.parsing_components.proofs.AssumedOffsets.{sign_named}
use Rattle.parsing_layout.specs.Layout.{Values}
use Rattle.parsing_layout.specs.declared.parts.Field.TheVariants as field
use Rattle.parsing_layout.specs.Range.{AreInRange}
use Rattle.parsing_layout.specs.Said.{Said}
use Rattle.parsing_item_parts.specs.Recorded.{recorded, said_or}
use Rattle.parsing_components.proofs.Entries.{month_with}
use Rattle.parsing_item_parts.proofs.SaidLemmas.{SayDay, SayHalf}

-- ---- the hour

pub hour_said : (assumed : Option ℤ) (has : Said) (v : Values) → has field.Hour ≡ true
    → hour_of (time_parts (recorded has v (beginning assumed))) ≡ Some (v field.Hour)
unfolding hour_of
hour_said assumed has v hour = rw hour refl

half_said : (assumed : Option ℤ) (has : Said) (v : Values) → has field.Hour ≡ false → has field.HourOfHalf ≡ true → has field.Half ≡ true
    → hour_of (time_parts (recorded has v (beginning assumed))) ≡ Some (v field.HourOfHalf % 12 + (if v field.Half == 1 then 12 else 0))
unfolding hour_of half_day_hour
half_said assumed has v none hour half = rw (none, hour, half) refl

pub half_late : (assumed : Option ℤ) (has : Said) (v : Values) → SayHalf has → v field.Half ≡ 1
    → hour_of (time_parts (recorded has v (beginning assumed))) ≡ Some (v field.HourOfHalf % 12 + 12)
half_late assumed has v s is =
    half_said assumed has v s.none s.hour s.half ∙ (let later : (v field.Half == 1) ≡ true = grind (arith, nat_tests, is) in rw later refl)

pub half_early : (assumed : Option ℤ) (has : Said) (v : Values) → SayHalf has → (v field.Half ≡ 1 → ⊥)
    → hour_of (time_parts (recorded has v (beginning assumed))) ≡ Some (v field.HourOfHalf % 12)
half_early assumed has v s other =
    let earlier : (v field.Half == 1) ≡ false = grind (arith, nat_tests, other) in
    let same : v field.HourOfHalf % 12 + 0 ≡ v field.HourOfHalf % 12 = omega arith in
    half_said assumed has v s.none s.hour s.half ∙ rw (earlier, same) refl

-- ---- the offset

pub offset_said : (assumed : Option ℤ) (has : Said) (v : Values) (offset : ℤ) → has field.OffsetHour ≡ true → has field.OffsetMinute ≡ true
    → signed_offset_of (v field.Sign == hyphen) (v field.OffsetHour) (v field.OffsetMinute) ≡ Ok offset
    → offset_named (recorded has v (beginning assumed)) ≡ Ok offset
offset_said assumed has v offset hour minute is = grind (arith, nat_tests, sign_named, hyphen)

pub offset_assumed : (assumed : Option ℤ) (has : Said) (v : Values) (offset : ℤ) → has field.OffsetHour ≡ false → has field.OffsetMinute ≡ false
    → offset_named (beginning assumed) ≡ Ok offset → offset_named (recorded has v (beginning assumed)) ≡ Ok offset
offset_assumed assumed has v offset hour minute is = rw (hour, minute) is

-- ---- the moment

calendar_date : (y : ℤ) (m d day : ℕ) → date_of y m d ≡ Ok day → calendar_date_of y m d ≡ Ok day
unfolding date_of calendar_date_of
calendar_date y m d day e = grind (arith, nat_tests, in_both, is_year, is_in_range)

finer_said : (second fraction : Bool) (m s n : ℕ) → (second ≡ false → fraction ≡ false)
    → finer_parts (Some m) (if second then Some s else None) (if fraction then Some n else None)
    ≡ Some (m, if second then s else 0, if fraction then n else 0)
unfolding finer_parts
finer_said second fraction m s n none = grind (arith, nat_tests)

dated : (assumed : Option ℤ) (has : Said) (v : Values) (s : SayDay has) → (hour day time : ℕ) (name : Month) (offset : ℤ)
    → hour_of (time_parts (recorded has v (beginning assumed))) ≡ Some hour
    → counted true months (v field.Month) ≡ Some name → calendar_date_of (pos (v field.Year)) (month_number name) (v field.Day) ≡ Ok day
    → time_of hour (v field.Minute) (said_or has v field.Second 0) (said_or has v field.Nanosecond 0) ≡ Ok time
    → offset_named (recorded has v (beginning assumed)) ≡ Ok offset
    → moment_named (recorded has v (beginning assumed)) ≡ Ok (record { wall = wall_clock day time; offset = offset })
unfolding named_moment dated_moment named_wall named_date by_ordinal by_day year_of named_time permitted_time_of leap_checked
dated assumed has v s hour day time name offset h m in_day in_time in_offset = grind (arith, nat_tests, finer_said)

few_said : (b : Bool) (n most : ℕ) → (b ≡ true → n ≤ most) → (if b then n else 0) ≤ most
few_said b n most few = grind (arith, nat_tests)

pub moment_said : (assumed : Option ℤ) (has : Said) (v : Values) (f : fields.Fields) (hour : ℕ) (offset : ℤ) → AreInRange has v → SayDay has
    → hour_of (time_parts (recorded has v (beginning assumed))) ≡ Some hour
    → hour ≤ 23 → offset_named (recorded has v (beginning assumed)) ≡ Ok (pos 60 *ℤ offset)
    → HaveNumbers f (v field.Year) (v field.Month) (v field.Day) (hour * 60 + v field.Minute) (said_or has v field.Second 0) (said_or has v field.Nanosecond 0) offset
    → moment_named (recorded has v (beginning assumed)) ≡ Ok (moment_of f)
moment_said assumed has v f hour offset range s h low in_offset numbers =
    let second = said_or has v field.Second 0 in
    let nanosecond = said_or has v field.Nanosecond 0 in
    let month = range field.Month s.month in
    let minute = range field.Minute s.minute in
    let m = month_with (v field.Month) month.0 month.1 in
    let in_day : calendar_date_of (pos (v field.Year)) (month_number m.is) (v field.Day) ≡ Ok (day_of_fields f) =
    rw m.number
    (calendar_date (pos (v field.Year)) (v field.Month) (v field.Day) (day_of_fields f) (fields_date f (v field.Year) (v field.Month) (v field.Day) (hour * 60 + v field.Minute) second nanosecond offset numbers)) in
    let few : nanosecond ≤ 999_999_999 = few_said (has field.Nanosecond) (v field.Nanosecond) 999_999_999 (λ there. (range field.Nanosecond there).1) in
    let in_time : time_of hour (v field.Minute) second nanosecond ≡ Ok (time_of_fields f) =
    fields_time f (v field.Year) (v field.Month) (v field.Day) hour (v field.Minute) second nanosecond offset numbers low minute.1 (omega (arith, few)) in
    dated assumed has v s hour (day_of_fields f) (time_of_fields f) m.is (pos 60 *ℤ offset) h m.counted in_day in_time in_offset
    ∙ ap (λ (z : ℤ). Ok (record { wall = wall_clock (day_of_fields f) (time_of_fields f); offset = z }))
    (let back : pos 60 *ℤ offset ≡ pos 60 *ℤ f.offset = rw numbers.same_offset refl in back)
    ∙ ap (λ (x : Shown). Ok x) (moment_is f)

-- ---- Unix time

pub in_calendar : (n : ℕ) → n ≤ 20_000_000_000_000_000_000 → is_wall_clock (pos n) ≡ true
in_calendar n le = grind (arith, nat_tests, ints)

small : (n : ℕ) → n < 1_000_000_000 → nat_lt 999_999_999 n ≡ false
small n lt = grind (arith, nat_tests)

instant_of : (b : Bool) (second nanosecond : ℕ) → second ≤ 9_999_999_999 → nanosecond < 1_000_000_000 → (b ≡ false → nanosecond ≡ 0)
    → unix_subsecond (pos (second * 1_000_000_000)) (if b then Some nanosecond else None) ≡ Ok (pos (second * second_nanos + nanosecond))
unfolding unix_subsecond unix_instant
instant_of b second nanosecond few bound none = grind (arith, nat_tests, second_nanos, in_calendar, small)

unix_at : (assumed : Option ℤ) (has : Said) (v : Values) (instant : ℤ) → has field.Unix ≡ true
    → unix_subsecond (pos (v field.Unix * 1_000_000_000)) (if has field.Nanosecond then Some (v field.Nanosecond) else None) ≡ Ok instant
    → moment_named (recorded has v (beginning assumed)) ≡ Ok (record { wall = instant; offset = pos 0 })
unfolding named_moment
unix_at assumed has v instant there e = rw (there, e) refl

pub unix_said : (assumed : Option ℤ) (has : Said) (v : Values) (o : Option fields.Fields) → has field.Unix ≡ true → v field.Unix ≤ 9_999_999_999
    → v field.Nanosecond < 1_000_000_000 → (has field.Nanosecond ≡ false → v field.Nanosecond ≡ 0)
    → IfSome o (λ f. moment_of f ≡ record { wall = pos (v field.Unix * second_nanos + v field.Nanosecond); offset = pos 0 })
    → IfSome o (λ f. moment_named (recorded has v (beginning assumed)) ≡ Ok (moment_of f))
unix_said assumed has v None there few bound none named = tt
unix_said assumed has v (Some f) there few bound none named =
    unix_at assumed has v (pos (v field.Unix * second_nanos + v field.Nanosecond)) there (instant_of (has field.Nanosecond) (v field.Unix) (v field.Nanosecond) few bound none)
    ∙ ap (λ (x : Shown). Ok x) (sym named)

-- ---- what a call is told

pub day_named : (year month day : ℕ) → year ≤ 9999 → 1 ≤ month → month ≤ 12 → IsInRange 1 (days_in_month (pos year) month) day
    → IsDay (pos year) month day
day_named year month day four some few range = ((omega (arith, ints), omega (arith, ints)), some, few, range.0, range.1)
