-- What a record names of itself it names with anything given, and what it needs to name a moment.
use Rattle.std.proofs.Common.{◌≡◌, ◌&&◌, ◌||◌, ℕ, ℤ, pos, ◌+ℤ◌, ◌-ℤ◌, Bool, true, false, not, Option, Some, None, Ok, Err, refl, ap, ◌∙◌, arith}
use Rattle.std.specs.Prelude.{is_some}
use Rattle.std.specs.Result.{result_ok}
use Rattle.std.proofs.lemmas.Bool.Decides.{nat_tests}
use Rattle.datetime_wall.specs.Wall.{Shown}
use Rattle.parsing_combinator.specs.Fault.{insufficient}
use Rattle.parsing_values.specs.NamedDate.{named_date, by_ordinal, by_day, by_iso_week, by_sunday_week, by_monday_week, year_of, split_year}
use Rattle.parsing_values.specs.NamedTime.{named_time, named_offset, hour_of, half_day_hour, finer_parts}
use Rattle.parsing_values.specs.NamedMoment.{named_moment, dated_moment, named_wall}
use Rattle.parsing_components.specs.declared.fields.Record.{Record}
use Rattle.parsing_record.specs.Parts.{date_parts, time_parts}
use Rattle.parsing_record.specs.Whole.{moment_named, date_named, offset_named}
use Rattle.instants_prefixes.specs.Given.{Given, Years, Unknown, In, Near, lacks_offset, lacks_year, lacks_time, completed, moment_in, nearer, year_of as year_above, moment_of}
use Rattle.instants_prefixes.specs.declared.kind.Kind.TheVariants as kind
use Rattle.instants_prefixes.proofs.Says.{holds}

-- ---- what names no date, no time of day and no offset

-- a day of a year
abbrev pub days : Record → Bool
days r = holds r kind.Ordinal || (holds r kind.Month && holds r kind.Day) || (holds r kind.Week && holds r kind.Weekday)

pub undated : (r : Record) → ((is_some (year_of (date_parts r).year) && days r) || (is_some (year_of (date_parts r).iso_year) && (holds r kind.IsoWeek && holds r kind.Weekday))) ≡ false → date_named r ≡ Err insufficient
unfolding named_date by_ordinal by_day by_iso_week by_sunday_week by_monday_week
undated r e = grind (arith, nat_tests)

yearless : (r : Record) → lacks_year r ≡ true → date_named r ≡ Err insufficient
unfolding named_date by_ordinal by_day by_iso_week by_sunday_week by_monday_week year_of split_year
yearless r e = grind (arith, nat_tests)

-- an hour of the day, without seconds that have no minutes and without a fraction that has no seconds
abbrev pub times : Record → Bool
times r = (holds r kind.Hour24 || (holds r kind.Hour12 && holds r kind.Half)) && not ((holds r kind.Second && not (holds r kind.Minute)) || (holds r kind.Subsecond && not (holds r kind.Second)))

pub untimed : (r : Record) → times r ≡ false → (leap : Bool) → named_time leap (time_parts r) ≡ Err insufficient
unfolding named_time hour_of half_day_hour finer_parts
untimed r e leap = grind (arith, nat_tests)

timeless : (r : Record) → lacks_time r ≡ true → (leap : Bool) → named_time leap (time_parts r) ≡ Err insufficient
unfolding named_time hour_of half_day_hour
timeless r e leap = grind (arith, nat_tests)

pub unplaced : (r : Record) → is_some r.offset_hour ≡ false → offset_named r ≡ Err insufficient
unfolding named_offset
unplaced r e = grind (arith, nat_tests)

-- ---- a record without Unix time names nothing where it lacks a part

abbrev pub names : Record → Option Shown
names r = result_ok (moment_named r)

pub without_date : (r : Record) → r.unix_timestamp_nanos ≡ None → date_named r ≡ Err insufficient → names r ≡ None
unfolding named_moment dated_moment named_wall
without_date r unix e = rw (unix, e) refl

pub without_time : (r : Record) → r.unix_timestamp_nanos ≡ None → ((leap : Bool) → named_time leap (time_parts r) ≡ Err insufficient) → names r ≡ None
unfolding named_moment dated_moment named_wall
without_time r unix e = let none = e r.leap_second_is_permitted in grind (arith, nat_tests)

pub without_offset : (r : Record) → r.unix_timestamp_nanos ≡ None → offset_named r ≡ Err insufficient → names r ≡ None
unfolding named_moment dated_moment
without_offset r unix e = grind (arith, nat_tests)

-- so one that names a moment has all parts
pub record HasParts (r : Record) : Type 0 where
  pub date : lacks_year r ≡ false
  pub time : lacks_time r ≡ false
  pub offset : lacks_offset r ≡ false

pub has_parts : (r : Record) (m : Shown) → r.unix_timestamp_nanos ≡ None → moment_named r ≡ Ok m → HasParts r
unfolding named_moment dated_moment named_wall
has_parts r m unix e = record { date = grind (arith, nat_tests, yearless); time = grind (arith, nat_tests, timeless); offset = grind (arith, nat_tests, unplaced) }

-- ---- with anything given

-- what was read is left as it is
complete : (offset year : Option ℤ) (time : Option ℕ) (r : Record) → lacks_year r ≡ false → lacks_time r ≡ false → lacks_offset r ≡ false → completed offset year time r ≡ r
complete offset year time r date clock zone = grind (arith, nat_tests)

-- Unix time goes before all other parts
pub by_unix : (one other : Record) (n : ℤ) → one.unix_timestamp_nanos ≡ Some n → other.unix_timestamp_nanos ≡ Some n → one.subsecond ≡ other.subsecond → moment_named one ≡ moment_named other
unfolding named_moment
by_unix one other n e f sub = rw (e, f, sub) refl

named_in : (given : Given) (r : Record) (m : Shown) → moment_named r ≡ Ok m → (year : Option ℤ) → moment_in given year r ≡ Some m
named_in given r m e year =
    elim r.unix_timestamp_nanos as (λ o. r.unix_timestamp_nanos ≡ o → moment_in given year r ≡ Some m) [
      | None ↦ λ is. let has = has_parts r m is e in ap names (complete given.offset year given.time r has.date has.time has.offset) ∙ ap result_ok e
      | Some n ↦ λ is. ap result_ok (by_unix (completed given.offset year given.time r) r n is is refl ∙ e)
    ] refl

same_nearer : (above : Shown) (o : Option Shown) → nearer above o o ≡ o
same_nearer above None = refl
same_nearer above (Some m) = grind (arith, nat_tests)

all_nearer : (above : Shown) (o a b c : Option Shown) → a ≡ o → b ≡ o → c ≡ o → nearer above (nearer above a b) c ≡ o
all_nearer above o a b c x y z = rw (x, y, same_nearer above o, z) (same_nearer above o)

-- what is named with each year is named, and what is with none is not
pub each_year : (given : Given) (years : Years) (r : Record) (o : Option Shown) → ((year : Option ℤ) → (years ≡ Unknown → year ≡ None) → moment_in given year r ≡ o) → moment_of given years r ≡ o
unfolding moment_of
each_year given Unknown r o h = h None (λ e. refl)
each_year given (In year) r o h = h (Some year) (λ e. absurd cc)
each_year given (Near above) r o h = all_nearer above o _ _ _ (h (Some (year_above above -ℤ pos 1)) (λ e. absurd cc)) (h (Some (year_above above)) (λ e. absurd cc)) (h (Some (year_above above +ℤ pos 1)) (λ e. absurd cc))

-- what a record names of itself it names with anything given
pub named_given : (given : Given) (years : Years) (r : Record) (m : Shown) → moment_named r ≡ Ok m → moment_of given years r ≡ Some m
named_given given years r m e = each_year given years r (Some m) (λ year known. named_in given r m e year)
