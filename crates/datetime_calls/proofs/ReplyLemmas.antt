-- Months and days of the week by their numbers, new moments by their nanoseconds.
use Rattle.std.proofs.Common.{◌≡◌, ℕ, refl, ◌∙◌, ap, ℤ, Option, None, Some}
use Rattle.std.specs.Prelude.{IsSome, IfSome, ◌↔◌, if◌then◌else◌}
use Rattle.std.specs.Option.{option_map, unwrap_or}
use Rattle.calendar_count.specs.declared.month.Month.{Month}
use Rattle.calendar_count.specs.declared.month.Month.TheVariants.{January, February, March, April, May, June, July, August, September, October, November, December}
use Rattle.calendar_count.specs.declared.weekday.Weekday.{Weekday}
use Rattle.calendar_count.specs.declared.weekday.Weekday.TheVariants.{Monday, Tuesday, Wednesday, Thursday, Friday, Saturday, Sunday}
use Rattle.calendar_count.specs.Month.{month_number}
use Rattle.calendar_count.specs.Weekday.{days_from_monday}
use Rattle.datetime_wall.specs.Wall.{IsWallClock, is_wall_clock}
use Rattle.datetime_wall.proofs.lemmas.WallClocks.{is_wall_clock_yes, is_wall_clock_no}
use Rattle.datetime_calls.specs.Replies.{month_of, weekday_of, in_range}

pub month_back : (m : Month) → month_of (month_number m) ≡ m
unfolding month_of
month_back January = refl
month_back February = refl
month_back March = refl
month_back April = refl
month_back May = refl
month_back June = refl
month_back July = refl
month_back August = refl
month_back September = refl
month_back October = refl
month_back November = refl
month_back December = refl

pub weekday_back : (w : Weekday) → weekday_of (days_from_monday w) ≡ w
unfolding weekday_of
weekday_back Monday = refl
weekday_back Tuesday = refl
weekday_back Wednesday = refl
weekday_back Thursday = refl
weekday_back Friday = refl
weekday_back Saturday = refl
weekday_back Sunday = refl

pub month_named : (m : Month) (n : ℕ) → n ≡ month_number m → month_of n ≡ m
month_named m n e = ap month_of e ∙ month_back m

pub weekday_named : (w : Weekday) (n : ℕ) → n ≡ days_from_monday w → weekday_of n ≡ w
weekday_named w n e = ap weekday_of e ∙ weekday_back w

-- a checked call gives the instant where the calendar has its day
pub moved_nanos : {A : Type 0} (instant : A → ℤ) (to : Option A) (i : ℤ) → (IsSome to ↔ IsWallClock i) → IfSome to (λ m. instant m ≡ i) → option_map instant to ≡ in_range i
moved_nanos instant (Some m) i some value = rw (is_wall_clock_yes i (some.0 refl)) (ap Some value)
moved_nanos instant None i some value = rw (is_wall_clock_no i (λ h. let none = some.1 h in cc)) refl

pub moved_next : {A : Type 0} (instant : A → ℤ) (from : A) (to : Option A) (i : ℤ) → (IsSome to ↔ IsWallClock i) → IfSome to (λ m. instant m ≡ i) → instant (unwrap_or to from) ≡ (if is_wall_clock i then i else instant from)
moved_next instant from (Some m) i some value = rw (is_wall_clock_yes i (some.0 refl)) value
moved_next instant from None i some value = rw (is_wall_clock_no i (λ h. let none = some.1 h in cc)) refl
