-- The laws of the calendar, proved of its definitions.
use Rattle.std.proofs.Common.{◌≡◌, ℕ, Bool, true, false, ◌==◌, if◌then◌else◌, List, [], ◌∷◌, ◌++◌, reverse, Option, None, Some, Result, Ok, Err, IsOk, IfOk, OnErr, IsSome, IfSome, refl, sym, ap, ◌∙◌, arith, ℤ, pos, ◌*ℤ◌, unsigned_abs, nat_lt, ◌≤◌, append_assoc, append-nil}
use Rattle.std.proofs.lemmas.List.{reverse-append}
use Rattle.calendar_count.specs.declared.month.Month.{Month}
use Rattle.calendar_count.specs.declared.month.Month.TheVariants.{January, February, March, April, May, June, July, August, September, October, November, December}
use Rattle.calendar_count.specs.declared.weekday.Weekday.{Weekday}
use Rattle.calendar_count.specs.declared.weekday.Weekday.TheVariants.{Monday, Tuesday, Wednesday, Thursday, Friday, Saturday, Sunday}
use Rattle.calendar_count.specs.Steps.{steps}
use Rattle.calendar_count.specs.Month.{month_number, next_month}
use Rattle.calendar_count.specs.Weekday.{days_from_monday, next_weekday}
use Rattle.calendar_count.proofs.lemmas.Steps.{months_on, month_bound, weekdays_on, weekday_bound}
use Rattle.calendar_count.specs.Range.{IsCount}
use Rattle.calendar_count.proofs.lemmas.Signed.{signed, one_sided}
use Rattle.calendar_spans.specs.Duration.{day_nanos}
use Rattle.calendar_dates.specs.Arithmetic.{days_of}
use Rattle.calendar_count.proofs.lemmas.Days.{year_bound, iso_year_bound, day_valid, ordinal_bound, day_at_same, ordinal_at_same, iso_at_same}
use Rattle.std.proofs.lemmas.Bool.Decides.{nat_tests}
use Rattle.calendar_clock.specs.UtcOffset.{greatest_offset, IsOffset, offset_of_seconds}
use Rattle.calendar.specs.Laws.{ViewsUndone, Takes}

pub views_undone : (day : ℕ) → IsCount day → ViewsUndone day
views_undone day h = record {
  calendar_date = day_valid day h;
  calendar_date_only = λ other e. day_at_same other day e;
  ordinal_date = (year_bound day h, ordinal_bound day);
  ordinal_date_only = λ other e o. ordinal_at_same other day e o;
  iso_week_date = (iso_year_bound day h, (refl, refl, refl));
  iso_week_date_only = λ other is. iso_at_same other day is.0 is.1 is.2;
  julian_day = (omega (arith, signed), omega (arith, signed));
  julian_day_only = λ other e. omega (arith, signed, e);
}

pub takes_all : (calls : List Bool) (days prefix left back : List ℕ) → Takes calls days prefix left back → days ≡ prefix ++ (left ++ reverse back)
unfolding Takes
takes_all [] days prefix left back h = rw (h.0, h.1, h.2) (sym (append-nil days))
takes_all (true ∷ calls) days prefix left back h =
    rw (h.3, h.4) (ap (λ xs. h.0 ∷ xs) (takes_all calls h.1 h.2 left back h.5))
takes_all (false ∷ calls) days prefix left back h =
    let turned : reverse (h.0 ∷ h.2) ≡ reverse h.2 ++ h.0 ∷ [] = reverse-append (h.0 ∷ []) h.2 in
    rw (h.3, h.4, turned, takes_all calls h.1 prefix left h.2 h.5) (simp append_assoc)

-- ---- answers of the constructors

pub only_ok : {E : Type 0} (r : Result ℕ E) (P : ℕ → Type 0) (day : ℕ) → IsOk r → IfOk r P → ((n : ℕ) → P n → n ≡ day) → r ≡ Ok day
only_ok (Ok n) P day good h only = ap Ok (only n h)
only_ok (Err e) P day good h only = absurd (cc)

pub only_not_err : {E : Type 0} (r : Result ℕ E) (P : ℕ → Type 0) (day : ℕ) → IsCount day → P day → OnErr r ((n : ℕ) → IsCount n → ¬ P n) → IfOk r P → ((n : ℕ) → P n → n ≡ day) → r ≡ Ok day
only_not_err (Ok n) P day in_range here none h only = ap Ok (only n h)
only_not_err (Err e) P day in_range here none h only = absurd (none day in_range here)

pub only_some : {A : Type 0} (r : Option A) (P : A → Type 0) (day : A) → IsSome r → IfSome r P → ((n : A) → P n → n ≡ day) → r ≡ Some day
only_some (Some n) P day good h only = ap Some (only n h)
only_some None P day good h only = absurd (cc)

-- ---- months and days of the week are their numbers

month_of : ℕ → Month
month_of n =
    if n == 1 then January else (if n == 2 then February else (if n == 3 then March else (if n == 4 then April
    else (if n == 5 then May else (if n == 6 then June else (if n == 7 then July else (if n == 8 then August
    else (if n == 9 then September else (if n == 10 then October else (if n == 11 then November else December))))))))))

month_back : (m : Month) → month_of (month_number m) ≡ m
unfolding month_of
month_back January = refl
month_back February = refl
month_back March = refl
month_back April = refl
month_back May = refl
month_back June = refl
month_back July = refl
month_back August = refl
month_back September = refl
month_back October = refl
month_back November = refl
month_back December = refl

pub same_month : (a b : Month) (n : ℕ) → steps next_month n (month_number a) ≡ steps next_month n (month_number b) → a ≡ b
same_month a b n e =
    let low = month_bound a in
    let high = month_bound b in
    let numbers : month_number a ≡ month_number b = omega (arith, e, months_on n (month_number a) low.0 low.1, months_on n (month_number b) high.0 high.1) in
    sym (month_back a) ∙ ap month_of numbers ∙ month_back b

weekday_of : ℕ → Weekday
weekday_of n =
    if n == 0 then Monday else (if n == 1 then Tuesday else (if n == 2 then Wednesday else (if n == 3 then Thursday
    else (if n == 4 then Friday else (if n == 5 then Saturday else Sunday)))))

weekday_back : (w : Weekday) → weekday_of (days_from_monday w) ≡ w
unfolding weekday_of
weekday_back Monday = refl
weekday_back Tuesday = refl
weekday_back Wednesday = refl
weekday_back Thursday = refl
weekday_back Friday = refl
weekday_back Saturday = refl
weekday_back Sunday = refl

pub same_weekday : (a b : Weekday) (n : ℕ) → steps next_weekday n (days_from_monday a) ≡ steps next_weekday n (days_from_monday b) → a ≡ b
same_weekday a b n e =
    let low = weekday_bound a in
    let high = weekday_bound b in
    let numbers : days_from_monday a ≡ days_from_monday b = omega (arith, e, weekdays_on n (days_from_monday a) low, weekdays_on n (days_from_monday b) high) in
    sym (weekday_back a) ∙ ap weekday_of numbers ∙ weekday_back b

-- the whole days of so many days are so many
pub days_of_days : (z : ℤ) → days_of (z *ℤ pos day_nanos) ≡ z
days_of_days z = omega (arith, signed, one_sided z)

pub offset_named : (z : ℤ) → IsOffset z → offset_of_seconds z ≡ Ok z
unfolding offset_of_seconds
offset_named z h =
    let small : unsigned_abs z ≤ greatest_offset = omega (arith, signed) in
    let test : nat_lt greatest_offset (unsigned_abs z) ≡ false = grind (arith, nat_tests) in
    rw test refl
