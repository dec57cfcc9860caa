-- Moments at another offset, by the minutes between the offsets.
use Rattle.std.proofs.Common.{◌≡◌, ℕ, zero, suc, inl, inr, ◌-◌, ◌+◌, ◌*◌, ◌/◌, ◌%◌, ◌<◌, ◌≤◌, List, [], ◌∷◌, ◌++◌, append_assoc, codes, Some, refl, sym, ap, subst, ◌∙◌, arith, to_z, of_z, w32, ℤ, pos, ◌+ℤ◌, ◌-ℤ◌, ◌*ℤ◌}
use Rattle.std.specs.Prelude.{IsTrue, int_div, unsigned_abs}
use Rattle.std.proofs.lemmas.Bool.{cases_lt}
use Rattle.std.proofs.lemmas.Bool.Decides.{nat_tests}
use Rattle.std.proofs.lemmas.Int.{ints, quot-rem}
use Rattle.base.specs.Bytes.{dot}
use Rattle.calendar.specs.UtcOffset.{IsClockOffset}
use Rattle.calendar_clock.specs.TimeParts.{second_of_parts, nanosecond_of_parts}
use Rattle.calendar_count.specs.Range.{IsCount}
use Rattle.calendar_count.specs.Calendar.{YearMonthDay, day_at, next_day, ymd, days_in_month}
use Rattle.calendar_count.proofs.lemmas.Days.{day_at_same}
use Rattle.calendar_count.proofs.lemmas.Signed.{signed}
use Rattle.calendar_count.proofs.lemmas.TheDay.{the_day-named}
use Rattle.datetime_wall.specs.Wall.{Shown, wall_clock, wall_at, instant, day_of, second_nanos, day_nanos, shown_at, IsWallClock}
use Rattle.datetime_wall.proofs.lemmas.Shown.{wall_at-instant, shown_at_some}
use Rattle.datetime_wall.proofs.lemmas.WallClocks.{day_of-wall_clock, nanosecond_of-wall_clock, IsWallClock-wall_clock}
use Rattle.parsing_values.specs.Moment.{day_of_fields, moment_of}
use Rattle.parsing_values.specs.declared.fields.Fields.{Fields}
use Rattle.parsing_values.specs.Decimal.{decimal}
use Rattle.instants_answers.specs.Minute.{minute_text}
use Rattle.instants_answers.specs.Moved.{at_offset, IsMoved}
use Rattle.instants_answers.specs.Text.{time_text, parts_text, moment_text, has_written_year, FitsLine}

-- ---- days beside each other

next_at : (n : ℕ) → day_at (n + 1) ≡ next_day (day_at n)
unfolding day_at
next_at n = ap day_at (let e : n + 1 ≡ suc n = omega arith in e)

in_month : (y : ℤ) (m d : ℕ) → d < days_in_month y m → next_day (ymd y m d) ≡ ymd y m (d + 1)
in_month y m d h = grind (arith, nat_tests)

-- a day so many days later, in its month, has a count as much higher
later_at : (y : ℤ) (m d c k : ℕ) → day_at c ≡ ymd y m d → d + k ≤ days_in_month y m → day_at (c + k) ≡ ymd y m (d + k)
later_at y m d c zero here h = let one : c + 0 ≡ c = omega arith in let other : d + 0 ≡ d = omega arith in rw (one, other) here
later_at y m d c (suc k) here h =
    let before = later_at y m d c k here (omega (arith, h)) in
    let one : c + suc k ≡ (c + k) + 1 = omega arith in
    let other : d + suc k ≡ (d + k) + 1 = omega arith in
    rw (one, other) (next_at (c + k) ∙ ap next_day before ∙ in_month y m (d + k) (omega (arith, h)))

later_count : (y : ℤ) (m d e c n : ℕ) → day_at c ≡ ymd y m d → day_at n ≡ ymd y m e → d ≤ e → e ≤ days_in_month y m → n + d ≡ c + e
later_count y m d e c n here there le h =
    let to : d + (e - d) ≡ e = omega (arith, le) in
    let same : day_at n ≡ day_at (c + (e - d)) = there ∙ sym (later_at y m d c (e - d) here (rw to h) ∙ ap (λ (k : ℕ). ymd y m k) to) in
    omega (arith, le, day_at_same n (c + (e - d)) same)

-- days of one month are as far apart as their counts
pub same_month : (y : ℤ) (m d e c n : ℕ) → day_at c ≡ ymd y m d → day_at n ≡ ymd y m e → d ≤ days_in_month y m → e ≤ days_in_month y m → n + d ≡ c + e
same_month y m d e c n here there h g =
    elim (cases_lt d e) [
      | inl up ↦ later_count y m d e c n here there (omega (arith, up)) g
      | inr down ↦ sym (later_count y m e d n c there here (omega (arith, down)) h)
    ]

pub longest_month : (y : ℤ) (m : ℕ) → days_in_month y m ≤ 31
longest_month y m = grind arith

-- ---- the day of fields

count_is : (f : Fields) (c : ℕ) → IsCount c → day_at c ≡ ymd (pos f.year) f.month f.day → day_of_fields f ≡ c
count_is f c low e = rw (the_day-named (pos f.year) f.month f.day c low e) refl

pub moved : (f : Fields) (c n day minute : ℕ) (minutes : ℤ) → IsCount c → IsCount n → day_at c ≡ ymd (pos f.year) f.month f.day → day_at n ≡ ymd (pos f.year) f.month day
    → day ≤ days_in_month (pos f.year) f.month → minute < 1440 → pos (n * 1440 + minute) ≡ pos (c * 1440) +ℤ minutes → IsMoved f minutes day minute
moved f c n day minute minutes low in_calendar here there short within since = record {
  count = n;
  in_calendar = in_calendar;
  day_is = there;
  day_small = omega (arith, longest_month (pos f.year) f.month);
  within_a_day = within;
  since = rw (count_is f c low here) since;
}

-- ---- the wall clock

-- a small number is kept in 32 bits
pub kept_number : (z : ℤ) → unsigned_abs z ≤ 20_000 → to_z w32 (of_z w32 z) ≡ z
kept_number z h = omega (arith, signed)

-- a sum of small numbers is kept
pub kept_sum : (x y z m a : ℤ) (b : ℕ) → x ≡ pos 5760 +ℤ m → y ≡ a → z ≡ pos b → unsigned_abs m ≤ 1559 → unsigned_abs a ≤ 1559 → b < 1440
    → to_z w32 (of_z w32 (to_z w32 (of_z w32 (to_z w32 (of_z w32 x) -ℤ to_z w32 (of_z w32 y))) +ℤ to_z w32 (of_z w32 z))) ≡ (pos 5760 +ℤ m -ℤ a) +ℤ pos b
kept_sum x y z m a b ex ey ez hm ha hb =
    rw (ex, ey, ez, kept_number (pos 5760 +ℤ m) (omega (arith, signed)), kept_number a (omega arith), kept_number (pos b) (omega arith), kept_number (pos 5760 +ℤ m -ℤ a) (omega (arith, signed))) (kept_number ((pos 5760 +ℤ m -ℤ a) +ℤ pos b) (omega (arith, signed)))

whole_minutes : (target : ℤ) → IsClockOffset target → target ≡ pos 60 *ℤ int_div target (pos 60)
whole_minutes target h = omega (arith, signed, quot-rem target (pos 60), h.whole_minutes)

-- a wall clock of whole minutes and a part of one, moved by the minutes between two offsets
wall_moved : (c n minute second fraction other : ℕ) (target target_minutes offset minutes : ℤ) → target ≡ pos 60 *ℤ target_minutes → minutes ≡ pos minute +ℤ (target_minutes -ℤ offset) → pos (n * 1440 + other) ≡ pos (c * 1440) +ℤ minutes
    → wall_clock c ((minute * 60 + second) * second_nanos + fraction) +ℤ (target -ℤ pos 60 *ℤ offset) *ℤ pos second_nanos ≡ wall_clock n ((other * 60 + second) * second_nanos + fraction)
unfolding wall_clock
wall_moved c n minute second fraction other target target_minutes offset minutes whole e since = omega (arith, signed)

-- ---- the line

-- a minute and a second of it are a second of the day
pub second_parts : (minute second : ℕ) → second < 60 → ((minute * 60 + second) / 3600 ≡ minute / 60) × ((minute * 60 + second) / 60 % 60 ≡ minute % 60) × ((minute * 60 + second) % 60 ≡ second)
second_parts minute second h = (omega arith, omega arith, omega arith)

by_parts : (prefix a b c d : List ℕ) → (((prefix ++ (codes "T" ++ a ++ codes ":" ++ b ++ codes ":")) ++ c) ++ dot ∷ []) ++ d ≡ prefix ++ (codes "T" ++ a ++ codes ":" ++ b ++ codes ":" ++ c ++ codes "." ++ d)
by_parts prefix a b c d = grind (arith, append_assoc)

-- the time of a minute and a second of it, piece by piece after what is there
pub clock_text : (prefix nine : List ℕ) (minute second fraction : ℕ) → second < 60 → decimal 9 fraction ≡ nine
    → (((prefix ++ minute_text minute) ++ decimal 2 second) ++ dot ∷ []) ++ nine ≡ prefix ++ (codes "T" ++ time_text (minute * 60 + second) fraction)
unfolding time_text minute_text
clock_text prefix nine minute second fraction h e =
    let parts = second_parts minute second h in
    rw (parts.0, parts.1, parts.2, e) (by_parts prefix (decimal 2 (minute / 60)) (decimal 2 (minute % 60)) (decimal 2 second) nine)

-- what is written of a wall clock
text_of : (n second fraction : ℕ) (offset : ℤ) (day : YearMonthDay) → second < 86_400 → fraction < second_nanos → day_at n ≡ day
    → moment_text (record { wall = wall_clock n (second * second_nanos + fraction); offset = offset }) ≡ parts_text day second fraction offset
unfolding moment_text
text_of n second fraction offset day h k e =
    let within : second * second_nanos + fraction < day_nanos = omega arith in
    rw (day_of-wall_clock n (second * second_nanos + fraction) within, nanosecond_of-wall_clock n (second * second_nanos + fraction) within, second_of_parts second fraction k, nanosecond_of_parts second fraction k, e) refl

four_digits : (wall : ℤ) (n year : ℕ) (offset : ℤ) (t : YearMonthDay) → day_of wall ≡ n → day_at n ≡ t → t.year ≡ pos year → year ≤ 9999 → IsTrue (has_written_year (record { wall = wall; offset = offset }))
unfolding has_written_year
four_digits wall n year offset t day e year_is low = rw (day, e, year_is) (grind (arith, nat_tests, ints))

second_of_day : (minute second : ℕ) → minute < 1440 → second < 60 → minute * 60 + second < 86_400
second_of_day minute second h k = omega arith

nanosecond_of_day : (second fraction : ℕ) → second < 86_400 → fraction < second_nanos → second * second_nanos + fraction < day_nanos
nanosecond_of_day second fraction h k = omega arith

-- what fields name, at a target so many minutes on
module _ (f : Fields) (target minutes : ℤ) (day minute : ℕ) (is : IsMoved f minutes day minute) (clock : IsClockOffset target) (fraction_small : f.fraction < second_nanos) (minutes_are : minutes ≡ pos f.minute +ℤ (int_div target (pos 60) -ℤ f.offset)) where
  in_day : minute * 60 + f.second < 86_400
  in_day = second_of_day minute f.second is.within_a_day f.within_a_minute

  within : (minute * 60 + f.second) * second_nanos + f.fraction < day_nanos
  within = nanosecond_of_day (minute * 60 + f.second) f.fraction in_day fraction_small

  wall_is : wall_at target (instant (moment_of f)) ≡ wall_clock is.count ((minute * 60 + f.second) * second_nanos + f.fraction)
  unfolding moment_of
  wall_is = wall_at-instant (moment_of f) target ∙ wall_moved (day_of_fields f) is.count f.minute f.second f.fraction minute target (int_div target (pos 60)) f.offset minutes (whole_minutes target clock) minutes_are is.since

  there : at_offset target (moment_of f) ≡ record { wall = wall_clock is.count ((minute * 60 + f.second) * second_nanos + f.fraction); offset = target }
  there = ap (λ (w : ℤ). record { wall = w; offset = target }) wall_is

  pub line_is : moment_text (at_offset target (moment_of f)) ≡ parts_text (ymd (pos f.year) f.month day) (minute * 60 + f.second) f.fraction target
  line_is = ap moment_text there ∙ text_of is.count (minute * 60 + f.second) f.fraction target (ymd (pos f.year) f.month day) in_day fraction_small is.day_is

  pub shown_is : shown_at target (instant (moment_of f)) ≡ Some (at_offset target (moment_of f))
  shown_is = shown_at_some (moment_of f) target (wall_at target (instant (moment_of f))) (wall_at-instant (moment_of f) target) (subst (λ (w : ℤ). IsWallClock w) (sym wall_is) (IsWallClock-wall_clock is.count ((minute * 60 + f.second) * second_nanos + f.fraction) is.in_calendar within))

  pub fits : FitsLine (at_offset target (moment_of f))
  fits = record {
    year = subst (λ (m : Shown). IsTrue (has_written_year m)) (sym there)
        (four_digits (wall_clock is.count ((minute * 60 + f.second) * second_nanos + f.fraction)) is.count f.year target (ymd (pos f.year) f.month day) (day_of-wall_clock is.count ((minute * 60 + f.second) * second_nanos + f.fraction) within) is.day_is refl f.four_digits);
    offset = clock;
  }
