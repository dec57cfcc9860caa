-- Days that a year and what it says of them name.
use Rattle.std.proofs.Common.{◌≡◌, ℕ, ◌+◌, ◌-◌, ◌*◌, ◌%◌, ◌<◌, ◌≤◌, Bool, true, Ok, Err, refl, arith, ℤ, pos, ◌+ℤ◌}
use Rattle.std.proofs.lemmas.Bool.{false_from_ne_true}
use Rattle.std.proofs.lemmas.Bool.Decides.{nat_tests}
use Rattle.std.proofs.lemmas.Int.{ints}
use Rattle.calendar_count.specs.Range.{greatest_year, last_count, IsYear, IsCount}
use Rattle.calendar_count.specs.Calendar.{is_year, days_in_year, day_at, weekday_at, weekdays_so_far}
use Rattle.calendar_count.specs.Closed.{days_before_year}
use Rattle.calendar_count.specs.ComponentRange.{out_of_range, out_of_conditional_range}
use Rattle.calendar_count.specs.declared.component_range.ComponentName.{ComponentName}
use Rattle.calendar_count.specs.declared.component_range.ComponentName.TheVariants.{Year, Ordinal}
use Rattle.calendar_count.proofs.lemmas.Years.{weekdays_after, year_between, days_between}
use Rattle.calendar_count.proofs.lemmas.TheDay.{the_day-one, the_day-none}
use Rattle.calendar_count.specs.Closed.{sevenths}
use Rattle.parsing_values.specs.NamedDay.{is_week_day, week_date_of, day_in}

-- ---- the tests

week_day-yes : (b : ℕ) (y : ℤ) (k w n : ℕ) → (day_at n).year ≡ y → weekdays_so_far b n ≡ k → weekday_at n ≡ w → is_week_day b y k w n ≡ true
week_day-yes b y k w n e f g = rw (e, f, g) (grind (arith, nat_tests, ints))

pub week_day-year : (b : ℕ) (y : ℤ) (k w n : ℕ) → is_week_day b y k w n ≡ true → (day_at n).year ≡ y
week_day-year b y k w n h = grind (arith, nat_tests, ints)

-- ---- weeks that begin on a weekday

-- the days from the week's first one to a weekday
abbrev pub into_week : ℕ → ℕ → ℕ
into_week b w = (w + 7 - b) % 7

-- a day of the year in its week, in closed form: seven more than its count
pub week_count : (b k w n c : ℕ) (y : ℤ) → b < 7 → y +ℤ pos greatest_year ≡ pos n → is_week_day b y k w c ≡ true → (c + 7 ≡ 7 * (k + sevenths b (days_before_year n)) + into_week b w + b) × (days_before_year n ≤ c) × (c < days_before_year n + days_in_year y)
week_count b k w n c y low e h = grind (arith, nat_tests, days_between, weekdays_after)

pub week_count-at : (b k w n c : ℕ) (y : ℤ) → b < 7 → w < 7 → y +ℤ pos greatest_year ≡ pos n → c + 7 ≡ 7 * (k + sevenths b (days_before_year n)) + into_week b w + b → days_before_year n ≤ c → c < days_before_year n + days_in_year y → is_week_day b y k w c ≡ true
week_count-at b k w n c y low small e is first last =
    let same = year_between c y n e first last in
    week_day-yes b y k w c same (omega (arith, weekdays_after b c n y low e same)) (omega arith)

-- ---- years

pub year_there : (y : ℤ) → IsYear y → is_year y ≡ true
year_there y h = grind (arith, nat_tests)

pub year_of_test : (y : ℤ) → is_year y ≡ true → IsYear y
year_of_test y e = grind (arith, nat_tests)

-- what the one day says that passes
pub one_day : (y : ℤ) (component : ComponentName) (test : ℕ → Bool) (d : ℕ) → IsYear y → IsCount d → test d ≡ true → ((k : ℕ) → IsCount k → test k ≡ true → k ≡ d) → day_in y component test ≡ Ok d
one_day y component test d h low here only = rw (year_there y h, the_day-one test d low here only) refl

pub no_day : (y : ℤ) (component : ComponentName) (test : ℕ → Bool) → IsYear y → ((k : ℕ) → IsCount k → test k ≡ true → ⊥) → day_in y component test ≡ Err (out_of_conditional_range component)
no_day y component test h none = rw (year_there y h, the_day-none test none) refl

-- ---- the days of weeks that begin on a weekday

year_end : (n : ℕ) (y : ℤ) → IsYear y → y +ℤ pos greatest_year ≡ pos n → days_before_year n + days_in_year y ≤ last_count + 1
year_end n y h e = grind (arith, nat_tests)

pub week_refused : (b k w : ℕ) (y : ℤ) → ¬ IsYear y → week_date_of b y k w ≡ Err (out_of_range Year)
unfolding week_date_of
week_refused b k w y h = rw (false_from_ne_true (is_year y) (λ e. h (year_of_test y e))) refl

pub week_named : (b k w n c : ℕ) (y : ℤ) → b < 7 → w < 7 → IsYear y → y +ℤ pos greatest_year ≡ pos n → c + 7 ≡ 7 * (k + sevenths b (days_before_year n)) + into_week b w + b → days_before_year n ≤ c → c < days_before_year n + days_in_year y → week_date_of b y k w ≡ Ok c
unfolding week_date_of
week_named b k w n c y low small h e is first last =
    one_day y Ordinal (is_week_day b y k w) c h (omega (arith, year_end n y h e)) (week_count-at b k w n c y low small e is first last)
    (λ j within passes. let at = week_count b k w n j y low e passes in omega (arith, at.0))

pub week_unnamed : (b k w n : ℕ) (y : ℤ) → b < 7 → IsYear y → y +ℤ pos greatest_year ≡ pos n → ((c : ℕ) → c + 7 ≡ 7 * (k + sevenths b (days_before_year n)) + into_week b w + b → days_before_year n ≤ c → c < days_before_year n + days_in_year y → ⊥) → week_date_of b y k w ≡ Err (out_of_conditional_range Ordinal)
unfolding week_date_of
week_unnamed b k w n y low h e none =
    no_day y Ordinal (is_week_day b y k w) h (λ j within passes. let at = week_count b k w n j y low e passes in none j at.0 at.1 at.2)
