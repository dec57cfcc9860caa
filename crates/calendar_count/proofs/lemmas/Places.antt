-- Days and weeks by the years since the first one and the days in the year, which division gives of a count.
use Rattle.std.proofs.Common.{◌≡◌, ℕ, ◌+◌, ◌-◌, ◌*◌, ◌/◌, ◌%◌, ◌<◌, ◌≤◌, inl, inr, arith, ℤ, pos, ◌+ℤ◌, unsigned_abs}
use Rattle.std.proofs.lemmas.Bool.{cases_lt}
use Rattle.calendar_count.specs.Range.{greatest_year, IsYear, last_count, year_count}
use Rattle.calendar_count.specs.Calendar.{days_in_year, day_at, ymd, ordinal_at, weekday_at, thursday_of, iso_year_at, iso_week_at, monday_week_at, sunday_week_at}
use Rattle.calendar_count.specs.Closed.{days_before_year}
use Rattle.calendar_count.specs.March.{march_days}
use Rattle.calendar_count.specs.Place.{place_count, IsPlace, first_thursday, iso_count}
use Rattle.calendar_count.proofs.lemmas.Signed.{signed}
use Rattle.calendar_count.proofs.CountLemmas.{days_before_year-next, Placed-day_at}
use Rattle.calendar_count.proofs.ViewLemmas.{year_at-is, years_at-is, ordinal_at-is, weekdays_so_far-is, years_since-is, iso_week-is}
use Rattle.calendar_count.proofs.MarchLemmas.{march-placed, january-placed}

-- a place comes back from its count
pub place-year : (y : ℤ) (o : ℕ) → IsPlace y o → (day_at (place_count y o)).year ≡ y
unfolding place_count
place-year y o h =
    let n = unsigned_abs (y +ℤ pos greatest_year) in
    let e : y +ℤ pos greatest_year ≡ pos n = years_since-is y h.0 in
    year_at-is (place_count y o) y n e (omega arith) (omega arith)

pub place-ordinal : (y : ℤ) (o : ℕ) → IsPlace y o → ordinal_at (place_count y o) ≡ o
unfolding place_count
place-ordinal y o h =
    let n = unsigned_abs (y +ℤ pos greatest_year) in
    let e : y +ℤ pos greatest_year ≡ pos n = years_since-is y h.0 in
    omega (arith, ordinal_at-is (place_count y o) n y e (place-year y o h))

-- each count of the range has the year and the ordinal that division gives
pub place_split : (c n o : ℕ) (y : ℤ) → c ≤ last_count → y +ℤ pos greatest_year ≡ pos n → days_before_year n + o ≡ c + 1 → c < days_before_year (n + 1) → 1 ≤ o → IsYear y × (o ≤ days_in_year y) × (place_count y o ≡ c)
unfolding place_count
place_split c n o y bound e is within low =
    let few : n < year_count = elim (cases_lt n year_count) [ inl lt ↦ lt | inr ge ↦ absurd (omega (arith, is)) ] in
    let year : IsYear y = omega (arith, signed) in
    let same : unsigned_abs (y +ℤ pos greatest_year) ≡ n = rw e in
    (year, omega (arith, days_before_year-next y n e), rw same (omega arith))

-- the weeks of a place: the Sundays and the Mondays of its year up to it
pub place_sunday_week : (y : ℤ) (o c : ℕ) → IsPlace y o → place_count y o ≡ c → (o + 6 - (c + 1) % 7) / 7 ≡ sunday_week_at c
unfolding place_count
place_sunday_week y o c h is =
    let n = unsigned_abs (y +ℤ pos greatest_year) in
    let e : y +ℤ pos greatest_year ≡ pos n = years_since-is y h.0 in
    let year : (day_at c).year ≡ y = rw is at (place-year y o h) in
    omega (arith, weekdays_so_far-is 6 c n y (omega arith) e year)

pub place_monday_week : (y : ℤ) (o c : ℕ) → IsPlace y o → place_count y o ≡ c → (o + 6 - c % 7) / 7 ≡ monday_week_at c
unfolding place_count
place_monday_week y o c h is =
    let n = unsigned_abs (y +ℤ pos greatest_year) in
    let e : y +ℤ pos greatest_year ≡ pos n = years_since-is y h.0 in
    let year : (day_at c).year ≡ y = rw is at (place-year y o h) in
    omega (arith, weekdays_so_far-is 0 c n y (omega arith) e year)

-- what division gives of a count
pub place_view : (c n o : ℕ) (y : ℤ) → c ≤ last_count → y +ℤ pos greatest_year ≡ pos n → days_before_year n + o ≡ c + 1 → c < days_before_year (n + 1) → 1 ≤ o → (place_count y o ≡ c) × ((day_at c).year ≡ y) × (ordinal_at c ≡ o)
place_view c n o y bound e is within low =
    let split = place_split c n o y bound e is within low in
    let place : IsPlace y o = (split.0, (low, split.1)) in
    (split.2, rw split.2 at (place-year y o place), rw split.2 at (place-ordinal y o place))

-- ---- weeks of ISO 8601

-- the year and the week of ISO 8601, by the year of the Thursday
pub iso_at : (c n : ℕ) (y : ℤ) → y +ℤ pos greatest_year ≡ pos n → days_before_year n ≤ thursday_of c → thursday_of c < days_before_year (n + 1) → (iso_year_at c ≡ y) × (iso_week_at c ≡ (thursday_of c - days_before_year n) / 7 + 1)
iso_at c n y e low high =
    let same = year_at-is (thursday_of c) y n e low (omega (arith, days_before_year-next y n e)) in
    (same, iso_week-is c n y e same)

-- a day of a year, a week and a weekday has the count that they name, in closed form
pub iso_count-is : (c n week day : ℕ) (y : ℤ) → y +ℤ pos greatest_year ≡ pos n → iso_year_at c ≡ y → iso_week_at c ≡ week → weekday_at c ≡ day → (c ≡ iso_count (days_before_year n) week day) × (1 ≤ week) × (first_thursday (days_before_year n) + 7 * (week - 1) < days_before_year n + days_in_year y)
iso_count-is c n week day y e same is d =
    let within = years_at-is (thursday_of c) y n e same in
    let formula = iso_week-is c n y e same in
    (omega (arith, formula), omega (arith, formula), omega (arith, formula))

-- and that count leads to such a day, where the Thursday of the week lies in the year
pub iso_count-at : (n week day : ℕ) (y : ℤ) → y +ℤ pos greatest_year ≡ pos n → 1 ≤ week → day < 7 → first_thursday (days_before_year n) + 7 * (week - 1) < days_before_year n + days_in_year y → (iso_year_at (iso_count (days_before_year n) week day) ≡ y) × (iso_week_at (iso_count (days_before_year n) week day) ≡ week) × (weekday_at (iso_count (days_before_year n) week day) ≡ day)
iso_count-at n week day y e low d high =
    let c = iso_count (days_before_year n) week day in
    let same : thursday_of c ≡ first_thursday (days_before_year n) + 7 * (week - 1) = omega arith in
    let at = iso_at c n y e (omega (arith, same)) (omega (arith, same, days_before_year-next y n e)) in
    (at.0, omega (arith, at.1, same), omega arith)

-- ---- years from 1 March

-- a day of March to December
pub march_day : (c n k m d : ℕ) (y : ℤ) → y +ℤ pos greatest_year ≡ pos n → days_before_year (n + 1) + k ≡ c + 306 → march_days m + d ≡ k → k < march_days (m + 1) → 3 ≤ m → m ≤ 12 → day_at c ≡ ymd y m (d + 1)
march_day c n k m d y e is day within low high = Placed-day_at _ _ (march-placed c n k m d y e is day within low high)

-- a day of January or February, the months 13 and 14
pub january_day : (c n k m d : ℕ) (y : ℤ) → y +ℤ pos greatest_year ≡ pos n → days_before_year n + k ≡ c + 306 → c + 306 < days_before_year (n + 1) → march_days m + d ≡ k → k < march_days (m + 1) → 13 ≤ m → m ≤ 14 → day_at c ≡ ymd y (m - 12) (d + 1)
january_day c n k m d y e is last day within low high = Placed-day_at _ _ (january-placed c n k m d y e is last day within low high)
