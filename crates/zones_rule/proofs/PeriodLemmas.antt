-- The calendar repeats itself after 400 years of 146,097 days, which are whole weeks: from the year 2 on, since a rule may mean a day of the week before a year.
use Rattle.std.proofs.Common.{◌≡◌, ℕ, zero, suc, ◌+◌, ◌%◌, ◌≤◌, ap, ap₂, ◌∙◌, refl, arith, true, false, ℤ, pos, ◌+ℤ◌, int_le, if◌then◌else◌}
use Rattle.std.specs.Prelude.{nat_lt}
use Rattle.std.proofs.lemmas.Int.{ints}
use Rattle.std.proofs.lemmas.Bool.Decides.{nat_tests}
use Rattle.zones_rule.specs.declared.rule.Day.{Day}
use Rattle.zones_rule.specs.declared.rule.Day.TheVariants.{Julian, Numbered, Weekday}
use Rattle.zones_rule.specs.declared.rule.Summer.{Summer}
use Rattle.zones_rule.specs.declared.years.Transition.{Transition}
use Rattle.zones_rule.specs.Years.{is_leap, first_day, first_day_of_month, first_day_after, weekday_from, unless_after, day_in, start_in, end_in, in_order, paired, transitions_in, first_in, second_in}
use Rattle.zones_rule.specs.Transitions.{years_in_order}
use Rattle.zones_clock.proofs.ClockLemmas.{le-true}
use Rattle.zones_rule.proofs.TransitionLemmas.{order_of}

first_later : (year : ℕ) → 1 ≤ year → first_day (year + 400) ≡ first_day year + 146_097
first_later year some = omega arith

leap_later : (year : ℕ) → is_leap (year + 400) ≡ is_leap year
leap_later year =
    let four : (year + 400) % 4 ≡ year % 4 = omega arith in
    let hundred : (year + 400) % 100 ≡ year % 100 = omega arith in
    let all : (year + 400) % 400 ≡ year % 400 = omega arith in
    rw (four, hundred, all) refl

month_later : (year month : ℕ) → 1 ≤ year → first_day_of_month (year + 400) month ≡ first_day_of_month year month + 146_097
month_later year month some = let first = first_later year some in rw (leap_later year) (omega (arith, first))

after_later : (year month : ℕ) → 1 ≤ year → first_day_after (year + 400) month ≡ first_day_after year month + 146_097
after_later year month some = elim (nat_lt month 12) as (λ b. (if b then first_day_of_month (year + 400) (month + 1) else first_day (year + 400 + 1)) ≡ (if b then first_day_of_month year (month + 1) else first_day (year + 1)) + 146_097) [
  | true ↦ month_later year (month + 1) some
  | false ↦ omega arith
]

week_later : (first next weekday weeks : ℕ) → 7 ≤ first → unless_after (weekday_from (first + 146_097) weekday + weeks) (next + 146_097) ≡ unless_after (weekday_from first weekday + weeks) next + 146_097
week_later first next weekday weeks some =
    let same : (first + 146_097 + 1) % 7 ≡ (first + 1) % 7 = omega arith in
    grind (arith, nat_tests, same)

day_later : (day : Day) (year : ℕ) → 2 ≤ year → day_in day (year + 400) ≡ day_in day year + 146_097
unfolding day_in
day_later (Julian number) year some = let first = first_later year (omega arith) in rw (leap_later year) (omega (arith, first))
day_later (Numbered number) year some = omega arith
day_later (Weekday month week weekday) year some =
    rw (month_later year month (omega arith), after_later year month (omega arith)) (week_later (first_day_of_month year month) (first_day_after year month) weekday _ (omega arith))

abbrev moved : Transition → Transition
moved transition = record { at = transition.at +ℤ pos 12_622_780_800; is_summer = transition.is_summer }

pair_later : (start end : Transition) → in_order (moved start) (moved end) ≡ (moved (in_order start end).0, moved (in_order start end).1)
pair_later start end =
    let same : int_le (moved start).at (moved end).at ≡ int_le start.at end.at = grind (arith, ints) in
    rw same (elim (int_le start.at end.at) as (λ b. paired b (moved start) (moved end) ≡ (moved (paired b start end).0, moved (paired b start end).1)) [ true ↦ refl | false ↦ refl ])

year_later : (standard : ℤ) (summer : Summer) (year : ℕ) → 2 ≤ year → transitions_in standard summer (year + 400) ≡ (moved (first_in standard summer year), moved (second_in standard summer year))
unfolding transitions_in start_in end_in
year_later standard summer year some =
    let start : start_in standard summer (year + 400) ≡ moved (start_in standard summer year) = let d = day_later summer.start.day year some in ap (λ (at : ℤ). record { at = at; is_summer = true }) (omega (arith, ints, d)) in
    let end : end_in standard summer (year + 400) ≡ moved (end_in standard summer year) = let d = day_later summer.end.day year some in ap (λ (at : ℤ). record { at = at; is_summer = false }) (omega (arith, ints, d)) in
    ap₂ in_order start end ∙ pair_later (start_in standard summer year) (end_in standard summer year)

-- so where the first 401 years are in order, all are
pub all_in_order : (standard : ℤ) (summer : Summer) (more : ℕ) → years_in_order standard summer 401 ≡ true → years_in_order standard summer (more + 401) ≡ true
unfolding years_in_order
all_in_order standard summer zero order = order
all_in_order standard summer (suc more) order =
    let before : years_in_order standard summer (more + 401) ≡ true = all_in_order standard summer more order in
    let third : more + 2 + 1 ≡ more + 3 = omega arith in
    let le = rw third at (order_of standard summer (more + 401) before (more + 2) (omega arith) (omega arith)) in
    let one = ap (λ p. p.1.at) (year_later standard summer (more + 2) (omega arith)) in
    let next = ap (λ p. p.0.at) (year_later standard summer (more + 3) (omega arith)) in
    let last : suc more + 401 ≡ suc (more + 401) = omega arith in
    let here : more + 401 + 1 ≡ more + 2 + 400 = omega arith in
    let after : more + 2 + 400 + 1 ≡ more + 3 + 400 = omega arith in
    rw (last, before, here, after) (le-true (second_in standard summer (more + 2 + 400)).at (first_in standard summer (more + 3 + 400)).at (omega (arith, ints, le, one, next)))
