-- What the calendar's constructors answer, as the day that passes a test.
use Rattle.std.proofs.Common.{◌≡◌, ℕ, ◌+◌, ◌↔◌, Bool, true, false, Result, Ok, Err, IsOk, IfOk, IfErr, OnErr, refl, sym, ◌∙◌, arith, cond, ℤ, pos, ◌+ℤ◌, unsigned_abs}
use Rattle.std.specs.Int.{IsInRange}
use Rattle.std.proofs.lemmas.Bool.Decides.{nat_tests}
use Rattle.std.proofs.lemmas.Int.{ints}
use Rattle.calendar_count.specs.Range.{greatest_year, IsYear, IsCount}
use Rattle.calendar_count.specs.Calendar.{is_year, days_in_year, day_at, ordinal_at, IsIsoDay}
use Rattle.calendar_count.specs.Closed.{days_before_year}
use Rattle.calendar_count.specs.ComponentRange.{out_of_range, out_of_conditional_range}
use Rattle.calendar_count.specs.declared.component_range.ComponentName.{ComponentName}
use Rattle.calendar_count.specs.declared.component_range.ComponentName.TheVariants.{Year, Ordinal, Week}
use Rattle.calendar_count.specs.declared.component_range.ComponentRange.{ComponentRange}
use Rattle.calendar_count.proofs.lemmas.Years.{ordinal_after, days_between, years_since}
use Rattle.calendar_count.proofs.lemmas.Days.{year_bound, iso_year_bound}
use Rattle.calendar_count.proofs.lemmas.Places.{iso_count-is}
use Rattle.parsing_values.specs.NamedDay.{is_ordinal_day, is_iso_day, ordinal_date_of, iso_week_date_of, day_in}
use Rattle.parsing_values.proofs.NamedDayLemmas.{one_day, no_day}

-- why a constructor refuses
abbrev refusal : ℤ → ComponentName → ComponentRange
refusal y component = cond (is_year y) (out_of_conditional_range component) (out_of_range Year)

by_year : (y : ℤ) (component : ComponentName) (test : ℕ → Bool) (e : ComponentRange) (b : Bool) → is_year y ≡ b → e ≡ refusal y component → ((k : ℕ) → IsCount k → test k ≡ true → ⊥) → Err e ≡ day_in y component test
by_year y component test e b there is none = grind (arith, nat_tests, no_day)

-- a refusal in the calendar's words, where no day passes
refused : (y : ℤ) (component : ComponentName) (test : ℕ → Bool) (e : ComponentRange) → e ≡ refusal y component → ((k : ℕ) → IsCount k → test k ≡ true → ⊥) → Err e ≡ day_in y component test
refused y component test e is none = by_year y component test e (is_year y) refl is none

-- ---- places in the year

pub ordinal_year : (y : ℤ) (o n : ℕ) → is_ordinal_day y o n ≡ true → (day_at n).year ≡ y
ordinal_year y o n h = grind (arith, nat_tests, ints)

pub ordinal_count : (y : ℤ) (o n k : ℕ) → y +ℤ pos greatest_year ≡ pos n → is_ordinal_day y o k ≡ true → IsInRange 1 (days_in_year y) o × (o + days_before_year n ≡ k + 1)
ordinal_count y o n k e h =
    let same = ordinal_year y o k h in
    let place : ordinal_at k ≡ o = grind (arith, nat_tests, h) in
    let within = days_between k y n e same in
    grind (arith, nat_tests, ordinal_after)

pub ordinal_result : (y : ℤ) (o : ℕ) (r : Result ℕ ComponentRange) → IsOk r ↔ (IsYear y × IsInRange 1 (days_in_year y) o) → IfOk r (λ d. ((day_at d).year ≡ y) × (ordinal_at d ≡ o)) → IfOk r IsCount → IfErr r (λ e. e ≡ refusal y Ordinal) → r ≡ ordinal_date_of y o
unfolding ordinal_date_of
ordinal_result y o (Ok d) succeeds value bound err =
    let year : IsYear y = (succeeds.0 refl).0 in
    let n = unsigned_abs (y +ℤ pos greatest_year) in
    let e : y +ℤ pos greatest_year ≡ pos n = years_since y year in
    let here : is_ordinal_day y o d ≡ true = rw (value.0, value.1) (grind (arith, nat_tests, ints)) in
    sym (one_day y Ordinal (is_ordinal_day y o) d year bound here (λ k within passes. omega (arith, (ordinal_count y o n k e passes).1, (ordinal_count y o n d e here).1)))
ordinal_result y o (Err e) succeeds value bound err =
    refused y Ordinal (is_ordinal_day y o) e err (λ k within passes.
    let year : IsYear y = rw (ordinal_year y o k passes) at (year_bound k within) in
    let since = years_since y year in
    let no : false ≡ true = succeeds.1 (year, (ordinal_count y o _ k since passes).0) in
    absurd (cc))

-- ---- weeks of ISO 8601

pub iso_is : (y : ℤ) (k w n : ℕ) → is_iso_day y k w n ≡ true → IsIsoDay y k w n
iso_is y k w n h = (grind (arith, nat_tests, ints), grind (arith, nat_tests), grind (arith, nat_tests))

pub iso_result : (y : ℤ) (k w : ℕ) (r : Result ℕ ComponentRange) → IfOk r (IsIsoDay y k w) → IfOk r IsCount → OnErr r ((n : ℕ) → IsCount n → ¬ IsIsoDay y k w n) → IfErr r (λ e. e ≡ refusal y Week) → r ≡ iso_week_date_of y k w
unfolding iso_week_date_of
iso_result y k w (Ok d) value bound none err =
    let year : IsYear y = rw value.0 at (iso_year_bound d bound) in
    let n = unsigned_abs (y +ℤ pos greatest_year) in
    let e : y +ℤ pos greatest_year ≡ pos n = years_since y year in
    let place = iso_count-is d n k w y e value.0 value.1 value.2 in
    sym (one_day y Week (is_iso_day y k w) d year bound (rw (value.0, value.1, value.2) (grind (arith, nat_tests, ints))) (λ j within passes.
    let h = iso_is y k w j passes in
    (iso_count-is j n k w y e h.0 h.1 h.2).0 ∙ sym place.0))
iso_result y k w (Err e) value bound none err =
    refused y Week (is_iso_day y k w) e err (λ j within passes. none j within (iso_is y k w j passes))
