-- A month ends on the day that its length says.
use Rattle.std.proofs.Common.{◌≡◌, ℕ, suc, ◌+◌, Bool, cond, eqb, ltb, ℤ, refl, ap, ◌∙◌, arith}
use Rattle.std.proofs.lemmas.Bool.Decides.{nat_tests}
use Rattle.calendar.specs.Calendar.{day_at, next_day, ymd, days_in_month, IsDay, YearMonthDay}
use Rattle.parsing_values.specs.MonthEnd.{ends_month}

day_of_choice : (p q : Bool) (a b c : YearMonthDay) → b.day ≡ 1 → c.day ≡ 1 → (cond p a (cond q b c)).day ≡ cond p a.day 1
day_of_choice p q a b c h k = grind (arith, nat_tests)

pub month_end : (n : ℕ) (y : ℤ) (m d : ℕ) → day_at n ≡ ymd y m d → IsDay y m d → ends_month n ≡ eqb d (days_in_month y m)
unfolding ends_month day_at
month_end n y m d e valid =
    let next : (day_at (n + 1)).day ≡ cond (ltb d (days_in_month y m)) (d + 1) 1 = ap (λ (t : YearMonthDay). t.day) (ap day_at (let s : n + 1 ≡ suc n = omega arith in s) ∙ ap next_day e) ∙ day_of_choice (ltb d (days_in_month y m)) (ltb m 12) _ _ _ refl refl in
    ap (λ (k : ℕ). eqb k 1) next ∙ (let low = valid.3 in let high = valid.4 in grind (arith, nat_tests))
