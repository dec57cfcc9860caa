-- The months and the days of the week by their numbers.
use Rattle.std.proofs.Common.{◌≡◌, ℕ, ◌+◌, ◌-◌, ◌<◌, ◌≤◌, ◌==◌, false, List, [], ◌∷◌, length, Some, None, refl, sym, ap, ◌∙◌, arith, ◌⊎◌, inl, inr}
use Rattle.std.proofs.lemmas.Bool.Decides.{nat_tests}
use Rattle.calendar_count.specs.declared.month.Month.{Month}
use Rattle.calendar_count.specs.declared.month.Month.TheVariants as month
use Rattle.calendar_count.specs.declared.weekday.Weekday.{Weekday}
use Rattle.calendar_count.specs.declared.weekday.Weekday.TheVariants as weekday
use Rattle.calendar_count.specs.Month.{month_number}
use Rattle.calendar_count.specs.Weekday.{days_from_monday}
use Rattle.parsing_iso8601.specs.Numbers.{counted, months, weekdays}

pub past : {A : Type 0} → (xs : List A) (n : ℕ) → (n < 1) ⊎ (length xs < n) → counted xs n ≡ None
past [] n h = refl
past (x ∷ xs) n (inl h) = let e : (n == 1) ≡ false = grind (arith, nat_tests) in rw e (past xs (n - 1) (inl (omega arith)))
past (x ∷ xs) n (inr h) = let e : (n == 1) ≡ false = grind (arith, nat_tests) in rw e (past xs (n - 1) (inr (omega arith)))

month_there : (m : Month) → counted months (month_number m) ≡ Some m
month_there month.January = refl
month_there m = refl

pub month_entry : (m : Month) (n : ℕ) → month_number m ≡ n → counted months n ≡ Some m
month_entry m n e = ap (counted months) (sym e) ∙ month_there m

weekday_there : (w : Weekday) → counted weekdays (days_from_monday w + 1) ≡ Some w
weekday_there weekday.Monday = refl
weekday_there w = refl

pub weekday_entry : (w : Weekday) (n : ℕ) → 1 ≤ n → days_from_monday w ≡ n - 1 → counted weekdays n ≡ Some w
weekday_entry w n some e = ap (counted weekdays) (let k : n ≡ days_from_monday w + 1 = omega arith in k) ∙ weekday_there w
