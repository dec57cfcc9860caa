-- The days that a month has in every year.
use Rattle.std.proofs.Common.{ℕ, ◌<◌, ◌≤◌, ◌==◌, ◌||◌, cond, get_or, ℤ, arith}
use Rattle.std.proofs.lemmas.Bool.Decides.{nat_tests}
use Rattle.calendar_count.specs.Calendar.{days_in_month}
use Rattle.parsing_values.specs.declared.fields.TheConstants.{SHORTEST}

abbrev shortest : ℕ → ℕ
shortest m = cond (m == 2) 28 (cond ((m == 4) || (m == 6) || (m == 9) || (m == 11)) 30 31)

pub shortest_month : (y : ℤ) (m : ℕ) → m < 13 → get_or SHORTEST m 0 ≤ days_in_month y m
shortest_month y m lt = grind (arith, nat_tests)
