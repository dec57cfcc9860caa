-- The table of the two digits of each number below 100.
use Rattle.std.proofs.Common.{◌≡◌, ℕ, ◌+◌, ◌*◌, ◌/◌, ◌%◌, ◌<◌, eqb, true, get_or, refl}
use Rattle.std.proofs.lemmas.Bool.{agree_below_at, eqb-true}
use Rattle.parsing_values.specs.declared.digits.TheConstants.{PAIRS}

pub tens_at : (n : ℕ) → n < 100 → get_or PAIRS (n * 2) 0 ≡ 48 + n / 10
tens_at n h = eqb-true _ _ (agree_below_at (λ n. eqb (get_or PAIRS (n * 2) 0) (48 + n / 10)) (λ _. true) 100 n refl h)

pub ones_at : (n : ℕ) → n < 100 → get_or PAIRS (n * 2 + 1) 0 ≡ 48 + n % 10
ones_at n h = eqb-true _ _ (agree_below_at (λ n. eqb (get_or PAIRS (n * 2 + 1) 0) (48 + n % 10)) (λ _. true) 100 n refl h)
