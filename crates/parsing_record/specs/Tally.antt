-- How many items were begun, up to the greatest number that is told.
use Rattle.std.specs.Prelude.{◌≡◌, ℕ, ◌+◌, ◌-◌, ◌^◌, ◌≤◌, min}
use Rattle.std.proofs.Common.{arith}

abbrev pub greatest_count : ℕ
greatest_count = 2 ^ 128 - 1

-- so many more, up to the greatest
abbrev pub Tallied : ℕ → ℕ → ℕ → Type 0
Tallied old new more = (old ≤ greatest_count) → new ≡ min (old + more) greatest_count

pub tallied_none : (x : ℕ) → Tallied x x 0
tallied_none x h = omega arith

pub tallied_more : (x y z n m : ℕ) → Tallied x y n → Tallied y z m → Tallied x z (n + m)
tallied_more x y z n m first second h = let a = first h in let within : y ≤ greatest_count = omega arith in let b = second within in omega arith
