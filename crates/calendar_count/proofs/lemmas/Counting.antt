-- How many of the first counts pass a test.
use Rattle.std.proofs.Common.{◌≡◌, ℕ, zero, suc, ◌+◌, ◌-◌, ◌%◌, ◌<◌, ◌≤◌, inl, inr, Bool, true, false, cond, nat_eq, refl, arith}
use Rattle.std.proofs.lemmas.Bool.{cases_lt}
use Rattle.std.proofs.lemmas.Bool.Decides.{nat_tests}
use Rattle.std.specs.Prelude.{◌==◌}
use Rattle.calendar_count.specs.Calendar.{count_before}
use Rattle.calendar_count.specs.Closed.{sevenths}

-- a test that fails below a and holds from there to b passes b - a times
pub count_before-from : (p : ℕ → Bool) (a b : ℕ) → ((k : ℕ) → k < a → p k ≡ false) → ((k : ℕ) → a ≤ k → k < b → p k ≡ true) → count_before p b ≡ b - a
unfolding count_before
count_before-from p a zero below above = omega arith
count_before-from p a (suc b) below above =
    let rest = count_before-from p a b below (λ k low high. above k low (omega arith)) in
    elim (cases_lt b a) [
      | inl lt ↦ rw (below b lt) (omega arith)
      | inr ge ↦ rw (above b ge (omega arith)) (omega arith)
    ]

sevenths-suc : (w n : ℕ) → w < 7 → sevenths w (suc n) ≡ sevenths w n + cond (nat_eq (n % 7) w) 1 0
sevenths-suc w n h = grind (arith, nat_tests)

-- a test that fails below a and holds from there to b at the numbers that leave w
pub count_before-sevenths : (p : ℕ → Bool) (w a b : ℕ) → w < 7 → a ≤ b → ((k : ℕ) → k < a → p k ≡ false) → ((k : ℕ) → a ≤ k → k < b → p k ≡ (k % 7 == w)) → count_before p b + sevenths w a ≡ sevenths w b
unfolding count_before
count_before-sevenths p w a zero week h below above = let e : a ≡ 0 = omega arith in rw e (omega arith)
count_before-sevenths p w a (suc b) week h below above =
    elim (cases_lt b a) [
      | inl lt ↦ let all : a ≡ suc b = omega arith in let none = count_before-from p a (suc b) below (λ k low high. absurd (omega arith)) in omega (arith, none)
      | inr ge ↦ rw (above b ge (omega arith)) (omega (arith, count_before-sevenths p w a b week ge below (λ k low high. above k low (omega arith)), sevenths-suc w b week))
    ]

-- a test that holds nowhere from a to b passes as often below b as below a
pub count_before-rest : (p : ℕ → Bool) (a k : ℕ) → ((j : ℕ) → a ≤ j → p j ≡ false) → count_before p (k + a) ≡ count_before p a
unfolding count_before
count_before-rest p a zero none = let same : 0 + a ≡ a = omega arith in rw same refl
count_before-rest p a (suc k) none =
    let next : suc k + a ≡ suc (k + a) = omega arith in
    rw (next, none (k + a) (omega arith)) (omega (arith, count_before-rest p a k none))
