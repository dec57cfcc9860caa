-- Where a number lies that is no duration, and the duration nearest to it.
use Rattle.std.proofs.Common.{arith, ◌≡◌, ◌∙◌, ◌↔◌, sym, refl, Bool, true, false, not, IsTrue, ℤ, pos, negsuc, ◌*ℤ◌, ◌≤ℤ◌, ◌<ℤ◌, if◌then◌else◌}
use Rattle.std.specs.Bool.{beq}
use Rattle.std.specs.Prelude.{int_lt}
use Rattle.std.proofs.Math.IntN.{pos-*ℤ-pos, pos-*ℤ-negsuc, negsuc-*ℤ-pos, negsuc-*ℤ-negsuc}
use Rattle.std.proofs.lemmas.Int.{ints, by_lt_z}
use Rattle.calendar_spans.specs.Duration.{least_duration, greatest_duration, IsDuration, nearest_duration}

nearest_of_less : (z : ℤ) → z <ℤ least_duration → nearest_duration z ≡ least_duration
nearest_of_less z h = grind (arith, ints)

nearest_of_more : (z : ℤ) → greatest_duration <ℤ z → nearest_duration z ≡ greatest_duration
nearest_of_more z h = grind (arith, ints)

pub nearest_itself : (z : ℤ) → IsDuration z → nearest_duration z ≡ z
nearest_itself z h = grind (arith, ints)

-- a number that is no duration, by the side on which it lies
pub nearest_end : (z r : ℤ) (back : Bool) → r ≡ (if back then least_duration else greatest_duration) → (back ≡ true → z ≤ℤ greatest_duration) → (back ≡ false → least_duration ≤ℤ z) → (IsDuration z → ⊥) → r ≡ nearest_duration z
nearest_end z r true e low high none =
    e ∙ sym (nearest_of_less z (by_lt_z z least_duration (λ l. l) (λ l. absurd (none (l, low refl)))))
nearest_end z r false e low high none =
    e ∙ sym (nearest_of_more z (by_lt_z greatest_duration z (λ l. l) (λ l. absurd (none (high refl, l)))))

-- a product that is no duration, by the signs of the factors
pub product_end : (z f r : ℤ) (minus : Bool) → (IsTrue minus ↔ (z <ℤ pos 0)) → r ≡ (if not (beq minus (int_lt f (pos 0))) then least_duration else greatest_duration) → (IsDuration (z *ℤ f) → ⊥) → r ≡ nearest_duration (z *ℤ f)
product_end (pos a) f r true is e none = absurd (omega (arith, ints, is.0 refl))
product_end (negsuc a) f r false is e none = absurd (let yes = is.1 (omega (arith, ints)) in cc)
product_end (pos a) (pos b) r false is e none =
    let forward : int_lt (pos b) (pos 0) ≡ false = grind (arith, ints) in
    nearest_end _ r false (rw forward at e) (λ yes. absurd cc) (λ no. omega (arith, ints, pos-*ℤ-pos a b)) none
product_end (pos a) (negsuc b) r false is e none =
    nearest_end _ r true e (λ yes. omega (arith, ints, pos-*ℤ-negsuc a b)) (λ no. absurd cc) none
product_end (negsuc a) (pos b) r true is e none =
    let forward : int_lt (pos b) (pos 0) ≡ false = grind (arith, ints) in
    nearest_end _ r true (rw forward at e) (λ yes. omega (arith, ints, negsuc-*ℤ-pos a b)) (λ no. absurd cc) none
product_end (negsuc a) (negsuc b) r true is e none =
    nearest_end _ r false e (λ yes. absurd cc) (λ no. omega (arith, ints, negsuc-*ℤ-negsuc a b)) none
