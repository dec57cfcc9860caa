-- A duration times a number, and cut by one, by its parts.
use Rattle.std.proofs.Common.{arith, ◌≡◌, ◌≢◌, ◌∙◌, sym, refl, ap, inl, inr, ℕ, zero, suc, ◌+◌, ◌*◌, ◌/◌, ◌%◌, ◌<◌, ℤ, pos, negsuc, neg_ℤ, ◌+ℤ◌, ◌*ℤ◌, ◌≤ℤ◌, unsigned_abs}
use Rattle.std.specs.Prelude.{int_div, int_rem}
use Rattle.std.proofs.Math.IntN.{neg_ℤ-neg_ℤ, *ℤ_comm, *ℤ-zero, *ℤ-negsuc, suc_ℤ-*ℤ}
use Rattle.std.proofs.Math.Nat.{add-mul-div_left, zero-div, zero-mod, mul_assoc, mul_comm}
use Rattle.std.proofs.lemmas.Nat.{div-add-mod'}
use Rattle.std.proofs.lemmas.Int.{ints}
use Rattle.calendar_spans.specs.Duration.{second_nanos}
use Rattle.calendar_spans.specs.DurationParts.{IsParts}

once_more : (m : ℤ) (k : ℕ) → m *ℤ pos (suc k) ≡ m *ℤ pos k +ℤ m
once_more m k =
    let turned = *ℤ_comm m (pos k) in
    *ℤ_comm m (pos (suc k)) ∙ suc_ℤ-*ℤ (pos k) m ∙ ap (λ x. x +ℤ m) (sym turned)

times_up : (s n : ℤ) (k : ℕ) → (s *ℤ pos k) *ℤ pos second_nanos +ℤ n *ℤ pos k ≡ (s *ℤ pos second_nanos +ℤ n) *ℤ pos k
times_up s n zero = omega (arith, ints, *ℤ-zero s, *ℤ-zero n, *ℤ-zero (s *ℤ pos second_nanos +ℤ n))
times_up s n (suc k) =
    omega (arith, ints, once_more s k, once_more n k, once_more (s *ℤ pos second_nanos +ℤ n) k, times_up s n k)

pub times_parts : (s n f : ℤ) → (s *ℤ f) *ℤ pos second_nanos +ℤ n *ℤ f ≡ (s *ℤ pos second_nanos +ℤ n) *ℤ f
times_parts s n (pos k) = times_up s n k
times_parts s n (negsuc k) =
    omega (arith, ints, *ℤ-negsuc s k, *ℤ-negsuc n k, *ℤ-negsuc (s *ℤ pos second_nanos +ℤ n) k, times_up s n (suc k))

-- long division, part by part
cut_up : (a b d : ℕ) → 0 < d → (a * second_nanos + b) / d ≡ a / d * second_nanos + (a % d * second_nanos + b) / d
cut_up a b d h =
    let parts : a / d * d + a % d ≡ a = div-add-mod' a d in
    let turned : d * (a / d * second_nanos) ≡ a / d * d * second_nanos = sym (mul_assoc d (a / d) second_nanos) ∙ ap (λ x. x * second_nanos) (mul_comm d (a / d)) in
    let whole : a * second_nanos + b ≡ (a % d * second_nanos + b) + d * (a / d * second_nanos) = omega arith in
    ap (λ x. x / d) whole ∙ add-mul-div_left (a % d * second_nanos + b) (a / d * second_nanos) h ∙ omega arith

cut_forward : (a b : ℕ) (d : ℤ) → d ≢ pos 0 → int_div (pos (a * second_nanos + b)) d ≡ int_div (pos a) d *ℤ pos second_nanos +ℤ int_div (int_rem (pos a) d *ℤ pos second_nanos +ℤ pos b) d
cut_forward a b (pos zero) h = absurd (h refl)
cut_forward a b (pos (suc k)) h = ap pos (cut_up a b (suc k) (omega arith))
cut_forward a b (negsuc k) h = let up = cut_up a b (suc k) (omega arith) in omega (arith, ints, up)

div_neg : (x d : ℤ) → int_div (neg_ℤ x) d ≡ neg_ℤ (int_div x d)
div_neg (pos zero) (pos b) = omega (arith, ints, zero-div b)
div_neg (pos zero) (negsuc b) = omega (arith, ints, zero-div (suc b))
div_neg (pos (suc a)) (pos b) = refl
div_neg (pos (suc a)) (negsuc b) = sym (neg_ℤ-neg_ℤ (pos (suc a / suc b)))
div_neg (negsuc a) (pos b) = sym (neg_ℤ-neg_ℤ (pos (suc a / b)))
div_neg (negsuc a) (negsuc b) = refl

rem_neg : (x d : ℤ) → int_rem (neg_ℤ x) d ≡ neg_ℤ (int_rem x d)
rem_neg (pos zero) d = omega (arith, ints, zero-mod (unsigned_abs d))
rem_neg (pos (suc a)) d = refl
rem_neg (negsuc a) d = sym (neg_ℤ-neg_ℤ (pos (suc a % unsigned_abs d)))

-- a duration cut by a number: what is left of the seconds goes over to the nanoseconds
Cut : ℤ → ℤ → ℤ → Type 0
Cut s n d = int_div (s *ℤ pos second_nanos +ℤ n) d ≡ int_div s d *ℤ pos second_nanos +ℤ int_div (int_rem s d *ℤ pos second_nanos +ℤ n) d

forward : (s n d : ℤ) → pos 0 ≤ℤ s → pos 0 ≤ℤ n → d ≢ pos 0 → Cut s n d
unfolding Cut
forward (pos a) (pos b) d p q h = cut_forward a b d h
forward (pos a) (negsuc b) d p q h = absurd (omega (arith, ints))
forward (negsuc a) n d p q h = absurd (omega (arith, ints))

back : (s n d : ℤ) → s ≤ℤ pos 0 → n ≤ℤ pos 0 → d ≢ pos 0 → Cut s n d
unfolding Cut
back s n d p q h =
    let rest = int_rem s d *ℤ pos second_nanos +ℤ n in
    let turned = forward (neg_ℤ s) (neg_ℤ n) d (omega (arith, ints)) (omega (arith, ints)) h in
    let whole : neg_ℤ s *ℤ pos second_nanos +ℤ neg_ℤ n ≡ neg_ℤ (s *ℤ pos second_nanos +ℤ n) = omega (arith, ints) in
    let part : neg_ℤ (int_rem s d) *ℤ pos second_nanos +ℤ neg_ℤ n ≡ neg_ℤ rest = omega (arith, ints) in
    let both = rw (whole, div_neg s d, rem_neg s d, part, div_neg rest d, div_neg (s *ℤ pos second_nanos +ℤ n) d) at turned in
    omega (arith, ints, both)

pub cut_parts : (s n d : ℤ) → IsParts s n → d ≢ pos 0 → int_div (s *ℤ pos second_nanos +ℤ n) d ≡ int_div s d *ℤ pos second_nanos +ℤ int_div (int_rem s d *ℤ pos second_nanos +ℤ n) d
unfolding Cut
cut_parts s n d h nonzero =
    elim h.same_sign [ inl p ↦ forward s n d p.0 p.1 nonzero | inr p ↦ back s n d p.0 p.1 nonzero ]
