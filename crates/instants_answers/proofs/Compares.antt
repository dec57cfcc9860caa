-- Lists of equal lengths: how they compare, field by field.
use Rattle.std.proofs.Common.{◌≡◌, ℕ, zero, suc, ◌+◌, ◌*◌, ◌/◌, ◌%◌, ◌^◌, ◌<◌, ◌≤◌, inl, inr, List, [], ◌∷◌, ◌++◌, length, refl, sym, ap, ◌∙◌, arith, length-append, Ordering, Less, Equal, Greater, ℤ}
use Rattle.std.specs.Ordering.{nat_cmp, int_cmp, ordering_then}
use Rattle.std.specs.Cmp.Lexicographic.{slice_cmp}
use Rattle.std.proofs.lemmas.Bool.Decides.{nat_tests}
use Rattle.std.proofs.lemmas.Nat.{pow-add}
use Rattle.std.proofs.lemmas.Int.{ints}
use Rattle.std.proofs.lemmas.Map.Lookups.{exact_bytes}
use Rattle.std.proofs.lemmas.Bool.{cases_order}
use Rattle.std.proofs.Math.Nat.{mul-le-mul_right}
use Rattle.base.specs.Bytes.{digit_zero}
use Rattle.parsing_values.specs.Decimal.{decimal}
use Rattle.parsing_values.proofs.lemmas.Decimals.{decimal_length}

then_assoc : (o p q : Ordering) → ordering_then o (ordering_then p q) ≡ ordering_then (ordering_then o p) q
then_assoc Less p q = refl
then_assoc Equal p q = refl
then_assoc Greater p q = refl

-- of lists of equal lengths the first pair that differs decides, and else what follows them
pub cmp_append : (a b x y : List ℕ) → length a ≡ length b → slice_cmp nat_cmp (a ++ x) (b ++ y) ≡ ordering_then (slice_cmp nat_cmp a b) (slice_cmp nat_cmp x y)
cmp_append [] [] x y e = refl
cmp_append [] (d ∷ b) x y e = absurd (omega arith)
cmp_append (c ∷ a) [] x y e = absurd (omega arith)
cmp_append (c ∷ a) (d ∷ b) x y e =
    ap (ordering_then (nat_cmp c d)) (cmp_append a b x y (omega arith)) ∙ then_assoc (nat_cmp c d) (slice_cmp nat_cmp a b) (slice_cmp nat_cmp x y)

pub cmp_same : (a : List ℕ) → slice_cmp nat_cmp a a ≡ Equal
cmp_same [] = refl
cmp_same (c ∷ a) = let e : nat_cmp c c ≡ Equal = grind (arith, nat_tests) in rw (e, cmp_same a) refl

-- lists of equal lengths, and how they compare
pub record Compares (a b : List ℕ) (o : Ordering) : Type 0 where
  pub long : length a ≡ length b
  pub gives : slice_cmp nat_cmp a b ≡ o

pub same_field : (a : List ℕ) → Compares a a Equal
same_field a = record { long = refl; gives = cmp_same a }

pub next_field : {a b x y : List ℕ} {o p : Ordering} → Compares a b o → Compares x y p → Compares (a ++ x) (b ++ y) (ordering_then o p)
next_field {a} {b} {x} {y} c d = record {
  long = length-append a x ∙ rw (c.long, d.long) (sym (length-append b y));
  gives = cmp_append a b x y c.long ∙ rw (c.gives, d.gives) refl;
}

higher : (b q p r s : ℕ) → r < b → q < p → q * b + r < p * b + s
higher b q p r s h lt = omega (arith, mul-le-mul_right b (let le : q + 1 ≤ p = omega arith in le))

-- numbers compare by their quotients, and else by their remainders
pub cmp_mixed : (b q p r s : ℕ) → r < b → s < b → ordering_then (nat_cmp q p) (nat_cmp r s) ≡ nat_cmp (q * b + r) (p * b + s)
cmp_mixed b q p r s h k =
    elim (cases_order q p) [
      | inl same ↦ rw same (grind (arith, nat_tests))
      | inr (inl lt) ↦ let less = higher b q p r s h lt in grind (arith, nat_tests)
      | inr (inr gt) ↦ let more = higher b p q s r k gt in grind (arith, nat_tests)
    ]

pub cmp_parts : (b m n : ℕ) → 0 < b → ordering_then (nat_cmp (m / b) (n / b)) (nat_cmp (m % b) (n % b)) ≡ nat_cmp m n
cmp_parts b m n h =
    let first : m / b * b + m % b ≡ m = omega arith in
    let second : n / b * b + n % b ≡ n = omega arith in
    cmp_mixed b (m / b) (n / b) (m % b) (n % b) (omega arith) (omega arith) ∙ rw (first, second) refl

last_digit : (o : Ordering) (m n : ℕ) → o ≡ nat_cmp (m / 10) (n / 10) → ordering_then o (ordering_then (nat_cmp (digit_zero + m % 10) (digit_zero + n % 10)) Equal) ≡ nat_cmp m n
last_digit o m n e = rw e (grind (arith, nat_tests))

pub fits_next : (width n : ℕ) → n < 10 ^ suc width → n / 10 < 10 ^ width
fits_next width n h = omega (arith, pow-add 10 width 1)

pub decimal_field : (width m n : ℕ) → m < 10 ^ width → n < 10 ^ width → Compares (decimal width m) (decimal width n) (nat_cmp m n)
unfolding decimal
decimal_field zero m n h k = record { long = refl; gives = grind (arith, nat_tests) }
decimal_field (suc width) m n h k =
    let prefix = decimal_field width (m / 10) (n / 10) (fits_next width m h) (fits_next width n k) in
    record {
      long = decimal_length (suc width) m ∙ sym (decimal_length (suc width) n);
      gives = cmp_append (decimal width (m / 10)) (decimal width (n / 10)) ((digit_zero + m % 10) ∷ []) ((digit_zero + n % 10) ∷ []) prefix.long ∙ last_digit _ m n prefix.gives;
    }

-- lists compare as equal exactly where they are
pub same_when : (a b : List ℕ) (o : Ordering) → Compares a b o → (o ≡ Equal → a ≡ b) × (a ≡ b → o ≡ Equal)
same_when a b o c = (λ e. exact_bytes a b (c.gives ∙ e), λ e. sym c.gives ∙ rw e (cmp_same b))

pub int_cmp-equal : (x y : ℤ) → (int_cmp x y ≡ Equal → x ≡ y) × (x ≡ y → int_cmp x y ≡ Equal)
int_cmp-equal x y = (λ e. grind (arith, ints), λ e. grind (arith, ints))
