-- What a number has above a pattern of it, where it has nothing under a mask.
use Rattle.std.proofs.Common.{◌≡◌, ◌+◌, ◌-◌, ◌%◌, ◌^◌, ◌<◌, ◌≤◌, ◌∙◌, ℕ, sym, ap, arith}
use Rattle.std.specs.Int.Bits.{bit_and, bit_or}
use Rattle.std.proofs.lemmas.Nat.{and_comm, and_assoc, and_or_apart, and_or_self, and_le_r, or_comm, or_disjoint, or_lt}
use Rattle.std.proofs.lemmas.Bool.Decides.{nat_tests}

nothing : (a : ℕ) → bit_and a 0 ≡ 0
nothing a = omega (arith, and_le_r a 0)

-- of two numbers that have nothing under a mask together the second has nothing
second_none : (a b mask : ℕ) → bit_and (bit_or a b) mask ≡ 0 → bit_and b mask ≡ 0
second_none a b mask none =
    let both = bit_or a b in
    ap (λ (n : ℕ). bit_and n mask) (sym (and_or_self b a)) ∙ and_assoc mask both b ∙ ap (bit_and both) (and_comm b mask) ∙ sym (and_assoc b both mask) ∙ ap (λ (n : ℕ). bit_and n b) none ∙ and_comm 0 b ∙ nothing b

first_none : (a b mask : ℕ) → bit_and (bit_or a b) mask ≡ 0 → bit_and a mask ≡ 0
first_none a b mask none = second_none b a mask (ap (λ (n : ℕ). bit_and n mask) (or_comm b a) ∙ none)

-- the pattern with what is apart from it
record With (pattern mask x : ℕ) : Type 0 where
  is_or : bit_or pattern x ≡ pattern + x
  below : pattern + x < 2 ^ 64
  under : bit_and (pattern + x) mask ≡ pattern

apart : (pattern mask x : ℕ) → pattern < 2 ^ 64 → x < 2 ^ 64 → bit_and pattern mask ≡ pattern → bit_and x mask ≡ 0 → With pattern mask x
apart pattern mask x hp hx covers none =
    let zero : bit_and pattern x ≡ 0 = rw (← covers) (and_assoc x pattern mask ∙ ap (bit_and pattern) (and_comm mask x ∙ none) ∙ nothing pattern) in
    let is : bit_or pattern x ≡ pattern + x = or_disjoint pattern x zero in
    record {
      is_or = is;
      below = rw is at (or_lt 64 pattern x hp hx);
      under = rw is at (and_or_apart mask pattern x none) ∙ covers;
    }

-- what both tests say of the number
pub record Fit (chunk mask pattern added : ℕ) : Type 0 where
  pub low : pattern ≤ chunk
  pub above : (chunk + (2 ^ 64 - pattern)) % 2 ^ 64 ≡ chunk - pattern
  pub here : bit_and chunk mask ≡ pattern
  pub more : bit_and ((chunk + added) % 2 ^ 64) mask ≡ pattern

pub fitting : (chunk mask pattern added : ℕ) → chunk < 2 ^ 64 → pattern < 2 ^ 64 → bit_and pattern mask ≡ pattern → bit_and (bit_or ((chunk + (2 ^ 64 - pattern)) % 2 ^ 64) (((chunk + (2 ^ 64 - pattern)) % 2 ^ 64 + added) % 2 ^ 64)) mask ≡ 0 → Fit chunk mask pattern added
fitting chunk mask pattern added hc hp covers none =
    let x : ℕ = (chunk + (2 ^ 64 - pattern)) % 2 ^ 64 in
    let y : ℕ = (x + added) % 2 ^ 64 in
    let one = apart pattern mask x hp (omega arith) covers (first_none x y mask none) in
    let other = apart pattern mask y hp (omega arith) covers (second_none x y mask none) in
    grind (arith, nat_tests)
