use Rattle.std.proofs.Common.{◌≡◌, inl, inr, ◌∙◌, ap, ℕ, get_or, bit_and, arith, ◌+◌}
use Rattle.std.specs.Int.{bit_at}
use Rattle.std.proofs.lemmas.Nat.Bits.{bit_at-zero}
use Rattle.instants_found.proofs.LaneLemmas.{both_none}
use Rattle.instants_found.proofs.marks.Marks.bits.Goals as goal

pub returns-then-bits-eq0 : goal.returns-then-bits-eq0
returns-then-bits-eq0 c = λ k lt none.
    let bit : bit_at c.bits-bits.result k ≡ 0 = rw c.if-bits-eq0.true (bit_at-zero k) in
    inl (c.bits-bits.ensures k lt bit)

pub returns-then-begun-eq0 : goal.returns-then-begun-eq0
returns-then-begun-eq0 c = λ k lt none.
    let bit : bit_at (bit_and c.bits-bits.result c.bits_within.result) k ≡ 0 = rw c.if-begun-eq0.true (bit_at-zero k) in
    elim (both_none c.bits-bits.result c.bits_within.result k bit) [
      | inl keys ↦ inl (c.bits-bits.ensures k lt keys)
      | inr first ↦ inr (inl (rw (c.load.ensures k lt) at (c.bits_within.ensures k lt first)))
    ]

pub returns : goal.returns
returns c = λ k lt none.
    elim (both_none _ c.bits_within-2.result k none) [
      | inl begun ↦
          elim (both_none c.bits-bits.result c.bits_within.result k begun) [
            | inl keys ↦ inl (c.bits-bits.ensures k lt keys)
            | inr first ↦ inr (inl (rw (c.load.ensures k lt) at (c.bits_within.ensures k lt first)))
          ]
      | inr fourth ↦
          let place : c.args.at + 3 + k ≡ c.args.at + k + 3 = omega arith in
          let same = c.load-2.ensures k lt ∙ ap (λ (n : ℕ). get_or c.args.line.now n 0) place in
          inr (inr (rw same at (c.bits_within-2.ensures k lt fourth)))
    ]
