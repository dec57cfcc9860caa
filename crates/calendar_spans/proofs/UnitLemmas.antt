-- A duration in units of at most a second, by its parts.
use Rattle.std.proofs.Common.{arith, ◌≡◌, inl, inr, ℤ, pos, neg_ℤ, ◌+ℤ◌, ◌*ℤ◌, ◌≤ℤ◌}
use Rattle.std.specs.Prelude.{int_div}
use Rattle.std.proofs.lemmas.Int.{quot-rem, by_lt_z}
use Rattle.calendar_count.proofs.lemmas.Signed.{signed, one_sided}
use Rattle.calendar_spans.specs.Duration.{second_nanos, milli_nanos, micro_nanos}
use Rattle.calendar_spans.specs.DurationParts.{IsParts}

pub whole_millis : (s n : ℤ) → IsParts s n → s *ℤ pos 1000 +ℤ int_div n (pos milli_nanos) ≡ int_div (s *ℤ pos second_nanos +ℤ n) (pos milli_nanos)
whole_millis s n h =
    omega (arith, signed, h.same_sign, quot-rem n (pos milli_nanos), quot-rem (s *ℤ pos second_nanos +ℤ n) (pos milli_nanos), one_sided (s *ℤ pos second_nanos +ℤ n), one_sided s, one_sided n)

pub whole_micros : (s n : ℤ) → IsParts s n → s *ℤ pos 1_000_000 +ℤ int_div n (pos micro_nanos) ≡ int_div (s *ℤ pos second_nanos +ℤ n) (pos micro_nanos)
whole_micros s n h =
    omega (arith, signed, h.same_sign, quot-rem n (pos micro_nanos), quot-rem (s *ℤ pos second_nanos +ℤ n) (pos micro_nanos), one_sided (s *ℤ pos second_nanos +ℤ n), one_sided s, one_sided n)

-- seconds and nanoseconds that have the sign of one number are parts
pub parts_of_sign : (z s n : ℤ) → neg_ℤ (pos 999_999_999) ≤ℤ n → n ≤ℤ pos 999_999_999 → (pos 0 ≤ℤ z → (pos 0 ≤ℤ s) × (pos 0 ≤ℤ n)) → (z ≤ℤ pos 0 → (s ≤ℤ pos 0) × (n ≤ℤ pos 0)) → IsParts s n
parts_of_sign z s n low high forward back = record {
  low = low;
  high = high;
  same_sign = by_lt_z z (pos 0) (λ below. inr (back (omega (arith, signed)))) (λ above. inl (forward above));
}
