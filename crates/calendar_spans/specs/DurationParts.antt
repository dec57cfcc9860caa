-- The parts that a duration keeps: whole seconds, and nanoseconds of the same sign.
use Rattle.std.specs.Prelude.{◌⊎◌, ℤ, pos, neg_ℤ, ◌+ℤ◌, ◌*ℤ◌, ◌≤ℤ◌, int_div, int_rem}
use Rattle.std.proofs.Common.{◌≡◌, arith, refl}
use Rattle.std.proofs.lemmas.Int.{quot-rem}
use Rattle.calendar_count.proofs.lemmas.Signed.{signed, one_sided}
use Rattle.calendar_spans.specs.Duration.{second_nanos}

unfoldable pub duration_nanos : ℤ → ℤ → ℤ
duration_nanos seconds nanoseconds = seconds *ℤ pos second_nanos +ℤ nanoseconds

pub record IsParts (seconds nanoseconds : ℤ) : Type 0 where
  pub low : neg_ℤ (pos 999_999_999) ≤ℤ nanoseconds
  pub high : nanoseconds ≤ℤ pos 999_999_999
  pub same_sign : ((pos 0 ≤ℤ seconds) × (pos 0 ≤ℤ nanoseconds)) ⊎ ((seconds ≤ℤ pos 0) × (nanoseconds ≤ℤ pos 0))

-- the parts in one equation that `omega` reads
pub duration_nanos_is : (s n : ℤ) → duration_nanos s n ≡ s *ℤ pos second_nanos +ℤ n
unfolding duration_nanos
duration_nanos_is s n = refl

-- the nanoseconds of the whole give the parts back
pub nanoseconds_back : (s n : ℤ) → IsParts s n → int_rem (duration_nanos s n) (pos second_nanos) ≡ n
unfolding duration_nanos
nanoseconds_back s n h =
    omega (arith, signed, h.same_sign, one_sided (s *ℤ pos second_nanos +ℤ n), one_sided s, one_sided n)

pub seconds_back : (s n : ℤ) → IsParts s n → int_div (duration_nanos s n) (pos second_nanos) ≡ s
unfolding duration_nanos
seconds_back s n h =
    let z = s *ℤ pos second_nanos +ℤ n in
    let rem = nanoseconds_back s n h in
    omega (arith, signed, quot-rem z (pos second_nanos), rem)
