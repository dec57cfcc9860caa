use Rattle.std.proofs.Common.{arith, ◌≡◌, ◌∙◌, sym, ap, ◌+ℤ◌, ◌*ℤ◌, pos, ◌^◌, to_z, of_z, w64, to_z-of_z, unsigned_abs}
use mir.Syntax.{w128}
use Rattle.std.proofs.lemmas.Int.{ints, fits_signed_mul, unsigned_abs-mul}
use Rattle.std.proofs.lemmas.Nat.{mul-le}
use Rattle.calendar_spans.specs.Duration.{second_nanos}
use Rattle.calendar_spans.proofs.ProductLemmas.{times_parts}
use Rattle.calendar_spans.proofs.duration.SignedDuration.times.Goals as goal

pub overflow_mul-seconds : goal.overflow_mul-seconds
overflow_mul-seconds c =
    let s = c.parts-seconds.result.0 in
    let f = c.args.factor in
    let kept : to_z w128 (of_z w128 s) ≡ s = omega (arith, ints) in
    let wide : to_z w128 (of_z w128 c.from.result) ≡ f = omega (arith, ints) in
    rw (kept, wide) (fits_signed_mul w128 s f (2 ^ 63) (2 ^ 32) (omega arith) (omega arith) (omega arith))

pub overflow_mul-nanoseconds : goal.overflow_mul-nanoseconds
overflow_mul-nanoseconds c =
    let n = c.parts-seconds.result.1 in
    let f = c.args.factor in
    let kept : to_z w64 (of_z w64 n) ≡ n = omega (arith, ints) in
    let same : to_z w64 (of_z w64 f) ≡ f = omega (arith, ints) in
    rw (kept, same) (fits_signed_mul w64 n f 999_999_999 (2 ^ 32) (omega arith) (omega arith) (omega arith))

pub from_parts-requires : goal.from_parts-requires
from_parts-requires c =
    let s = c.parts-seconds.result.0 in
    let f = c.args.factor in
    let kept : to_z w128 (of_z w128 s) ≡ s = omega (arith, ints) in
    let wide : to_z w128 (of_z w128 c.from.result) ≡ f = omega (arith, ints) in
    let fits = fits_signed_mul w128 s f (2 ^ 63) (2 ^ 32) (omega arith) (omega arith) (omega arith) in
    let whole : to_z w128 (of_z w128 (s *ℤ f)) ≡ s *ℤ f = to_z-of_z fits in
    let small = mul-le (unsigned_abs s) (unsigned_abs f) (2 ^ 63) (2 ^ 32) (omega arith) (omega arith) in
    rw (kept, wide, whole, unsigned_abs-mul s f) (omega (arith, small))

whole : (c : goal.After-from_parts) → to_z w128 (of_z w128 (to_z w128 (of_z w128 c.parts-seconds.result.0) *ℤ to_z w128 (of_z w128 c.from.result))) *ℤ pos second_nanos +ℤ to_z w64 (of_z w64 (to_z w64 (of_z w64 c.parts-seconds.result.1) *ℤ to_z w64 (of_z w64 c.args.factor))) ≡ c.args.self *ℤ c.args.factor
whole c =
    let s = c.parts-seconds.result.0 in
    let n = c.parts-seconds.result.1 in
    let f = c.args.factor in
    let kept : to_z w128 (of_z w128 s) ≡ s = omega (arith, ints) in
    let wide : to_z w128 (of_z w128 c.from.result) ≡ f = omega (arith, ints) in
    let kept_too : to_z w64 (of_z w64 n) ≡ n = omega (arith, ints) in
    let same : to_z w64 (of_z w64 f) ≡ f = omega (arith, ints) in
    let seconds : to_z w128 (of_z w128 (s *ℤ f)) ≡ s *ℤ f = to_z-of_z (fits_signed_mul w128 s f (2 ^ 63) (2 ^ 32) (omega arith) (omega arith) (omega arith)) in
    let nanoseconds : to_z w64 (of_z w64 (n *ℤ f)) ≡ n *ℤ f = to_z-of_z (fits_signed_mul w64 n f 999_999_999 (2 ^ 32) (omega arith) (omega arith) (omega arith)) in
    rw (kept, wide, kept_too, same, seconds, nanoseconds) (times_parts s n f ∙ ap (λ x. x *ℤ f) (sym c.parts-seconds.ensures.whole))

pub returns-clause-some : goal.returns-clause-some
returns-clause-some c = rw (whole c) at c.from_parts.ensures.some

pub returns-clause-value : goal.returns-clause-value
returns-clause-value c = rw (whole c) at c.from_parts.ensures.value
