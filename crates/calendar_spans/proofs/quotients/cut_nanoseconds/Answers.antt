use Rattle.std.proofs.Common.{arith, ◌≡◌, ◌+ℤ◌, ◌*ℤ◌, pos, to_z, of_z, w64}
use Rattle.std.proofs.lemmas.Int.{ints}
use Rattle.calendar_spans.specs.Duration.{second_nanos}
use Rattle.calendar_spans.proofs.QuotientLemmas.{div_le}
use Rattle.calendar_spans.proofs.quotients.cut_nanoseconds.Goals as goal

pub returns : goal.returns
returns c =
    let s = c.args.seconds in
    let n = c.args.nanoseconds in
    let d = c.args.divisor in
    let same : to_z w64 (of_z w64 d) ≡ d = omega (arith, ints) in
    let whole : to_z w64 (of_z w64 (to_z w64 (of_z w64 (to_z w64 (of_z w64 s) *ℤ pos second_nanos)) +ℤ to_z w64 (of_z w64 n))) ≡ s *ℤ pos second_nanos +ℤ n = omega (arith, ints) in
    let small = div_le (s *ℤ pos second_nanos +ℤ n) d in
    record { value = rw (same, whole) (omega (arith, ints, small)) }
