use Rattle.std.proofs.Common.{arith, ◌≡◌, to_z, of_z, w64}
use Rattle.std.proofs.lemmas.Int.{ints}
use Rattle.calendar_spans.proofs.duration.SignedDuration.checked_mul.Goals as goal

pub times-requires : goal.times-requires
times-requires c = omega (arith, ints)

same : (c : goal.After-times) → to_z w64 (of_z w64 c.into.result) ≡ c.args.factor
same c = omega (arith, ints)

pub returns-clause-some : goal.returns-clause-some
returns-clause-some c = rw (same c) at c.times.ensures.some

pub returns-clause-value : goal.returns-clause-value
returns-clause-value c = rw (same c) at c.times.ensures.value
