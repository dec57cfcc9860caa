use Rattle.std.proofs.Common.{arith, ◌≡◌, sym, to_z, of_z, w64}
use mir.Syntax.{w128}
use Rattle.std.proofs.lemmas.Int.{ints}
use Rattle.calendar_spans.specs.DurationParts.{duration_nanos}
use Rattle.calendar_spans.proofs.duration.SignedDuration.parts.Goals as goal

seconds : (c : goal.After-from-2) → to_z w128 (of_z w128 c.from.result) ≡ c.self.inside.seconds
seconds c = omega (arith, ints)

nanoseconds : (c : goal.After-from-2) → to_z w64 (of_z w64 c.from-2.result) ≡ c.self.inside.nanoseconds
nanoseconds c = omega (arith, ints)

pub returns-clause-whole : goal.returns-clause-whole
unfolding duration_nanos
returns-clause-whole c = rw (seconds c, nanoseconds c) (sym c.self.view_is)

pub returns-clause-parts : goal.returns-clause-parts
returns-clause-parts c = rw (seconds c, nanoseconds c) c.self.invariant

pub returns-clause-bound : goal.returns-clause-bound
returns-clause-bound c = rw (seconds c, nanoseconds c) (omega (arith, ints), omega (arith, ints))
