use Rattle.std.proofs.Common.{◌≡◌, ◌<◌, drop}
use Rattle.parsing_iso8601.specs.Fractions.{part_of}
use Rattle.parsing_iso8601.proofs.fraction.part_of.Given as goal

abbrev pub invariant-loop-place : goal.invariant-loop-place
invariant-loop-place l = (l.carried ≡ part_of l.unit (drop l.place l.run)) × (l.carried < l.unit)
