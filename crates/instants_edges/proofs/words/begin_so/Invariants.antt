use Rattle.std.proofs.Common.{◌≡◌, drop}
use Rattle.instants_edges.specs.Words.{begin_so}
use Rattle.instants_edges.proofs.words.begin_so.Given as goal

abbrev pub invariant-loop-place : goal.invariant-loop-place
invariant-loop-place l = begin_so (drop l.place l.form) (drop l.place l.bytes) ≡ begin_so l.form l.bytes
