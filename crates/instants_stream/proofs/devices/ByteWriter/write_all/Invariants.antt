use Rattle.std.proofs.Common.{◌≡◌, ℕ, List, ◌⊎◌, ◌++◌, false, length}
use Rattle.std.specs.Io.KnownBytes.{Appends}
use Rattle.instants_stream.proofs.devices.ByteWriter.write_all.Given as goal

-- what is gone from the rest was appended, and the writer is not flushed once any is
abbrev pub invariant-loop-rest : goal.invariant-loop-rest
invariant-loop-rest g l =
    (done : List ℕ) × (l.initial.rest ≡ done ++ l.rest) × Appends (g.Self.ByteWriter.held l.initial.self) (g.Self.ByteWriter.held l.self) done × (g.Self.ByteWriter.failed l.self ≡ g.Self.ByteWriter.failed l.initial.self) × ((length l.rest ≡ length l.initial.rest) ⊎ (g.Self.ByteWriter.flushed l.self ≡ false))

abbrev pub decreases-loop-rest : goal.decreases-loop-rest
decreases-loop-rest g l = length l.rest
