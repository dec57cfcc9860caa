use Rattle.std.proofs.Common.{◌≡◌, ◌≤◌, ◌<◌, ℕ, true, false, length, get_or}
use Rattle.parsing_layout.specs.Stretch.{stands}
use Rattle.parsing_layout.proofs.stretch.Stretch.bytes_at.Given as goal

-- each byte from the lowest on that is not one of them can't stand there
abbrev pub invariant-loop-byte : goal.invariant-loop-byte
invariant-loop-byte l = (length l.bytes ≡ 256) × (l.low ≤ l.byte) × ((b : ℕ) → b < l.byte → l.low ≤ b → get_or l.bytes b true ≡ false → stands l.self.kind l.place b ≡ false)
