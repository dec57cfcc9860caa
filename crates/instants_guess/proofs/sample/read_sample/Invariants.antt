use Rattle.std.proofs.Common.{◌≡◌, ◌≤◌, false, length, take}
use Rattle.std.specs.Io.KnownBytes.{Consumes}
use Rattle.instants_guess.proofs.sample.read_sample.Given as goal

-- what was read stands at the start of the buffer
abbrev pub invariant-loop-filled : goal.invariant-loop-filled
invariant-loop-filled g l = record {
  within : l.filled ≤ length l.fn.buffer;
  size : length l.buffer ≡ length l.fn.buffer;
  read : Consumes (g.R.ByteReader.left l.fn.reader) (g.R.ByteReader.left l.reader) (take l.filled l.buffer);
  works : g.R.ByteReader.failed l.reader ≡ false;
}

abbrev pub decreases-loop-filled : goal.decreases-loop-filled
decreases-loop-filled g l = g.R.ByteReader.reads_left l.reader
