use Rattle.std.proofs.Common.{◌≡◌, ◌||◌, ℕ, false, drop, length, get_or}
use Rattle.zones_clock.specs.Steps.{has_byte}
use Rattle.zones_clock.proofs.names.mark_bytes.Given as goal

-- with the letters that are left, the bytes of all are marked
abbrev pub invariant-loop-letter : goal.invariant-loop-letter
invariant-loop-letter l = record {
  size : length l.bytes ≡ 256;
  marked : (byte : ℕ) → (get_or l.bytes byte false || has_byte (drop l.letter-index l.letters) byte) ≡ (get_or l.initial.bytes byte false || has_byte l.letters byte);
}
