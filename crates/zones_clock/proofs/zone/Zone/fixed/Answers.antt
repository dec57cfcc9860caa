use Rattle.std.proofs.Common.{◌≡◌, ℕ, zero, suc, false, get_or, replicate, refl}
use Rattle.zones_clock.proofs.zone.Zone.fixed.Goals as goal

none-marked : (count byte : ℕ) → get_or (replicate count false) byte false ≡ false
none-marked zero byte = refl
none-marked (suc count) zero = refl
none-marked (suc count) (suc byte) = none-marked count byte

pub invariant_of-result-clause-has_bytes : goal.invariant_of-result-clause-has_bytes
invariant_of-result-clause-has_bytes c = λ byte. simp (c.mark_bytes.ensures, none-marked, c.deref.ensures.value)
