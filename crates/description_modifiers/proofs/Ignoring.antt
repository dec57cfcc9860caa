-- A number of bytes that is there is the one that its count makes.
use Rattle.std.proofs.Common.{◌≡◌, ℕ, zero, suc, ◌<◌, Some, ap, arith}
use Rattle.std.proofs.Math.Bridge.{le_prop}
use Rattle.description_modifiers.specs.declared.ignore.Ignore.{Ignore}
use Rattle.description_modifiers.specs.Ignored.{ignored}

pub ignored_is : (x : Ignore) → Some x ≡ ignored x.count
ignored_is x = of_count x.count x.some
  where
    made : (n : ℕ) → 0 < n → Ignore
    made n some = record { count = n; some = some }

    of_count : (n : ℕ) (some : 0 < n) → Some (record { count = n; some = some }) ≡ ignored n
    of_count zero some = absurd (omega arith)
    of_count (suc n) some = ap (λ (h : 0 < suc n). Some (made (suc n) h)) (le_prop some _)
