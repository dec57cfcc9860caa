-- Bytes that are passed over.
use Rattle.std.specs.Prelude.{ℕ, zero, suc, Option, Some, None}
use Rattle.std.proofs.Common.{arith}
use Rattle.description_modifiers.specs.declared.ignore.Ignore.{Ignore}

-- so many bytes, unless that is none
abbrev pub ignored : ℕ → Option Ignore
ignored zero = None
ignored (suc n) = Some (record { count = suc n; some = omega arith })
