-- What a read and a write do to the bytes that a device has, where it tells them.
use Rattle.std.specs.Prelude.{◌≡◌, ℕ, Option, None, Some, List, ◌++◌, ⊤}

-- known bytes stay as they were, or are known no longer
abbrev pub StaysOrUnknown : Option (List ℕ) → Option (List ℕ) → Type 0
StaysOrUnknown None new = ⊤
StaysOrUnknown (Some xs) None = ⊤
StaysOrUnknown (Some xs) (Some ys) = ys ≡ xs

-- known bytes begin with these and lose them; what is left after them may be known no longer
abbrev pub ConsumesOrUnknown : Option (List ℕ) → Option (List ℕ) → List ℕ → Type 0
ConsumesOrUnknown None new bytes = ⊤
ConsumesOrUnknown (Some xs) None bytes = (rest : List ℕ) × (xs ≡ bytes ++ rest)
ConsumesOrUnknown (Some xs) (Some ys) bytes = xs ≡ bytes ++ ys

-- known bytes grow by a prefix of these, or are known no longer
abbrev pub AppendsPrefix : Option (List ℕ) → Option (List ℕ) → List ℕ → Type 0
AppendsPrefix None new bytes = ⊤
AppendsPrefix (Some xs) None bytes = ⊤
AppendsPrefix (Some xs) (Some ys) bytes = (prefix : List ℕ) × (rest : List ℕ) × (bytes ≡ prefix ++ rest) × (ys ≡ xs ++ prefix)
