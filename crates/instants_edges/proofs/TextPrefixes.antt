-- The texts of dates are prefixes of the bytes.
use Rattle.std.proofs.Common.{◌≡◌, ℕ, suc, ◌≤◌, List, [], ◌∷◌, length, take, min, Option, Some, None, refl, sym, ap, arith}
use Rattle.std.specs.Option.{option_map_or}
use Rattle.std.proofs.lemmas.List.{take_min}
use Rattle.instants_edges.specs.Text.{up_to_end, iso_end, iso_text, mail_end, mail_text}

-- bytes are a prefix of others
abbrev pub IsPrefix : List ℕ → List ℕ → Type 0
IsPrefix text bytes = (n : ℕ) × (n ≤ length bytes) × (text ≡ take n bytes)

is_prefix : (ends : ℕ → ℕ → List ℕ → Option ℕ) (before : ℕ) (bytes : List ℕ) → IsPrefix (up_to_end ends before bytes) bytes
unfolding up_to_end
is_prefix ends before [] = (0, omega arith, refl)
is_prefix ends before (byte ∷ after) =
    elim (ends before byte after) as (λ o. IsPrefix (option_map_or (λ long. take long (byte ∷ after)) o (byte ∷ up_to_end ends byte after)) (byte ∷ after)) [
      | None ↦ let (n, within, is) = is_prefix ends byte after in (suc n, omega (arith, within), ap (λ (others : List ℕ). byte ∷ others) is)
      | Some long ↦ (min long (length (byte ∷ after)), omega arith, sym (take_min long (byte ∷ after)))
    ]

pub iso_is_prefix : (bytes : List ℕ) → IsPrefix (iso_text bytes) bytes
iso_is_prefix bytes = is_prefix iso_end 0 bytes

pub mail_is_prefix : (before : ℕ) (bytes : List ℕ) → IsPrefix (mail_text before bytes) bytes
mail_is_prefix before bytes = is_prefix mail_end before bytes
