-- Prefixes of bytes that may be a date.
use Rattle.std.proofs.Common.{◌≡◌, ℕ, ◌+◌, ◌<◌, ◌≤◌, List, [], ◌∷◌, ◌++◌, length, take, drop, get_or, Option, Some, None, refl, sym, ◌∙◌, arith}
use Rattle.std.proofs.Math.Seq.{take-add}
use Rattle.std.proofs.lemmas.Bool.Decides.{nat_tests}
use Rattle.std.proofs.lemmas.List.{append-nil, append_assoc, drop_more, drop_all, take_all, take_more}
use Rattle.instants_edges.specs.Edge.{byte_before}
use Rattle.instants_edges.specs.Text.{up_to_end}

module _ (ends : ℕ → ℕ → List ℕ → Option ℕ) (bytes : List ℕ) where
  -- what comes before a place ends nothing
  abbrev pub GoesOn : ℕ → Type 0
  GoesOn place = up_to_end ends 0 bytes ≡ take place bytes ++ up_to_end ends (byte_before bytes place 1) (drop place bytes)

  next_before : (place : ℕ) → byte_before bytes (place + 1) 1 ≡ get_or bytes place 0
  next_before place = grind (arith, nat_tests)

  -- .. so one more byte is there
  pub goes_further : (place : ℕ) → place < length bytes → GoesOn place → ends (byte_before bytes place 1) (get_or bytes place 0) (drop (place + 1) bytes) ≡ None → GoesOn (place + 1)
  unfolding up_to_end
  goes_further place within so_far e =
      rw (next_before place, take_more bytes place 0 within, append_assoc (take place bytes) (get_or bytes place 0 ∷ []) (up_to_end ends (get_or bytes place 0) (drop (place + 1) bytes)))
      (so_far ∙ rw (drop_more bytes place 0 within, e) refl)

  -- .. or it ends
  pub ends_here : (place long : ℕ) → GoesOn place → place < length bytes → ends (byte_before bytes place 1) (get_or bytes place 0) (drop (place + 1) bytes) ≡ Some long → take (place + long) bytes ≡ up_to_end ends 0 bytes
  unfolding up_to_end
  ends_here place long so_far within e = take-add place long bytes ∙ sym (so_far ∙ rw (drop_more bytes place 0 within, e) refl)

  pub ends_nowhere : (place : ℕ) → length bytes ≤ place → GoesOn place → bytes ≡ up_to_end ends 0 bytes
  unfolding up_to_end
  ends_nowhere place past so_far = sym (so_far ∙ rw (drop_all place bytes past, append-nil (take place bytes)) (take_all place bytes past))
