-- A text that is written into a place of its own first.
use Rattle.std.proofs.Common.{◌≡◌, ℕ, List, [], ◌∷◌, ◌++◌, ap, sym, subst, ◌∙◌, append-nil, append_assoc}
use Rattle.std.specs.Prelude.{Option, None, Some, option_map, IfSome}
use Rattle.std.specs.List.{FoldsTo, concat}
use Rattle.std.specs.Fmt.{WritesText}
use Rattle.std.specs.Fmt.InlineText.{inline_text, IsIntact, AppendsIfIntact}
use Rattle.std.specs.declared.fmt.InlineText.{InlineText}

module _ {n : ℕ} where
  -- several writes append what they wrote together
  after_calls : (s : InlineText n) (parts : List (List ℕ)) (t : InlineText n) → FoldsTo AppendsIfIntact s parts t → AppendsIfIntact s (concat parts) t
  after_calls s [] t same intact = (subst IsIntact same intact, ap inline_text (sym same) ∙ sym (append-nil (inline_text s)))
  after_calls s (x ∷ parts) t calls intact =
      let first = calls.1 intact in
      let rest = after_calls calls.0 parts t calls.2 first.0 in
      (rest.0, rest.1 ∙ ap (λ l. l ++ concat parts) first.1 ∙ append_assoc (inline_text s) x (concat parts))

  -- written into an empty place, a text is what the place shows
  pub is_written : (o : Option (List ℕ)) (s t : InlineText n) → IsIntact s → inline_text s ≡ [] → WritesText AppendsIfIntact s o t → IfSome o (λ bs. inline_text t ≡ bs)
  is_written None s t intact empty wrote = wrote
  is_written (Some bs) s t intact empty wrote =
      (after_calls s wrote.parts t wrote.calls intact).1 ∙ ap (λ l. l ++ concat wrote.parts) empty ∙ wrote.whole

-- what holds of a text that is shown
pub if_shown : (o : Option (List ℕ)) (shown : List ℕ) (P : List ℕ → Type 0) → IfSome o (λ bs. shown ≡ bs) → P shown → IfSome o P
if_shown None shown P same p = same
if_shown (Some bs) shown P same p = subst P same p

-- and of what is made of it
pub if_shown_so : (f : List ℕ → List ℕ) (o : Option (List ℕ)) (shown : List ℕ) (P : List ℕ → Type 0) → IfSome o (λ bs. shown ≡ bs) → P (f shown) → IfSome (option_map f o) P
if_shown_so f None shown P same p = same
if_shown_so f (Some bs) shown P same p = subst P (ap f same) p
