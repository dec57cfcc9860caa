-- One more item of an iterator, and one more duration of a sum.
use Rattle.std.proofs.Common.{arith, ◌≡◌, ◌∙◌, ap, ◌+◌, inl, inr, List, [], ◌∷◌, ◌++◌, length, Option, Some, refl, subst, sym, ℤ, pos, ◌+ℤ◌}
use Rattle.std.specs.Iterator.{Yields}
use Rattle.std.proofs.lemmas.Bool.{cases_lt}
use Rattle.std.proofs.lemmas.List.{take-append-le, take_all, length-append}
use Rattle.std.proofs.lemmas.List.Sums.{fold-append}
use Rattle.calendar_spans.specs.Duration.{IsDuration}
use Rattle.calendar_spans.specs.DurationSum.{total, HasPartialSums}

pub yields_more : {S A : Type 0} (steps : S → Option A → S → Type 0) (s : S) (xs : List A) (t : S) (x : A) (u : S) → Yields steps s xs t → steps t (Some x) u → Yields steps s (xs ++ x ∷ []) u
yields_more steps s [] t x u e step = (u, subst (λ v. steps v (Some x) u) (sym e) step, refl)
yields_more steps s (y ∷ ys) t x u run step = (run.0, run.1, yields_more steps run.0 ys t x u run.2 step)

pub total_more : (xs : List ℤ) (x sum : ℤ) → sum ≡ total xs → total (xs ++ x ∷ []) ≡ sum +ℤ x
total_more xs x sum is = fold-append ◌+ℤ◌ (pos 0) xs (x ∷ []) ∙ ap (λ s. s +ℤ x) (sym is)

pub partial_sums_more : (xs : List ℤ) (x : ℤ) → HasPartialSums xs → IsDuration (total (xs ++ x ∷ [])) → HasPartialSums (xs ++ x ∷ [])
partial_sums_more xs x within last n =
    elim (cases_lt n (length xs + 1)) [
      | inl less ↦ subst (λ ys. IsDuration (total ys)) (sym (take-append-le n xs (x ∷ []) (omega arith))) (within n)
      | inr all ↦
          let whole = take_all n (xs ++ x ∷ []) (omega (arith, length-append xs (x ∷ []))) in
          subst (λ ys. IsDuration (total ys)) (sym whole) last
    ]
