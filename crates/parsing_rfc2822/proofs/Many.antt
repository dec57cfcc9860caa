-- Taking as many prefixes as there are.
use Rattle.std.specs.List.{prefix_len}
use Rattle.std.proofs.lemmas.List.Sums.{prefix_len-le-length}
use Rattle.std.proofs.Common.{Bool, ◌≡◌, ◌≤◌, ◌<◌, ◌∙◌, ℕ, zero, suc, ◌⊎◌, inl, inr, List, [], ◌∷◌, length, Option, Some, None, refl, sym, ap, arith, length-append}
use Rattle.parsing_combinator.specs.Tame.{EndsWith}
use Rattle.parsing_combinator.proofs.lemmas.Tame.{whole_end}
use Rattle.parsing_rfc2822.specs.Skips.{Skip, more_or, up_to, many}
use Rattle.parsing_rfc2822.proofs.lemmas.Ends.{IsEnding}

end_of : (p : Skip) (bytes rest : List ℕ) → IsEnding p → p bytes ≡ Some rest → EndsWith bytes rest
end_of p bytes rest s e = rw e at (s bytes bytes (whole_end bytes))

fewer : (bytes rest : List ℕ) → EndsWith bytes rest → (length rest < length bytes) ⊎ (bytes ≡ rest)
fewer bytes rest ([], e) = inr e
fewer bytes rest (c ∷ prefix, e) = inl (omega (arith, ap length e, length-append (c ∷ prefix) rest))

-- a prefix without a byte is all that there is
stays : (n : ℕ) (p : Skip) (bytes : List ℕ) → p bytes ≡ Some bytes → up_to n p bytes ≡ bytes
unfolding up_to
stays zero p bytes e = refl
stays (suc n) p bytes e = rw e (stays n p bytes e)

pub at_none : (n : ℕ) (p : Skip) (bytes : List ℕ) → p bytes ≡ None → up_to n p bytes ≡ bytes
unfolding up_to
at_none zero p bytes e = refl
at_none (suc n) p bytes e = rw e refl

-- where no byte is left none is taken
at_end : (n : ℕ) (p : Skip) (o : Option (List ℕ)) → IsEnding p → p [] ≡ o → up_to n p [] ≡ []
at_end n p None s e = at_none n p [] e
at_end n p (Some rest) s e = elim (fewer [] rest (end_of p [] rest s e)) [ inl less ↦ absurd (omega arith) | inr same ↦ stays n p [] (rw (← same) at e) ]

-- no more than there are bytes
same_after : (n m : ℕ) (p : Skip) (bytes : List ℕ) (o : Option (List ℕ)) → IsEnding p → p bytes ≡ o → ((rest : List ℕ) → length rest < length bytes → up_to n p rest ≡ up_to m p rest) → more_or o (up_to n p) bytes ≡ more_or o (up_to m p) bytes
same_after n m p bytes None s e h = refl
same_after n m p bytes (Some rest) s e h = elim (fewer bytes rest (end_of p bytes rest s e)) [
  | inl less ↦ h rest less
  | inr same ↦ let all : p rest ≡ Some rest = rw same at e in stays n p rest all ∙ sym (stays m p rest all)
]

same_up_to : (n m : ℕ) (p : Skip) (bytes : List ℕ) → IsEnding p → length bytes ≤ n → length bytes ≤ m → up_to n p bytes ≡ up_to m p bytes
unfolding up_to
same_up_to zero m p [] s a b = sym (at_end m p (p []) s refl)
same_up_to (suc n) zero p [] s a b = at_end (suc n) p (p []) s refl
same_up_to (suc n) (suc m) p bytes s a b = same_after n m p bytes (p bytes) s refl (λ rest less. same_up_to n m p rest s (omega arith) (omega arith))
same_up_to n m p bytes s a b = absurd (omega arith)

pub many_step : (p : Skip) (bytes rest : List ℕ) → IsEnding p → p bytes ≡ Some rest → many p bytes ≡ many p rest
unfolding many up_to
many_step p bytes rest s e =
    let one : up_to (suc (length bytes)) p bytes ≡ up_to (length bytes) p rest = rw e refl in
    let few : length rest ≤ length bytes = elim (fewer bytes rest (end_of p bytes rest s e)) [ inl less ↦ omega arith | inr same ↦ omega (arith, ap length same) ] in
    same_up_to (length bytes) (suc (length bytes)) p bytes s (omega arith) (omega arith) ∙ one ∙ same_up_to (length bytes) (length rest) p rest s few (omega arith)

pub many_end : (p : Skip) (bytes : List ℕ) → p bytes ≡ None → many p bytes ≡ bytes
unfolding many
many_end p bytes e = at_none (length bytes) p bytes e

pub count_within : (p : ℕ → Bool) (bytes : List ℕ) → prefix_len p bytes ≤ length bytes
count_within p bytes = prefix_len-le-length p bytes
