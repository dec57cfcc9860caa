-- Being the same is an equivalence of trees.
use Rattle.std.specs.Prelude.{◌≡◌, true, ◌&&◌}
use Rattle.std.proofs.Common.{refl, ap, sym, ◌∙◌, true≢false}
use Rattle.std.specs.Cmp.{IsEquivalence, first_so, second_so, bool_eq_equiv}
use Rattle.std.proofs.Math.Bool.{beq}
use Rattle.std.proofs.lemmas.Cmp.{nat_list_eq_equiv}
use Rattle.description_items.specs.contracts.component.ComponentPartialEq.TheImpl as component
use Rattle.description_items.specs.contracts.component.ComponentEq.TheImpl.Laws as laws
use Rattle.description_items.specs.Tree.{Tree, Literal, Part, Compound, Optional, First, Trees, none, also}
use Rattle.description_items.specs.Same.{same_tree, same_trees}

components : IsEquivalence component.ghosts.eq
components = laws.laws-law

mutual
  unfolding same_tree

  itself : (t : Tree) → same_tree t t ≡ true
  itself (Literal a) = nat_list_eq_equiv.refl a
  itself (Part a) = components.refl a
  itself (Compound a) = all_themselves a
  itself (Optional x a) = ap (λ b. b && same_tree a a) (bool_eq_equiv.refl x) ∙ itself a
  itself (First a) = all_themselves a

  all_themselves : (ts : Trees) → same_trees ts ts ≡ true
  all_themselves none = refl
  all_themselves (also t ts) = ap (λ b. b && same_trees ts ts) (itself t) ∙ all_themselves ts

mutual
  unfolding same_tree

  symmetric : (s t : Tree) → same_tree s t ≡ same_tree t s
  symmetric (Literal a) (Literal b) = nat_list_eq_equiv.symm a b
  symmetric (Part a) (Part b) = components.symm a b
  symmetric (Compound a) (Compound b) = all_symmetric a b
  symmetric (Optional x a) (Optional y b) = ap (λ c. c && same_tree a b) (bool_eq_equiv.symm x y) ∙ ap (λ c. beq y x && c) (symmetric a b)
  symmetric (First a) (First b) = all_symmetric a b
  symmetric _ _ = refl

  all_symmetric : (ss ts : Trees) → same_trees ss ts ≡ same_trees ts ss
  all_symmetric none none = refl
  all_symmetric (also s ss) (also t ts) = ap (λ b. b && same_trees ss ts) (symmetric s t) ∙ ap (λ b. same_tree t s && b) (all_symmetric ss ts)
  all_symmetric _ _ = refl

mutual
  unfolding same_tree

  congruent : (s t u : Tree) → same_tree s t ≡ true → same_tree s u ≡ same_tree t u
  congruent (Literal a) (Literal b) (Literal c) e = nat_list_eq_equiv.congr a b c e
  congruent (Literal a) (Literal b) _ e = refl
  congruent (Part a) (Part b) (Part c) e = components.congr a b c e
  congruent (Part a) (Part b) _ e = refl
  congruent (Compound a) (Compound b) (Compound c) e = all_congruent a b c e
  congruent (Compound a) (Compound b) _ e = refl
  congruent (Optional x a) (Optional y b) (Optional z c) e =
      ap (λ d. d && same_tree a c) (bool_eq_equiv.congr x y z (first_so (beq x y) (same_tree a b) e))
      ∙ ap (λ d. beq y z && d) (congruent a b c (second_so (beq x y) (same_tree a b) e))
  congruent (Optional x a) (Optional y b) _ e = refl
  congruent (First a) (First b) (First c) e = all_congruent a b c e
  congruent (First a) (First b) _ e = refl
  congruent _ _ _ e = absurd (true≢false (sym e))

  all_congruent : (ss ts us : Trees) → same_trees ss ts ≡ true → same_trees ss us ≡ same_trees ts us
  all_congruent none none us e = refl
  all_congruent (also s ss) (also t ts) none e = refl
  all_congruent (also s ss) (also t ts) (also u us) e =
      ap (λ b. b && same_trees ss us) (congruent s t u (first_so (same_tree s t) (same_trees ss ts) e))
      ∙ ap (λ b. same_tree t u && b) (all_congruent ss ts us (second_so (same_tree s t) (same_trees ss ts) e))
  all_congruent _ _ _ e = absurd (true≢false (sym e))

pub same_equivalence : IsEquivalence same_tree
same_equivalence = record { refl = itself; symm = symmetric; congr = congruent }
