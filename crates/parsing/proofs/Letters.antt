-- Two texts of strftime.
use Rattle.std.proofs.Common.{ℕ, List, [], ◌++◌, sym, subst, inl, inr, ◌⊎◌}
use Rattle.description_items.specs.Tree.{Tree}
use Rattle.description_strftime.specs.Text.{joined}
use Rattle.description_strftime.specs.Spelled.{SpellsPrefix, SpellsStrftime}
use Rattle.description_strftime.specs.Joined.{EndsInLiteral, BeginsWithLiteral, Joins}
use Rattle.description_strftime.proofs.Parts.{joined_append}
use Rattle.description_strftime.proofs.Joins.{ends_or_closed, begins_or_stops, prefix_longer, prefix_joins}
use Rattle.parsing_components.specs.Component.{reads_component}
use Rattle.parsing.specs.Joined.{by_items, IsReadInTurn}
use Rattle.parsing.proofs.ItemLemmas.{spelled_apart, spelled_as_one}

-- what is known of the items of two texts
abbrev pub AllJoin : Type 0
AllJoin = (s t : List ℕ) (a b : List Tree) → SpellsStrftime s a → SpellsStrftime t b → Joins s t a b

-- the one ends and the other begins with a literal, or all items stay as they are
one_or_apart : (s t : List ℕ) (a b : List Tree) → SpellsStrftime s a → SpellsStrftime t b → (EndsInLiteral s a × BeginsWithLiteral t b) ⊎ SpellsStrftime (s ++ t) (a ++ b)
one_or_apart s t a b h k =
    elim (ends_or_closed s h.parts h.prefix) [
      | inr closed ↦ inr (both (closed t))
      | inl e ↦ elim (begins_or_stops t k.parts k.prefix) [
        | inr stops ↦ inr (both (prefix_longer s h.parts [] t h.prefix (inr stops)))
        | inl f ↦ inl (subst (EndsInLiteral s) (sym h.all) e, subst (BeginsWithLiteral t) (sym k.all) f)
      ]
    ]
  where
    both : SpellsPrefix (s ++ t) h.parts t → SpellsStrftime (s ++ t) (a ++ b)
    both prefix = record { parts = h.parts ++ k.parts; prefix = prefix_joins (s ++ t) h.parts t k.parts [] prefix k.prefix; all = rw (h.all, k.all) (sym (joined_append h.parts k.parts)) }

pub letters_in_turn : AllJoin → (s t : List ℕ) (a b : List Tree) → SpellsStrftime s a → SpellsStrftime t b → IsReadInTurn (SpellsStrftime (s ++ t)) by_items a b
letters_in_turn join s t a b h k = by_case (one_or_apart s t a b h k)
  where
    by_case : ((EndsInLiteral s a × BeginsWithLiteral t b) ⊎ SpellsStrftime (s ++ t) (a ++ b)) → IsReadInTurn (SpellsStrftime (s ++ t)) by_items a b
    by_case (inr apart) = spelled_apart reads_component (SpellsStrftime (s ++ t)) a b apart
    by_case (inl (e, f)) = spelled_as_one reads_component (SpellsStrftime (s ++ t)) a b (joined e.before) e.own f.own (joined f.after) e.means f.means ((join s t a b h k).as_one e f)
