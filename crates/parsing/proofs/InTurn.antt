-- Two texts of versions 1, 2 and 3.
use Rattle.std.proofs.Common.{◌≡◌, ℕ, false, List, ◌++◌, sym, ap, subst, ◌∙◌, inl, inr}
use Rattle.description_items.specs.Tree.{Tree, Trees, Literal, Part, Compound, Optional, First}
use Rattle.description_lexer.specs.declared.version.DescriptionVersion.{DescriptionVersion}
use Rattle.description_lexer.specs.declared.version.DescriptionVersion.TheVariants.{Three}
use Rattle.description_grammar.specs.Spelling.{SpellsItems, Spells, SpellsTree}
use Rattle.description_grammar.specs.Outcomes.{joined}
use Rattle.description_grammar.proofs.ItemsComplete.{unlisted, listed_again}
use Rattle.description.specs.Laws.{Joins}
use Rattle.parsing_components.specs.Component.{reads_component_v3}
use Rattle.parsing_record.specs.Reads.{Language, reads}
use Rattle.parsing.specs.Joined.{by_tree, in_turn, IsReadInTurn}
use Rattle.parsing.proofs.ItemLemmas.{items_read, spelled_apart, spelled_as_one}

-- what is known of the items of two texts
abbrev pub AllJoin : Type 0
AllJoin = (version : DescriptionVersion) (s t : List ℕ) (ss ts : List Tree) → Spells version s ss → Spells version t ts → Joins version s t ss ts

joins_in_turn : (l : Language) (version : DescriptionVersion) (s t : List ℕ) (a b : List Tree) → Joins version s t a b → IsReadInTurn (Spells version (s ++ t)) (items_read l) a b
joins_in_turn l version s t a b (inl (apart, spelled)) = spelled_apart l (Spells version (s ++ t)) a b spelled
joins_in_turn l version s t a b (inr g) = spelled_as_one l (Spells version (s ++ t)) a b g.ends.items g.bytes g.more g.back g.ends.trees g.trees g.joined

pub items_in_turn : AllJoin → (l : Language) (version : DescriptionVersion) (s t : List ℕ) (a b : List Tree) → Spells version s a → Spells version t b → IsReadInTurn (Spells version (s ++ t)) (items_read l) a b
items_in_turn join l version s t a b h k = joins_in_turn l version s t a b (join version s t a b h k)

-- the items of a tree
items_of : (text : List ℕ) (tree : Tree) → SpellsTree Three text tree → (items : List Tree) × (tree ≡ joined items) × Spells Three text items
items_of text (Compound ts) h = (unlisted ts, sym (ap Compound (listed_again ts)), subst (λ (x : Trees). SpellsItems Three false 127 text x) (sym (listed_again ts)) h)
items_of text other h = absurd h

pub trees_in_turn : AllJoin → (s t : List ℕ) (a b : Tree) → SpellsTree Three s a → SpellsTree Three t b → IsReadInTurn (SpellsTree Three (s ++ t)) by_tree a b
unfolding reads
trees_in_turn join s t a b h k =
    let p = items_of s a h in
    let q = items_of t b k in
    let both = items_in_turn join reads_component_v3 Three s t p.0 q.0 p.2 q.2 in
    (joined both.0, both.1, λ r bytes. both.2 r bytes ∙ ap (λ (x : Tree). in_turn (by_tree x) (by_tree (joined q.0)) r bytes) (sym p.1) ∙ ap (λ (x : Tree). in_turn (by_tree a) (by_tree x) r bytes) (sym q.1))
