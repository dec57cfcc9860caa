-- A tree has no more nodes than its text has bytes, and one; in version 3 it reserves no more bytes than its text has.
use Rattle.std.proofs.Common.{ℕ, ◌+◌, ◌≤◌, List, [], ◌∷◌, ◌++◌, length, Bool, true, false, ap, arith, ◌≡◌, cond, inl, inr, ◌⊎◌}
use Rattle.std.proofs.lemmas.List.{length-append}
use Rattle.base.specs.Bytes.{right_bracket}
use Rattle.description_items.specs.Tree.{Tree, Literal, Part, Compound, Optional, First, Trees, none, also}
use Rattle.description_lexer.specs.declared.version.DescriptionVersion.{DescriptionVersion}
use Rattle.description_grammar.specs.Heads.{SpellsNesting, SpellsLiteral, SpellsEscape}
use Rattle.description_grammar.specs.Spelling.{SpellsItems, SpellsItem, SpellsNested, SpellsAlternatives, SpellsTree}
use Rattle.description.specs.Laws.{nodes, all_nodes}
use Rattle.description_grammar.proofs.TextsSound.{text_some}
use Rattle.std.proofs.Math.Nat.{max-le}
use Rattle.description_lexer.specs.declared.version.DescriptionVersion.TheVariants.{Three}
use Rattle.description_tree.specs.Reserved.{reserved, reserved_in_turn, greatest_reserved}
use Rattle.description.proofs.Widths.{component_width}

-- an opening and a closing bracket leave room for a node
nesting_room : (v : DescriptionVersion) (name own : List ℕ) (Inside : List ℕ → Type 0) (h : SpellsNesting v name own Inside) → 1 + length h.inside ≤ length own
nesting_room v name own Inside h = omega (arith, ap (length {A = ℕ}) h.parts, length-append h.opening (h.inside ++ right_bracket ∷ []), length-append h.inside (right_bracket ∷ []))

mutual
  unfolding nodes

  items_nodes : (v : DescriptionVersion) (inner : Bool) (levels : ℕ) (text : List ℕ) (ts : Trees) → SpellsItems v inner levels text ts → all_nodes ts ≤ length text
  items_nodes v inner levels text none h = omega arith
  items_nodes v inner levels text (also t ts) (own, more, parts, one, others) =
      omega (arith, item_nodes v inner levels own more t one, items_nodes v inner levels more ts others, ap (length {A = ℕ}) parts, length-append own more)

  item_nodes : (v : DescriptionVersion) (inner : Bool) (levels : ℕ) (own more : List ℕ) (t : Tree) → SpellsItem v inner levels own more t → nodes t ≤ length own
  item_nodes v inner levels own more (Literal bytes) h = omega (arith, text_some v inner own more bytes h)
  item_nodes v inner levels own more (Part c) h = omega (arith, ap (length {A = ℕ}) h.parts, length-append h.head (right_bracket ∷ []))
  item_nodes v inner levels own more (Optional format t) (three, written, h) =
      omega (arith, nesting_room v _ own _ h, nested_nodes v levels h.inside t h.is_inside)
  item_nodes v inner levels own more (First ts) (three, h) =
      omega (arith, nesting_room v _ own _ h, alternatives_nodes v levels h.inside ts h.is_inside.1)
  item_nodes v inner levels own more (Compound ts) h = absurd h

  nested_nodes : (v : DescriptionVersion) (levels : ℕ) (own : List ℕ) (t : Tree) → SpellsNested v levels own t → nodes t ≤ length own
  nested_nodes v levels own (Compound ts) (fewer, text, blank, e, parts, spaces, items) =
      omega (arith, items_nodes v true fewer text ts items, ap (length {A = ℕ}) parts, length-append text (right_bracket ∷ blank))
  nested_nodes v levels own (Literal bytes) h = absurd h
  nested_nodes v levels own (Part c) h = absurd h
  nested_nodes v levels own (Optional f t) h = absurd h
  nested_nodes v levels own (First ts) h = absurd h

  alternatives_nodes : (v : DescriptionVersion) (levels : ℕ) (own : List ℕ) (ts : Trees) → SpellsAlternatives v levels own ts → all_nodes ts ≤ length own
  alternatives_nodes v levels own none h = omega arith
  alternatives_nodes v levels own (also t ts) (nested, others, parts, one, more) =
      omega (arith, nested_nodes v levels nested t one, alternatives_nodes v levels others ts more, ap (length {A = ℕ}) parts, length-append nested others)

pub tree_nodes : (v : DescriptionVersion) (text : List ℕ) (t : Tree) → SpellsTree v text t → nodes t ≤ length text + 1
unfolding nodes
tree_nodes v text (Compound ts) h = omega (arith, items_nodes v false 127 text ts h)
tree_nodes v text (Literal bytes) h = absurd h
tree_nodes v text (Part c) h = absurd h
tree_nodes v text (Optional f t) h = absurd h
tree_nodes v text (First ts) h = absurd h

literal_room : (inner : Bool) (own more bytes : List ℕ) → ((own ≡ bytes) × SpellsLiteral Three inner bytes more) ⊎ SpellsEscape Three own bytes → length bytes ≤ length own
literal_room inner own more bytes (inl h) = omega (arith, ap (length {A = ℕ}) h.0)
literal_room inner own more bytes (inr h) = omega (arith, ap (length {A = ℕ}) h.2, ap (length {A = ℕ}) h.3)

written_room : (format : Bool) (n m k : ℕ) → n ≤ m → m ≤ k → cond format n 0 ≤ k
written_room true n m k h l = omega (arith, h, l)
written_room false n m k h l = omega arith

mutual
  items_room : (inner : Bool) (levels : ℕ) (text : List ℕ) (ts : Trees) → SpellsItems Three inner levels text ts → reserved_in_turn ts ≤ length text
  items_room inner levels text none h = omega arith
  items_room inner levels text (also t ts) (own, more, parts, one, others) =
      omega (arith, item_room inner levels own more t one, items_room inner levels more ts others, ap (length {A = ℕ}) parts, length-append own more)

  item_room : (inner : Bool) (levels : ℕ) (own more : List ℕ) (t : Tree) → SpellsItem Three inner levels own more t → reserved t ≤ length own
  item_room inner levels own more (Literal bytes) h = literal_room inner own more bytes h
  item_room inner levels own more (Part c) h = component_width own c h
  item_room inner levels own more (Optional format t) (three, written, h) = written_room format (reserved t) (length h.inside) (length own) (nested_room levels h.inside t h.is_inside) (omega (arith, nesting_room Three _ own _ h))
  item_room inner levels own more (First ts) (three, h) = omega (arith, nesting_room Three _ own _ h, alternatives_room levels h.inside ts h.is_inside.1)
  item_room inner levels own more (Compound ts) h = absurd h

  nested_room : (levels : ℕ) (own : List ℕ) (t : Tree) → SpellsNested Three levels own t → reserved t ≤ length own
  nested_room levels own (Compound ts) (fewer, text, blank, e, parts, spaces, items) =
      omega (arith, items_room true fewer text ts items, ap (length {A = ℕ}) parts, length-append text (right_bracket ∷ blank))
  nested_room levels own (Literal bytes) h = absurd h
  nested_room levels own (Part c) h = absurd h
  nested_room levels own (Optional f t) h = absurd h
  nested_room levels own (First ts) h = absurd h

  alternatives_room : (levels : ℕ) (own : List ℕ) (ts : Trees) → SpellsAlternatives Three levels own ts → greatest_reserved ts ≤ length own
  alternatives_room levels own none h = omega arith
  alternatives_room levels own (also t ts) (nested, others, parts, one, more) =
      let len = length-append nested others in
      let all = ap (length {A = ℕ}) parts in
      max-le (omega (arith, nested_room levels nested t one, all, len)) (omega (arith, alternatives_room levels others ts more, all, len))

pub tree_room : (text : List ℕ) (t : Tree) → SpellsTree Three text t → reserved t ≤ length text
tree_room text (Compound ts) h = items_room false 127 text ts h
tree_room text (Literal bytes) h = absurd h
tree_room text (Part c) h = absurd h
tree_room text (Optional f t) h = absurd h
tree_room text (First ts) h = absurd h
