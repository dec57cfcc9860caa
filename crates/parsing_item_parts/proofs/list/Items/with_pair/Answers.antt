use Rattle.std.proofs.Common.{◌≡◌, ◌∙◌, ◌∷◌, [], List, true, length, get_or, map, refl, ap, arith}
use Rattle.description_items.specs.Tree.{Tree, Compound, Literal, Optional, listed}
use Rattle.description_items.specs.Tree as tree
use Rattle.parsing_components.specs.Reads.{reading}
use Rattle.parsing_item_parts.specs.Items.{IsItem}
use Rattle.parsing_item_parts.proofs.ComponentLemmas.{component_read, component_read_v3}
use Rattle.parsing_item_parts.proofs.ItemLemmas.{node_added}
use Rattle.parsing_item_parts.proofs.OptionalLemmas.{pair_item}
use Rattle.parsing_layout.specs.declared.items.Item.TheVariants as item
use Rattle.parsing_item_parts.proofs.list.Items.with_pair.Goals as goal

two_trees : {X : Type 0} (t : X → Tree) (xs : List X) (a b : X) → length xs ≡ 2 → a ≡ get_or xs 0 a → b ≡ get_or xs 1 b
    → map t xs ≡ t a ∷ t b ∷ []
two_trees t [] a b two p q = absurd (omega (arith, two))
two_trees t (x ∷ []) a b two p q = absurd (omega (arith, two))
two_trees t (x ∷ y ∷ []) a b two p q = rw (p, q) refl
two_trees t (x ∷ y ∷ z ∷ zs) a b two p q = absurd (omega (arith, two))

pub returns : goal.returns
returns g c =
    let a = c.index-nodes-0.result in
    let b = c.index-nodes-1.result in
    let byte = c.in_ok-byte.byte in
    let p = c.in_ok-part.part in
    let one = c.in_ok-part.ensures in
    let trees : map g.N.Node.tree c.args.nodes.now ≡ Literal (byte ∷ []) ∷ tree.Part one.component ∷ [] =
    two_trees g.N.Node.tree c.args.nodes.now a b c.if-nodes-ne2.false c.index-nodes-0.is c.index-nodes-1.is
    ∙ ap (λ t. t ∷ g.N.Node.tree b ∷ []) c.in_ok-byte.ensures ∙ ap (λ t. Literal (byte ∷ []) ∷ t ∷ []) one.tree_is in
    let read : IsItem (reading g.N.Node.language (tree.Part one.component)) (p ∷ []) =
    g.N.Node.is_either (λ l. IsItem (reading l (tree.Part one.component)) (p ∷ []))
    (component_read one.component (p ∷ []) one.part_is) (component_read_v3 one.component (p ∷ []) one.part_is) in
    rw trees
    (node_added g.N.Node.language (Optional true (Compound (listed (Literal (byte ∷ []) ∷ tree.Part one.component ∷ [])))) (item.Optional byte p ∷ []) c.args.self c.with.result
    (pair_item g.N.Node.language byte (tree.Part one.component) p read) c.with.ensures)
