use Rattle.std.proofs.Common.{sym, map}
use Rattle.description_items.specs.Tree.{Literal}
use Rattle.description_items.specs.Tree as tree
use Rattle.parsing_components.specs.Reads.{reading}
use Rattle.parsing_layout.specs.declared.items.Item.TheVariants as item
use Rattle.parsing_item_parts.specs.Items.{IsItem, literal_items, sign_and}
use Rattle.parsing_item_parts.proofs.ComponentLemmas.{component_read, component_read_v3}
use Rattle.parsing_item_parts.proofs.ItemLemmas.{items_of_parts, node_added}
use Rattle.parsing_item_parts.proofs.OptionalLemmas.{any_format, literal_read}
use Rattle.parsing_item_parts.proofs.list.Items.with_node.Goals as goal

pub returns-in-Literal : goal.returns-in-Literal
returns-in-Literal g c =
    rw (sym c.in-Literal.ensures)
    (node_added g.N.Node.language (Literal c.in-Literal.text.now) (literal_items c.in-Literal.text.now) c.args.self c.with_text.result (literal_read g.N.Node.language c.in-Literal.text.now) c.with_text.ensures)

pub returns-in-Optional : goal.returns-in-Optional
returns-in-Optional g c =
    rw (sym c.in-Optional.ensures)
    (any_format g.N.Node.language c.in-Optional.field-0 (g.N.Node.tree c.in-Optional.node.now) c.with_optional.result c.args.self c.with_optional.ensures)

pub returns-in_ok-is_signed-in-Component : goal.returns-in_ok-is_signed-in-Component
returns-in_ok-is_signed-in-Component g c =
    let component = c.in-Component.component in
    let ps = sign_and c.in_ok-is_signed-in-Component.is_signed c.in_ok-is_signed-in-Component.part in
    let read : IsItem (reading g.N.Node.language (tree.Part component)) ps =
    g.N.Node.is_either (λ l. IsItem (reading l (tree.Part component)) ps)
    (component_read component ps c.in_ok-is_signed-in-Component.ensures) (component_read_v3 component ps c.in_ok-is_signed-in-Component.ensures) in
    rw (sym c.in-Component.ensures)
    (node_added g.N.Node.language (tree.Part component) (map item.Part ps) c.args.self c.with_signed.result (items_of_parts (reading g.N.Node.language (tree.Part component)) ps read) c.with_signed.ensures)
