use Rattle.std.proofs.Common.{◌-◌, sym, refl, List, ℕ, length}
use Rattle.std.specs.Prelude.{IfOk}
use Rattle.parsing_item_layouts.specs.Forms.{IsFormed}
use Rattle.parsing_item_layouts.proofs.WalkLemmas.{literal_leads, part_leads, compound_leads, optional_leads, each_more, back_leads, all_lead}
use Rattle.parsing_item_layouts.proofs.walk.+walk.Goals as goal

pub put_node-returns-in-Literal : goal.put_node-returns-in-Literal
put_node-returns-in-Literal g t c =
    rw (sym c.in-Literal.ensures) (literal_leads g.F.Front.fits g.N.Node.language c.in-Literal.text.now c.args.front.now c.put_text.new.front c.put_text.ensures)

pub put_node-returns-in-Component : goal.put_node-returns-in-Component
put_node-returns-in-Component g t c =
    let component = c.in-Component.component in
    let form = c.form_of.result in
    let formed = g.N.Node.is_either (λ l. (line : List ℕ) → IfOk (l component line) (λ x. IsFormed form line x.1)) c.form_of.ensures.all.older c.form_of.ensures.all.newer in
    rw (sym c.in-Component.ensures) (part_leads g.F.Front.fits g.N.Node.language component form c.args.front.now c.put_form.new.front c.put_form.ensures formed)

pub put_node-returns-in-Compound : goal.put_node-returns-in-Compound
put_node-returns-in-Compound g t c =
    rw (sym c.in-Compound.ensures) (compound_leads g.F.Front.fits g.N.Node.language _ c.args.front.now c.put_nodes.new.front c.put_nodes.ensures)

pub put_node-returns-in-Optional : goal.put_node-returns-in-Optional
put_node-returns-in-Optional g t c =
    rw (sym c.in-Optional.ensures) (optional_leads g.F.Front.fits g.N.Node.language c.in-Optional.field-0 (g.N.Node.tree c.in-Optional.node.now) c.args.front.now c.put_node.new.front c.join.new.self c.put_node.ensures c.join.ensures.kept c.join.ensures.joined)

pub put_first-loop-node-preserved : goal.put_first-loop-node-preserved
put_first-loop-node-preserved g t c =
    each_more g.F.Front.fits g.N.Node.language g.N.Node.tree c.args.nodes.now c.loop-node.node-index c.node-item.result c.args.front.now c.loop-node.front c.put_node.new.front c.join.new.self c.loop-node-test.true c.node-item.is c.loop-node.invariant c.put_node.ensures c.join.ensures.kept c.join.ensures.joined

-- ---- nodes one after another, from the last one

pub put_nodes-loop-place-preserved : goal.put_nodes-loop-place-preserved
put_nodes-loop-place-preserved g t c =
    let nodes = c.args.nodes.now in
    let place = c.loop-place.place in
    back_leads g.F.Front.fits g.N.Node.language g.N.Node.tree nodes place (length nodes - 1 - place) c.index-nodes-nodes.result c.args.front.now c.loop-place.front c.put_node.new.front c.loop-place-test.true refl c.index-nodes-nodes.is c.loop-place.invariant c.put_node.ensures

pub put_nodes-returns : goal.put_nodes-returns
put_nodes-returns g t c = all_lead g.F.Front.fits g.N.Node.language g.N.Node.tree c.args.nodes.now c.loop-place.place c.args.front.now c.loop-place.front c.loop-place-test.false c.loop-place.invariant
