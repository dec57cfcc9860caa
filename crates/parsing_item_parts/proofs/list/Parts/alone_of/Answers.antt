use Rattle.std.proofs.Common.{◌≡◌, List, length, ap, sym, ◌∙◌}
use Rattle.parsing_layout.specs.Items.{all_certain}
use Rattle.parsing_layout.specs.declared.parts.Part.{Part}
use Rattle.parsing_item_parts.specs.Items.{parts_kept}
use Rattle.parsing_item_parts.proofs.ItemLemmas.{all_alone}
use Rattle.parsing_item_parts.proofs.list.Parts.alone_of.Goals as goal

pub returns : goal.returns
returns c =
    let items = c.args.items.now in
    let same : parts_kept c.in_ok-parts.parts ≡ all_certain items = c.in_ok-parts.ensures in
    let many : length (all_certain items) ≡ length items = ap (λ (ps : List Part). length ps) (sym same ∙ sym c.as_slice.ensures) ∙ c.if-as_slice-items.false in
    rw same (all_alone items many)
