use Rattle.std.proofs.Common.{◌≡◌, leb, false, get_or, ◌∙◌, ap}
use Rattle.std.proofs.lemmas.List.{get_or-replicate}
use Rattle.instants_found.specs.Ranges.{above}
use Rattle.instants_edges.proofs.Lanes.{bits_passing}
use Rattle.instants_found.proofs.LaneLemmas.{compared}
use Rattle.instants_found.proofs.lanes.bits_within.Goals as goal

pub returns : goal.returns
returns c = λ k lt none.
    let v = c.all_above.result in
    let low = c.args.range.now.low in
    let span = c.args.range.now.span in
    let outside : leb (get_or v k 0) span.byte ≡ false = bits_passing (λ x. leb x span.byte) v c.all_above.ensures.long _ (compared leb v span.lanes span.byte span.spread c.all_above.ensures.long) k lt none in
    let least : get_or low.lanes k 0 ≡ low.byte = ap (λ xs. get_or xs k 0) low.spread ∙ get_or-replicate 16 k low.byte 0 lt in
    let far : get_or v k 0 ≡ above (get_or c.args.bytes k 0) low.byte = c.all_above.ensures.above k lt ∙ ap (above (get_or c.args.bytes k 0)) least in
    rw far at outside
