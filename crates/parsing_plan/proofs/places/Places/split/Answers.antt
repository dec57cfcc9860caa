use Rattle.std.proofs.Common.{◌≡◌, ◌∙◌, sym, arith}
use Rattle.parsing_item_parts.specs.Items.{parts_kept}
use Rattle.parsing_plan.specs.declared.places.Back.{Back}
use Rattle.parsing_plan.proofs.SplitLemmas.{split_there}
use Rattle.parsing_plan.proofs.places.Places.split.Goals as goal

pub invariant_of-result-clause-split : goal.invariant_of-result-clause-split
invariant_of-result-clause-split c = λ b is.
    let front = c.in_ok-front in
    let last = c.in_ok-last in
    let back : Back = record { count = c.args.count; last = last.last } in
    let same : back ≡ b = cc in
    rw (← same) (split_there front.front c.args.count last.last c.say-has_offset.result c.as_slice-list.result.now (parts_kept c.args.parts) _ c.as_slice-list.ensures (omega (arith, c.if-count-list.false)) c.in-OpenFraction.is front.ensures.offset front.ensures.tail (sym c.is_some.ensures ∙ c.if-is_some.false) front.ensures.fits last.ensures.fits last.ensures.length last.ensures.apart last.ensures.clock last.ensures.offset)
