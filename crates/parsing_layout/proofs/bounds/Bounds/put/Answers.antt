use Rattle.parsing_layout.proofs.BoundsLemmas.{admits_set}
use Rattle.parsing_layout.proofs.bounds.Bounds.put.Goals as goal

pub loop-place-init : goal.loop-place-init
loop-place-init c = λ whole line rest cut h.
    let any = c.any-bounds.ensures whole line in
    record { lowest = any.lowest; highest = any.highest; longest = λ w. c.longest_after-bounds.ensures line rest cut (h.longest w) }

pub loop-place-preserved : goal.loop-place-preserved
loop-place-preserved c = λ whole line rest cut h.
    let range = c.range_after-low in
    admits_set whole c.loop-place.bounds line c.loop-place.place range.result.0 range.result.1 (c.loop-place.invariant whole line rest cut h) (range.ensures.low whole line rest cut h) (range.ensures.high whole line rest cut h)
