use Rattle.std.proofs.Common.{◌<◌, ◌∙◌, [], ◌∷◌, length, take, refl, sym, arith, append_assoc}
use Rattle.std.proofs.lemmas.List.{append-nil, length-set, take_more_set, nil_from_length}
use Rattle.parsing_layout.proofs.TestLemmas.{same}
use Rattle.parsing_strides.proofs.strides.Strides.of_items.Goals as goal

pub loop-count-init : goal.loop-count-init
loop-count-init c = (refl, λ later made. made)

pub loop-count-preserved : goal.loop-count-preserved
loop-count-preserved c =
    let steps = c.loop-count.steps in
    let at = c.loop-count.count in
    let step = c.in_ok-step.step in
    let long = c.loop-count.invariant.0 in
    let fits = c.in_ok-step.ensures in
    let room : at < length steps = omega (arith, long, c.loop-count-test.true, c.if-count-eq-MOST.false) in (
      length-set steps at step ∙ long,
      λ later made.
          rw (take_more_set steps at step room, append_assoc (take at steps) (step ∷ []) later)
          (c.loop-count.invariant.1 (step ∷ later) (fits.0, fits.1, rw (c.split_at.ensures.back, c.count.ensures) at made)),
    )

pub returns-then-is_empty : goal.returns-then-is_empty
returns-then-is_empty c =
    let none = nil_from_length c.loop-count.rest.now (same _ 0 (sym c.is_empty.ensures ∙ c.if-is_empty.true)) in
    rw (append-nil (take c.loop-count.count c.loop-count.steps)) at (c.loop-count.invariant.1 [] none)
