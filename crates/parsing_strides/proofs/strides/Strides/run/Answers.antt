use Rattle.std.proofs.Common.{◌≡◌, ◌∷◌, ◌+◌, drop, get_or}
use Rattle.std.proofs.lemmas.List.{drop_more, drop_all}
use Rattle.parsing_strides.proofs.StepLemmas.{at_first, one_further, all_read}
use Rattle.parsing_strides.proofs.strides.Strides.run.Goals as goal

pub loop-step-init : goal.loop-step-init
loop-step-init c = at_first c.args.steps.now c.args.line.now c.args.found.now

pub loop-step-preserved : goal.loop-step-preserved
loop-step-preserved c =
    let steps = c.args.steps.now in
    let at = c.loop-step.step-index in
    let step = c.step-item.result in
    let read = c.in_ok-rest.ensures in
    let cut : drop at steps ≡ get_or steps at step ∷ drop (at + 1) steps = drop_more steps at step c.loop-step-test.true in
    let before = rw (cut, ← c.step-item.is) at c.loop-step.invariant in
    one_further steps (drop (at + 1) steps) step c.args.line.now c.loop-step.rest.now c.in_ok-rest.rest.now c.args.found.now c.loop-step.found c.read.new.found before read.says read.end

pub returns-clause-says : goal.returns-clause-says
returns-clause-says c = λ items made apart.
    let read = c.loop-step.invariant.read items made apart in
    all_read items c.args.line.now c.loop-step.rest.now c.args.found.now c.loop-step.found (rw (drop_all c.loop-step.step-index c.args.steps.now c.loop-step-test.false) at read)
