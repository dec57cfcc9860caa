use Rattle.std.proofs.Common.{◌≡◌, arith, rules, ◌∙◌, refl, Some}
use Rattle.std.proofs.lemmas.Grind.{common_steps}
use Rattle.zones_file.specs.Table.{steps_in}
use Rattle.zones_file.specs.Faults.{step_fault}
use Rattle.zones_file.proofs.TableLemmas.{tells_fault, first_faulted, first_passed, next_fault, steps_next, comes_after}
use Rattle.zones_file.proofs.table.read_table.Goals as goal

pub returns-in_err-first-clause-fault : goal.returns-in_err-first-clause-fault
returns-in_err-first-clause-fault c = tells_fault _ c.in_err-first.field-0.0 _ (search rules) (first_faulted _ _ _ (search rules))

pub loop-index-init : goal.loop-index-init
unfolding steps_in
loop-index-init c =
    let f = first_passed c.args.bytes.now c.args.layout (search rules) in
    grind (arith, common_steps)

pub returns-in_err-step-clause-fault : goal.returns-in_err-step-clause-fault
returns-in_err-step-clause-fault c =
    let here : step_fault c.args.bytes.now c.args.layout c.loop-index.index ≡ Some c.in_err-step.field-0.0 = search rules in
    tells_fault _ c.in_err-step.field-0.0 _ (search rules) (c.loop-index.invariant.faults ∙ next_fault _ _ _ c.loop-index-test.true ∙ rw here refl)

pub push-requires-clause-after : goal.push-requires-clause-after
push-requires-clause-after c = comes_after c.args.bytes.now c.args.layout c.loop-index.index _ _ c.loop-index.invariant.steps (search rules) c.in_ok-step.ensures.after

pub loop-index-preserved : goal.loop-index-preserved
loop-index-preserved c =
    let f = next_fault c.args.bytes.now c.args.layout c.loop-index.index c.loop-index-test.true in
    let s = steps_next c.args.bytes.now c.args.layout c.loop-index.index in
    grind (arith, common_steps)
