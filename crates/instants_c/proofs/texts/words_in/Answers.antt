use Rattle.std.proofs.Common.{◌∙◌, Some, Err, ap}
use Rattle.instants_faults.specs.declared.program_fault.ProgramFault.TheVariants as program
use Rattle.instants_c.proofs.Words.{told, same_fault, no_fault, accepted}
use Rattle.instants_c.proofs.texts.words_in.Goals as goal

pub returns-in-Some-clause-refused : goal.returns-in-Some-clause-refused
returns-in-Some-clause-refused c = λ other. told c.in-Ok.text.now c.args.words.now c.in-Some.fault c.in-Ok.ensures.cases.0 c.in-Some.ensures.some

pub returns-in-Some-clause-wrong : goal.returns-in-Some-clause-wrong
returns-in-Some-clause-wrong c = λ utf8 fault said.
    let same = same_fault c.args.words.now c.in-Some.fault fault (told c.in-Ok.text.now c.args.words.now c.in-Some.fault c.in-Ok.ensures.cases.0 c.in-Some.ensures.some) said in
    (ap (λ f. Err (program.Words f)) same, λ memory. c.in-Some.ensures.never_memory (ap Some (same ∙ memory)))

pub returns-in_err-list-clause-wrong : goal.returns-in_err-list-clause-wrong
returns-in_err-list-clause-wrong c = λ utf8 fault said.
    absurd (no_fault c.in-Ok.text.now c.args.words.now fault c.in-Ok.ensures.cases.0 c.in_default-fault_in_text.ensures.none said)

pub returns-clause-accepted : goal.returns-clause-accepted
returns-clause-accepted c = accepted c.in-Ok.text.now c.args.words.now c.in-Ok.ensures.cases.0 c.in_default-fault_in_text.ensures.none

pub returns-clause-wrong : goal.returns-clause-wrong
returns-clause-wrong c = λ utf8 fault said.
    absurd (no_fault c.in-Ok.text.now c.args.words.now fault c.in-Ok.ensures.cases.0 c.in_default-fault_in_text.ensures.none said)
