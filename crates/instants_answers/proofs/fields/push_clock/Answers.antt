use Rattle.std.proofs.Common.{◌≡◌, rules, sym, ◌∙◌}
use Rattle.instants_answers.proofs.MovedLemmas.{clock_text}
use Rattle.instants_answers.proofs.fields.push_clock.Goals as goal

pub returns-clause-text : goal.returns-clause-text
returns-clause-text c =
    let pushed : c.push_prefix.new.self ≡ _ = search rules in
    pushed ∙ clock_text c.args.answer.now _ c.args.minute c.args.second c.args.fraction c.requires.second (sym c.padded_digits.ensures.text)
