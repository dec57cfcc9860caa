use Rattle.std.proofs.Common.{sym, ap, ◌∙◌}
use Rattle.instants_stream.specs.Answers.{output}
use Rattle.instants_timeline.specs.Place.{answer_to}
use Rattle.instants_memory.proofs.OneSetting.{one_setting}
use Rattle.instants_memory.proofs.laws.one_output.Goals as goal

pub returns : goal.returns
returns c = λ words input one other a b.
    let (setting, limit) = one_setting a.asks b.asks in
    a.is_output ∙ sym (b.is_output ∙ ap (λ s. output (answer_to s) b.limit input) setting ∙ ap (λ n. output (answer_to a.setting) n input) limit)
