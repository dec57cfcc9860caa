use Rattle.std.proofs.Common.{◌≡◌, ◌++◌, sym, ap, ◌∙◌}
use Rattle.instants_stream.specs.Answers.{output}
use Rattle.instants_stream.proofs.Lines.{output-append, last_part_none}
use Rattle.instants_timeline.specs.Place.{answer_to}
use Rattle.instants_memory.proofs.OneSetting.{one_setting}
use Rattle.instants_memory.proofs.laws.joined_blocks.Goals as goal

pub returns : goal.returns
returns c = λ words first second one other ends a b.
    let (setting, limit) = one_setting a.asks b.asks in
    let after : other ≡ output (answer_to a.setting) a.limit second =
    b.is_output ∙ ap (λ s. output (answer_to s) b.limit second) setting ∙ ap (λ n. output (answer_to a.setting) n second) limit in
    record {
      setting = a.setting;
      limit = a.limit;
      asks = a.asks;
      is_output = ap (λ l. l ++ other) a.is_output ∙ ap (λ l. output (answer_to a.setting) a.limit first ++ l) after ∙ sym (output-append (answer_to a.setting) a.limit first second (last_part_none first ends));
    }
