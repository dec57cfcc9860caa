use Rattle.std.proofs.Common.{List, ℕ, [], ◌∷◌, ◌++◌, take, ap, ◌∙◌}
use Rattle.std.proofs.lemmas.List.{take_at}
use Rattle.instants_answers.specs.Minute.{minute_text}
use Rattle.instants_answers.proofs.MinuteLemmas.{minute_length}
use Rattle.instants_answers.proofs.minutes.push_minute.Goals as goal

pub returns-clause-text : goal.returns-clause-text
returns-clause-text c = c.push_prefix.ensures ∙ ap (λ (l : List ℕ). c.args.answer.now ++ take 7 l) c.row.ensures ∙ ap (λ (l : List ℕ). c.args.answer.now ++ l) (take_at (minute_text c.args.minute) (0 ∷ []) 7 (minute_length c.args.minute))
