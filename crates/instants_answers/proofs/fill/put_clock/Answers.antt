use Rattle.std.proofs.Common.{◌≡◌, [], ◌∷◌, ◌++◌, take, refl, ap, ◌∙◌}
use Rattle.std.proofs.lemmas.List.{take_at}
use Rattle.base.specs.Bytes.{dot}
use Rattle.parsing_values.specs.Decimal.{decimal}
use Rattle.parsing_values.proofs.lemmas.Decimals.{decimal_length}
use Rattle.instants_answers.specs.Minute.{minute_text}
use Rattle.instants_answers.proofs.MinuteLemmas.{minute_length}
use Rattle.instants_answers.proofs.MovedLemmas.{clock_text}
use Rattle.instants_answers.proofs.FillLemmas.{after_text}
use Rattle.instants_answers.proofs.fill.put_clock.Goals as goal

pub returns-clause-text : goal.returns-clause-text
returns-clause-text c =
    let date = take 10 c.args.room.now in
    let minute = minute_text c.args.minute in
    let second = decimal 2 c.args.second in
    let first : take 17 c.put_first.new.room ≡ date ++ minute = c.put_first.ensures.prefix ∙ ap (λ l. date ++ take 7 l) c.row.ensures ∙ ap (λ l. date ++ l) (take_at minute (0 ∷ []) 7 (minute_length c.args.minute)) in
    let next : take 19 c.put.new.room ≡ (date ++ minute) ++ second = after_text 17 2 c.put_first.new.room c.put.new.room c.two_digits.result second (date ++ minute) c.two_digits.ensures (decimal_length 2 c.args.second) first c.put.ensures.prefix in
    let point : take 20 c.put-2.new.room ≡ ((date ++ minute) ++ second) ++ dot ∷ [] = after_text 19 1 c.put.new.room c.put-2.new.room (dot ∷ []) (dot ∷ []) ((date ++ minute) ++ second) refl refl next c.put-2.ensures.prefix in
    let nine = decimal 9 c.args.fraction in
    let all : take 29 c.put_first-2.new.room ≡ (((date ++ minute) ++ second) ++ dot ∷ []) ++ nine = c.put_first-2.ensures.prefix ∙ ap (λ l. take 20 c.put-2.new.room ++ l) c.padded_digits.ensures.text ∙ ap (λ l. l ++ nine) point in
    all ∙ clock_text date nine c.args.minute c.args.second c.args.fraction c.requires.second refl
