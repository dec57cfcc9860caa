use Rattle.std.proofs.Common.{◌≡◌, [], ◌++◌, codes, take, refl, ◌∙◌, length-append, append_assoc, arith}
use Rattle.parsing_values.specs.Decimal.{decimal}
use Rattle.parsing_values.proofs.lemmas.Decimals.{decimal_length}
use Rattle.instants_answers.specs.Text.{date_text}
use Rattle.instants_answers.proofs.FillLemmas.{after_text}
use Rattle.instants_answers.proofs.fill.put_date.Goals as goal

pub returns-clause-text : goal.returns-clause-text
unfolding date_text
returns-clause-text c =
    let year = decimal 4 c.args.year in
    let month = codes "-" ++ decimal 2 c.args.month ++ codes "-" in
    let day = decimal 2 c.args.day in
    let first : take 4 c.put.new.room ≡ year = after_text 0 4 c.args.room.now c.put.new.room c.digits.result year [] c.digits.ensures.digits (decimal_length 4 c.args.year) refl c.put.ensures.prefix in
    let second : take 8 c.put-2.new.room ≡ year ++ month = after_text 4 4 c.put.new.room c.put-2.new.room c.month_text.result month year c.month_text.ensures (omega (arith, length-append (codes "-" ++ decimal 2 c.args.month) (codes "-"), length-append (codes "-") (decimal 2 c.args.month), decimal_length 2 c.args.month)) first c.put-2.ensures.prefix in
    let third : take 10 c.put-3.new.room ≡ (year ++ month) ++ day = after_text 8 2 c.put-2.new.room c.put-3.new.room c.two_digits.result day (year ++ month) c.two_digits.ensures (decimal_length 2 c.args.day) second c.put-3.ensures.prefix in
    third ∙ simp append_assoc
