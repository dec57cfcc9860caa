use Rattle.std.proofs.Common.{◌∙◌, sym, ap, arith}
use Rattle.instants_lines_words.specs.Words.{separator_said}
use Rattle.instants_lines_words.proofs.AskedWords.{separator_one, separator_tab}
use Rattle.instants_lines_words.proofs.asked_words.separator.Goals as goal

pub returns-in-len1 : goal.returns-in-len1
returns-in-len1 c =
    separator_one c.as_bytes.result.now c.new.result (omega (arith, c.in-len1.len_at_least, c.in-len1.len_below)) c.new.ensures.which c.new.ensures.value ∙ ap separator_said c.as_bytes.ensures.value

pub returns-in_default : goal.returns-in_default
returns-in_default c = separator_tab c.args.word.now c.new-in_default.result (sym c.eq.ensures ∙ c.if-eq.true) c.new-in_default.ensures.which c.new-in_default.ensures.value
