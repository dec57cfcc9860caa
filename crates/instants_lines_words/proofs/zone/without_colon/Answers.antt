use Rattle.std.proofs.Common.{◌∙◌, ap, lit<}
use Rattle.std.proofs.lemmas.Str.Pattern.{strip_prefix_char}
use Rattle.instants_lines_words.proofs.ZoneNames.{unprefixed}
use Rattle.instants_lines_words.proofs.zone.without_colon.Goals as goal

pub returns : goal.returns
returns c = ap (λ word. word.now) c.unwrap_or.ensures ∙ unprefixed c.args.word c.strip_prefix.result (strip_prefix_char 58 c.args.word.now c.strip_prefix.result c.strip_prefix.ensures.cases (lit< tt))
