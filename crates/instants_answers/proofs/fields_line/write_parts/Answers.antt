use Rattle.std.proofs.Common.{length, pos, ap, ◌∙◌, arith}
use Rattle.std.specs.Ordering.{int_eq}
use Rattle.instants_answers.proofs.TargetLemmas.{line_len}
use Rattle.instants_answers.proofs.fields_line.write_parts.Goals as goal

pub returns-clause-len : goal.returns-clause-len
returns-clause-len c = omega (arith, ap length c.clear.ensures, c.push_date.ensures.len, c.push_clock.ensures.len, c.push_text.ensures.len) ∙ line_len (int_eq c.args.target (pos 0))
