use Rattle.std.proofs.Common.{◌≡◌, rules, length, pos, ap, ◌∙◌, arith}
use Rattle.std.specs.Ordering.{int_eq}
use Rattle.instants_answers.proofs.TargetLemmas.{line_len}
use Rattle.instants_answers.proofs.line.write_line.Goals as goal

pub returns-clause-len : goal.returns-clause-len
returns-clause-len c =
    let target : c.new-3.result ≡ c.args.date_time.offset = search rules in
    let text = rw target at c.push_text.ensures.len in
    omega (arith, ap length c.clear.ensures, c.push_date.ensures.len, c.push_clock.ensures.len, text) ∙ line_len (int_eq c.args.date_time.offset (pos 0))
