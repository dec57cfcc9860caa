use Rattle.std.proofs.Common.{slice_index_or, arith, rules, tests}
use Rattle.std.proofs.lemmas.Bool.{ltb-true}
use Rattle.instants_sources.proofs.RuledOut.{space_due, space_due_of_one}
use Rattle.instants_sources.proofs.ruled_out.has_no_space.Goals as goal

pub returns-then-is_ascii_digit : goal.returns-then-is_ascii_digit
returns-then-is_ascii_digit c = λ e.
    let above = ltb-true 40 (slice_index_or c.args.line.now 2 0) e in
    space_due c.args.line.now (omega (arith, c.if-line-lt3.false)) (search (rules, tests)) (search (rules, tests)) (omega (arith, above))

pub returns-else-is_ascii_digit : goal.returns-else-is_ascii_digit
returns-else-is_ascii_digit c = λ e.
    let above = ltb-true 40 (slice_index_or c.args.line.now 1 0) e in
    space_due_of_one c.args.line.now (omega (arith, c.if-line-lt3.false)) (search (rules, tests)) (search (rules, tests)) (omega (arith, above))
