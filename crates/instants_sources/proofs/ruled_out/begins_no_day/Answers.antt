use Rattle.std.proofs.Common.{nat_eq, slice_index_or, arith}
use Rattle.std.proofs.lemmas.Bool.{ltb-true, not-true}
use Rattle.instants_sources.proofs.RuledOut.{day_due, day_due_of_few, day_due_of_nothing}
use Rattle.instants_sources.proofs.ruled_out.begins_no_day.Goals as goal

pub returns-in-empty : goal.returns-in-empty
returns-in-empty c = λ e. day_due_of_nothing c.args.line.now c.in-empty.len_below

pub returns-in-len1-up : goal.returns-in-len1-up
returns-in-len1-up c = λ e. day_due_of_few c.args.line.now (omega (arith, c.in-len1-up.len_below)) (ltb-true 57 (slice_index_or c.args.line.now 0 0) e)

pub returns-then-first-gt57 : goal.returns-then-first-gt57
returns-then-first-gt57 c = λ e. day_due c.args.line.now c.if-first-gt57.true (not-true (nat_eq (slice_index_or c.args.line.now 3 0) 44) e)
