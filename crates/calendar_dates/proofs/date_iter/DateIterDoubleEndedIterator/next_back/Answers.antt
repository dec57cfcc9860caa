use Rattle.std.proofs.Common.{arith, ◌-◌}
use Rattle.calendar_dates.proofs.DaysLemmas.{length_counts, counts_none, counts_last}
use Rattle.calendar_dates.proofs.date_iter.DateIterDoubleEndedIterator.next_back.Goals as goal

pub returns-then-self-eq0-clause-steps : goal.returns-then-self-eq0-clause-steps
returns-then-self-eq0-clause-steps c =
    let e = rw c.self.view_is at (counts_none c.self.inside.first c.self.inside.len c.if-self-eq0.true) in
    (e, e)

pub returns-clause-steps : goal.returns-clause-steps
returns-clause-steps c =
    let e = rw c.self.view_is at (counts_last c.self.inside.first c.self.inside.len (c.self.inside.len - 1) (omega arith)) in
    rw c.from_count.ensures.value e

pub returns-clause-goes : goal.returns-clause-goes
returns-clause-goes c =
    let before = rw c.self.view_is at (length_counts c.self.inside.first c.self.inside.len) in
    let after = length_counts c.self.inside.first (c.self.inside.len - 1) in
    record { on = λ _. (tt, tt, omega (arith, before, after)); keeps = tt; rests = λ _. tt }
