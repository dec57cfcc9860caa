use Rattle.std.proofs.Common.{arith, sym, refl, ◌≡◌, ◌+◌, ◌-◌, length}
use Rattle.calendar_dates.proofs.DaysLemmas.{length_counts, counts_none, counts_get_back, counts_get_back_past, counts_take}
use Rattle.calendar_dates.proofs.date_iter.DateIter.nth_back.Goals as goal

pub returns-then-n-self-clause-value : goal.returns-then-n-self-clause-value
returns-then-n-self-clause-value c = sym (rw c.self.view_is at (counts_get_back_past c.self.inside.first c.self.inside.len c.args.n (omega arith)))

pub returns-then-n-self-clause-rest : goal.returns-then-n-self-clause-rest
returns-then-n-self-clause-rest c =
    let long = rw c.self.view_is at (length_counts c.self.inside.first c.self.inside.len) in
    let none : length c.args.self.now - (c.args.n + 1) ≡ 0 = omega (arith, long) in
    rw none (counts_none c.self.inside.first 0 refl)

pub returns-clause-value : goal.returns-clause-value
returns-clause-value c = sym (rw c.self.view_is at (counts_get_back c.self.inside.first c.self.inside.len c.args.n c.from_count-day.result (omega arith) (omega arith)))

pub returns-clause-rest : goal.returns-clause-rest
returns-clause-rest c =
    let long = rw c.self.view_is at (length_counts c.self.inside.first c.self.inside.len) in
    let left : length c.args.self.now - (c.args.n + 1) ≡ c.self.inside.len - (c.args.n + 1) = omega (arith, long) in
    rw left (sym (rw c.self.view_is at (counts_take c.self.inside.first c.self.inside.len (c.self.inside.len - (c.args.n + 1)) (omega arith))))
