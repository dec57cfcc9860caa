use Rattle.std.proofs.Common.{arith, refl, ◌-◌}
use Rattle.calendar_dates.proofs.DaysLemmas.{length_counts, counts_high, counts_contain}
use Rattle.calendar_dates.proofs.date_iter.DateIter.max.Goals as goal

pub returns-then-self-eq0-clause-some : goal.returns-then-self-eq0-clause-some
returns-then-self-eq0-clause-some c =
    let long = rw c.self.view_is at (length_counts c.self.inside.first c.self.inside.len) in
    (λ no. absurd (cc), λ more. absurd (omega (arith, long)))

pub returns-clause-some : goal.returns-clause-some
returns-clause-some c =
    let long = rw c.self.view_is at (length_counts c.self.inside.first c.self.inside.len) in
    (λ _. omega (arith, long), λ _. refl)

pub returns-clause-greatest : goal.returns-clause-greatest
returns-clause-greatest c = rw (← c.self.view_is) (counts_contain c.self.inside.first c.self.inside.len (c.self.inside.len - 1) c.from_count.result (omega arith) (omega arith), counts_high c.self.inside.first c.self.inside.len c.from_count.result (omega arith))
