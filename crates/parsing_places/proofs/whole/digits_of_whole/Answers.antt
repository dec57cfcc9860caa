use Rattle.std.proofs.Common.{◌-◌, length}
use Rattle.parsing_places.specs.Last.{with_moves}
use Rattle.parsing_places.proofs.ReadLemmas.{have_window}
use Rattle.parsing_places.proofs.whole.digits_of_whole.Goals as goal

pub returns-clause-front : goal.returns-clause-front
returns-clause-front c = λ e.
    record { front = c.taken_at.result.1; back = c.taken_at-2.result.1; front_there = c.taken_at.ensures.taken (λ k lt. (c.are_at_most-fits.ensures e k lt).0); back_there = c.taken_at-2.ensures.taken (λ k lt. (c.are_at_most-fits.ensures e k lt).1); joined = c.joined-digits.ensures }

pub returns-clause-last : goal.returns-clause-last
returns-clause-last c = λ e. c.taken_at-3.ensures.taken (λ k lt. (c.are_at_most-fits.ensures e k lt).2)

pub returns-clause-fraction : goal.returns-clause-fraction
returns-clause-fraction c = λ e. have_window (with_moves c.args.last.now c.args.fraction.now) c.args.text.now (length c.args.text.now - 16) c.taken_at-3.result.0 c.taken_by.result c.taken_at-3.ensures.above (λ k lt. (c.are_at_most-fits.ensures e k lt).2) c.taken_by.ensures.taken c.taken_by.ensures.none
