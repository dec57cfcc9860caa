use Rattle.parsing_places.proofs.windows.Windows.digits_within.Goals as goal

pub returns : goal.returns
returns c = λ e.
    record { front = c.taken_at.result.1; back = c.taken_at-2.result.1; front_there = c.taken_at.ensures.taken (λ k lt. (c.are_at_most-fits.ensures e k lt).0); back_there = c.taken_at-2.ensures.taken (λ k lt. (c.are_at_most-fits.ensures e k lt).1); joined = c.joined.ensures }
