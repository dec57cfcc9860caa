use Rattle.parsing_layout.proofs.TestLemmas.{at_most}
use Rattle.parsing_strides.proofs.RangeLemmas.{in_range}
use Rattle.parsing_strides.proofs.found.Found.is_in_range.Goals as goal

pub returns-then-are_at_most : goal.returns-then-are_at_most
returns-then-are_at_most c = λ few. in_range c.args.self.now (λ k lt. rw (c.all_above-above.ensures.above k lt) at (c.are_at_most.ensures c.if-are_at_most.true k lt)) c.all_above-above.ensures.small (at_most c.args.self.now.unix 9_999_999_999 few)
