use Rattle.std.proofs.Common.{length}
use Rattle.parsing_layout.proofs.bounds.Bounds.join.Goals as goal

pub loop-place-init : goal.loop-place-init
loop-place-init c = (
  λ whole line h.
      let any = c.any-bounds.ensures whole line in
      record { lowest = any.lowest; highest = any.highest; longest = λ w. c.longest_of_both-bounds.ensures.mine (length line) (h.longest w) },
  λ whole line h.
      let any = c.any-bounds.ensures whole line in
      record { lowest = any.lowest; highest = any.highest; longest = λ w. c.longest_of_both-bounds.ensures.others (length line) (h.longest w) },
)
