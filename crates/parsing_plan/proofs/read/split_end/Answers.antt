use Rattle.std.proofs.Common.{◌≡◌, ◌+◌, arith}
use Rattle.parsing_plan.proofs.read.split_end.Goals as goal

pub returns-clause-ends : goal.returns-clause-ends
returns-clause-ends c = λ none.
    let place = c.args.shape.now.length + c.digits_at-count.result in
    let same : place + c.args.back.now.last.length ≡ place = omega (arith, none) in
    rw same (c.digits_at-count.ensures.ends (omega (arith, c.if-count-gt-MOST_DIGITS.false)))
