use Rattle.std.proofs.Common.{length-drop, arith}
use Rattle.instants_found.proofs.candidate.candidate_with.Goals as goal

pub overflow_add-begins : goal.overflow_add-begins
overflow_add-begins c = omega (arith, length-drop c.args.start c.args.line.now)

pub overflow_add-ends : goal.overflow_add-ends
overflow_add-ends c = omega (arith, length-drop c.args.start c.args.line.now)

pub overflow_add-zone : goal.overflow_add-zone
overflow_add-zone c = omega (arith, length-drop c.args.start c.args.line.now)

pub reach-reach-requires : goal.reach-reach-requires
reach-reach-requires c = omega (arith, length-drop c.args.start c.args.line.now)

pub found_at-requires : goal.found_at-requires
found_at-requires c =
    let left = length-drop c.args.start c.args.line.now in
    record { begins = omega arith; zone = omega arith }

pub returns : goal.returns
returns c = cc
