use Rattle.std.proofs.Common.{◌-◌, arith}
use Rattle.parsing_combinator.proofs.Longest.{bound_up}
use Rattle.parsing_combinator.proofs.digits.spaced_between.Goals as goal

pub returns-clause-bound : goal.returns-clause-bound
returns-clause-bound c = bound_up c.digits_between.result (c.args.m - c.leading_spaces-spaces.result) c.args.m (omega arith) c.digits_between.ensures.bound
