use Rattle.std.proofs.Common.{rules}
use Rattle.examples_calendar.proofs.is_earlier.Goals as goal

pub returns : goal.returns
returns c = let law = c.order_of_days.ensures c.args.one c.args.other in search (rules, law.0, law.1)
