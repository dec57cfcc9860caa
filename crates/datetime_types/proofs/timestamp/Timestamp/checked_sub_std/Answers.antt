use Rattle.std.specs.Duration.{as_nanos}
use Rattle.datetime_wall.proofs.lemmas.Nearest.{earlier_some, earlier_value}
use Rattle.datetime_types.proofs.timestamp.Timestamp.checked_sub_std.Goals as goal

pub returns-clause-some : goal.returns-clause-some
returns-clause-some c = earlier_some _ c.args.self (as_nanos c.args.duration) c.checked_sub.ensures.range (rw c.nearest_from_std.ensures at c.checked_sub.ensures.some)

pub returns-clause-value : goal.returns-clause-value
returns-clause-value c =
    earlier_value c.checked_sub.result c.args.self (as_nanos c.args.duration) c.checked_sub.ensures.range (rw c.nearest_from_std.ensures at c.checked_sub.ensures.some) (rw c.nearest_from_std.ensures at c.checked_sub.ensures.value)
