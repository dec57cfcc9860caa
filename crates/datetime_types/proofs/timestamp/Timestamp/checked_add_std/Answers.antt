use Rattle.std.specs.Duration.{as_nanos}
use Rattle.datetime_wall.proofs.lemmas.Nearest.{later_some, later_value}
use Rattle.datetime_types.proofs.timestamp.Timestamp.checked_add_std.Goals as goal

pub returns-clause-some : goal.returns-clause-some
returns-clause-some c = later_some _ c.args.self (as_nanos c.args.duration) c.checked_add.ensures.range (rw c.nearest_from_std.ensures at c.checked_add.ensures.some)

pub returns-clause-value : goal.returns-clause-value
returns-clause-value c =
    later_value c.checked_add.result c.args.self (as_nanos c.args.duration) c.checked_add.ensures.range (rw c.nearest_from_std.ensures at c.checked_add.ensures.some) (rw c.nearest_from_std.ensures at c.checked_add.ensures.value)
