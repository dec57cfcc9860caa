use Rattle.std.proofs.Common.{rules}
use Rattle.datetime_wall.proofs.lemmas.WallClocks.{IsWallClock-wall_clock, day_of-wall_clock, nanosecond_of-wall_clock}
use Rattle.datetime_types.proofs.plain_date_time.PlainDateTime.new.Goals as goal

pub returns-clause-range : goal.returns-clause-range
returns-clause-range c = IsWallClock-wall_clock c.args.date c.args.time (search rules) (search rules)

pub returns-clause-date : goal.returns-clause-date
returns-clause-date c = day_of-wall_clock c.args.date c.args.time (search rules)

pub returns-clause-time : goal.returns-clause-time
returns-clause-time c = nanosecond_of-wall_clock c.args.date c.args.time (search rules)
