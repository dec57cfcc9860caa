use Rattle.std.proofs.Common.{sym}
use Rattle.datetime_wall.proofs.lemmas.WallClocks.{nanosecond_of-wall_clock, IsWallClock-wall_clock}
use Rattle.datetime_types.proofs.plain_date_time.PlainDateTime.time.Goals as goal

pub returns-clause-value : goal.returns-clause-value
returns-clause-value c = rw (← c.self.view_is) (sym (nanosecond_of-wall_clock _ _ c.self.invariant.1))

pub returns-clause-range : goal.returns-clause-range
returns-clause-range c = rw (← c.self.view_is) (IsWallClock-wall_clock _ _ c.self.invariant.0 c.self.invariant.1)
