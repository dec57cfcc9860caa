use Rattle.std.proofs.Common.{◌∙◌}
use Rattle.datetime_wall.proofs.lemmas.WallClocks.{wall_clock_parts}
use Rattle.datetime_types.proofs.timestamp.TimestampWallClock.wall_clock.Goals as goal

pub returns-clause-value : goal.returns-clause-value
returns-clause-value c = c.new.ensures.value ∙ rw (c.date.ensures.value, c.time.ensures.value) (wall_clock_parts c.args.self c.date.ensures.range)
