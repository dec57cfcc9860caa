use Rattle.std.proofs.Common.{◌∙◌, refl}
use Rattle.datetime_wall.proofs.lemmas.Cuts.{cut_day}
use Rattle.datetime_types.proofs.wall_clock.WallClock.truncate_to_day.Goals as goal

pub returns : goal.returns
returns g c = c.with_wall_clock.ensures.value ∙ rw (c.new.ensures.value, c.date.ensures.value, c.wall_clock.ensures.value, cut_day _ c.wall_clock.ensures.range) refl
