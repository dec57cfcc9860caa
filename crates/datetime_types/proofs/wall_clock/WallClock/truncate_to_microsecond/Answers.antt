use Rattle.std.proofs.Common.{◌∙◌, refl}
use Rattle.datetime_wall.proofs.lemmas.Cuts.{cut_microsecond}
use Rattle.datetime_types.proofs.wall_clock.WallClock.truncate_to_microsecond.Goals as goal

pub returns : goal.returns
returns g c = c.replace_time.ensures.value ∙ rw (c.truncate_to_microsecond.ensures.value, c.time.ensures.value, c.wall_clock.ensures.value, cut_microsecond _ c.wall_clock.ensures.range) refl
