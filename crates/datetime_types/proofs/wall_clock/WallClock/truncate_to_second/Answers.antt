use Rattle.std.proofs.Common.{◌∙◌, refl}
use Rattle.datetime_wall.proofs.lemmas.Cuts.{cut_second}
use Rattle.datetime_types.proofs.wall_clock.WallClock.truncate_to_second.Goals as goal

pub returns : goal.returns
returns g c = c.replace_time.ensures.value ∙ rw (c.truncate_to_second.ensures.value, c.time.ensures.value, c.wall_clock.ensures.value, cut_second _ c.wall_clock.ensures.range) refl
