-- That the day of the last date is kept right has at most one proof.
use Rattle.std.specs.Prelude.{◌≡◌, ◌<◌, Option, None, Some, ◌-ℤ◌}
use Rattle.std.specs.Borrow.{Bor}
use Rattle.std.specs.Coded.{Unit-prop}
use base.Stored.{Coded-set}
use Rattle.datetime_wall.specs.Wall.{second_nanos}
use Rattle.parsing_values.specs.Moment.{moment_of}
use Rattle.parsing_values.specs.declared.fields.Fields.{Fields}
use Rattle.zones_clock.specs.declared.zone.Zone.{Zone}
use Rattle.zones_clock.specs.declared.zone.Moments.{Moments}
use Rattle.zones_clock.specs.declared.zone.Moments.TheVariants.{One}
use Rattle.zones_clock.specs.contracts.zone.Moments as moments
use Rattle.zones_clock.specs.AllMoments.{moments_of}
use Rattle.instants_found.specs.Zoned.{reading}
use Rattle.instants_found.specs.KeptDays.{IsKept, IsOn}
use Rattle.instants_found.specs.declared.kept_day.KeptDay.{KeptDay}

pub IsKept-prop : (zone : Option (Bor Zone)) (kept : KeptDay) → IsProp (IsKept zone kept)
IsKept-prop None kept = Unit-prop
IsKept-prop (Some zone) kept = λ one other. λ i. λ fields fraction on.
    Coded-set moments.the_row.coded (moments_of zone.now.first zone.now.steps.items (reading (moment_of fields))) (One (reading (moment_of fields) -ℤ kept.offset)) (one fields fraction on) (other fields fraction on) i
