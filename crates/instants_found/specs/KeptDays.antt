-- The day of the last date on a zone's clock.
use Rattle.std.specs.Prelude.{◌≡◌, ◌<◌, ⊤, Option, None, Some, ◌-ℤ◌}
use Rattle.std.specs.Borrow.{Bor}
use Rattle.zones_clock.specs.declared.zone.Zone.{Zone}
use Rattle.zones_clock.specs.declared.zone.Moments.TheVariants.{One}
use Rattle.zones_clock.specs.AllMoments.{moments_of}
use Rattle.datetime_wall.specs.Wall.{second_nanos}
use Rattle.parsing_values.specs.Moment.{moment_of}
use Rattle.parsing_values.specs.declared.fields.Fields.{Fields}
use Rattle.instants_found.specs.Zoned.{reading}
use Rattle.instants_found.specs.declared.kept_day.KeptDay.{KeptDay}

-- fields name a date of the day
abbrev pub IsOn : KeptDay → Fields → Type 0
IsOn kept fields = (fields.year ≡ kept.year) × (fields.month ≡ kept.month) × (fields.day ≡ kept.day)

-- a zone's clock shows each time of the day once, as far ahead of UTC as is kept
abbrev pub IsKept : Option (Bor Zone) → KeptDay → Type 0
IsKept None kept = ⊤
IsKept (Some zone) kept = (fields : Fields) → fields.fraction < second_nanos → IsOn kept fields
    → moments_of zone.now.first zone.now.steps.items (reading (moment_of fields)) ≡ One (reading (moment_of fields) -ℤ kept.offset)
