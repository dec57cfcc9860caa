-- What words ask of the lines of a stream.
use Rattle.std.specs.Prelude.{ℕ, List, Option, None, Some, ℤ}
use Rattle.std.specs.Borrow.{Bor}
use Rattle.zones_clock.specs.declared.zone.Zone.{Zone}
use Rattle.instants_prefixes.specs.declared.given.Given.{Given}
use Rattle.instants_prefixes.specs.declared.given.Years.{Years}
use Rattle.instants_prefixes.specs.declared.given.Years.TheVariants.{Unknown, In}
use Rattle.instants_timeline.specs.Place.{Setting}
use Rattle.instants_lines.specs.Going.{Going, beginning}
use Rattle.instants_lines_words.specs.Asked.{Asking}

abbrev pub years_asked : Option ℤ → Years
years_asked None = Unknown
years_asked (Some year) = In year

-- the zone on whose clock dates are, where one is asked for
abbrev pub zone_asked : Option (List ℕ) → Option (Bor Zone) → Option (Bor Zone)
zone_asked None there = None
zone_asked (Some name) there = there

-- the name of the zone that is asked for, where none is there
abbrev pub zone_lacking : Option (List ℕ) → Option (Bor Zone) → Option (List ℕ)
zone_lacking None there = None
zone_lacking (Some name) None = Some name
zone_lacking (Some name) (Some zone) = None

-- what is given for dates that lack it: the offset that is assumed, the zone that is asked for, and what else is asked
abbrev pub given_by : Asking → Option (Bor Zone) → Setting → Given
given_by asked zone setting = record { offset = setting.assumed; zone = zone_asked asked.zone zone; years = years_asked asked.year; time = asked.time }

-- what lines are written by at the beginning, with a setting and a limit
abbrev pub begins_by : Asking → Option (Bor Zone) → Setting → ℕ → Going
begins_by asked zone setting limit = beginning asked.mode asked.label (record { setting = setting; part = asked.part; limit = limit; given = given_by asked zone setting })
