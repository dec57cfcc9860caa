-- What dates are found by, and where they are shown.
use Rattle.std.specs.Prelude.{ℕ, Option, option_map}
use Rattle.std.specs.Borrow.{Bor}
use Rattle.zones_clock.specs.declared.zone.Zone.{Zone}
use Rattle.instants_prefixes.specs.declared.given.Given.{Given}
use Rattle.instants_found.specs.Finder.{sources_of, limit_of}
use Rattle.instants_timeline.specs.Place.{Setting}
use Rattle.instants_lines.specs.Dates.{Search}
use Rattle.instants_lines_words.specs.Part.{PartSaid, part_of}
use Rattle.instants_lines.specs.declared.date_sources.DateSources.{DateSources}
use Rattle.instants_lines.specs.declared.known.Known.{Known}

abbrev pub setting_in : DateSources → Setting
setting_in dates = record { sources = sources_of dates.finder; target = dates.target; assumed = dates.assumed }

-- the number of places of a line at which a date may begin
abbrev pub limit_in : DateSources → ℕ
limit_in dates = limit_of dates.finder

-- the part of each line in which dates are looked for
abbrev pub part_in : DateSources → Option PartSaid
part_in dates = option_map part_of dates.part

-- what is given, with a zone
abbrev pub given_of : Known → Option (Bor Zone) → Given
given_of known zone = record { offset = known.offset; zone = zone; years = known.years; time = known.time }

-- what dates are looked for by, with what is given
abbrev pub search_in : DateSources → Given → Search
search_in dates given = record { setting = setting_in dates; part = part_in dates; limit = limit_in dates; given = given }
