-- What lines are written by at the beginning, as words ask.
use Rattle.std.specs.Prelude.{ℕ, List, Option, option_map}
use Rattle.std.specs.Borrow.{Bor}
use Rattle.zones_clock.specs.declared.zone.Zone.{Zone}
use Rattle.instants_lines.specs.Asked.{zone_asked}
use Rattle.instants_lines.specs.Going.{Going, beginning}
use Rattle.instants_lines.specs.Showing.{given_of, search_in}
use Rattle.instants_lines.specs.declared.open_lines.OpenLines.{OpenLines}

abbrev pub label_in : OpenLines → Option (List ℕ)
label_in lines = option_map (λ text. text.now) lines.label

-- the zone on whose clock dates are, where the words name one
abbrev pub zone_in : OpenLines → Option (Bor Zone) → Option (Bor Zone)
zone_in lines zone = zone_asked (option_map (λ text. text.now) lines.zone) zone

-- what lines are written by at the beginning, with a zone
abbrev pub begins_in : OpenLines → Option (Bor Zone) → Going
begins_in lines zone = beginning lines.mode (label_in lines) (search_in lines.dates (given_of lines.known (zone_in lines zone)))
