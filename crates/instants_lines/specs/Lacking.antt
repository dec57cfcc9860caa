-- The first source that can name no moment.
use Rattle.std.specs.Prelude.{ℕ, ◌+◌, List, [], ◌∷◌, Option, None, Some}
use Rattle.instants_prefixes.specs.Lacks.{lack}
use Rattle.instants_prefixes.specs.declared.lacks.Lack.{Lack}
use Rattle.instants_prefixes.specs.declared.given.Given.{Given}
use Rattle.instants_sources.specs.Grammar.{Grammar}
use Rattle.instants_lines.specs.Dates.{Search}
use Rattle.instants_lines.specs.declared.lacking.Lacking.{Lacking}

-- what a source of this number lacks, or else what one after it does
abbrev pub lacks_or : ℕ → Option Lack → Option Lacking → Option Lacking
lacks_or number None others = others
lacks_or number (Some lack) others = Some (record { place = number; lack = lack })

-- the first source that lacks something to name a moment, with what is given, and what it lacks; the sources are numbered from here on
unfoldable pub first_lacking : Given → ℕ → List Grammar → Option Lacking
first_lacking given number [] = None
first_lacking given number (grammar ∷ others) = lacks_or number (lack given grammar) (first_lacking given (number + 1) others)

-- the same of what dates are looked for by, where the first source has the number 1
abbrev pub lacking_in : Search → Option Lacking
lacking_in search = first_lacking search.given 1 search.setting.sources
