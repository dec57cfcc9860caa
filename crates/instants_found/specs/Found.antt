-- The date that is found in a line.
use Rattle.std.specs.Prelude.{ℕ, zero, suc, ◌+◌, min, List, length, take, Option, None, option_map, if◌then◌else◌}
use Rattle.std.specs.Option.{option_or}
use Rattle.instants_sources.specs.Grammar.{Grammar}
use Rattle.instants_edges.specs.Edge.{is_edge}
use Rattle.instants_prefixes.specs.declared.given.Given.{Given}
use Rattle.instants_prefixes.specs.Reading.{window}
use Rattle.instants_found.specs.Candidate.{is_whole, longest}
use Rattle.instants_found.specs.declared.candidate.Candidate.{Candidate}
use Rattle.instants_found.specs.declared.found.Finding.{Finding}
use Rattle.instants_found.specs.declared.found.Finding.TheVariants.{Doubtful, There}

-- the longest date at a place, where it stands whole, and else that the line's date is in doubt there
abbrev pub finding : ℕ → Candidate → Finding
finding start one = if is_whole one then There one.date else Doubtful start

-- what is found at a place, where it is not inside a word and some source reads a date there
unfoldable pub at_place : Given → List Grammar → List ℕ → ℕ → Option Finding
at_place given sources line start = if is_edge line start then option_map (finding start) (longest given sources line start (length sources)) else None

-- what is found at the first of so many places at which something is
unfoldable pub first_found : Given → List Grammar → List ℕ → ℕ → Option Finding
first_found given sources line zero = None
first_found given sources line (suc place) = option_or (first_found given sources line place) (at_place given sources line place)

-- what is found at the first of the first places of a line
abbrev pub found_in : ℕ → Given → List Grammar → List ℕ → Option Finding
found_in limit given sources line = first_found given sources line (min limit (length line))

-- the bytes of a line that are looked at: those from which a date may begin, and those after them that it may have or that stand beside it
abbrev pub looked_at : ℕ → List ℕ → List ℕ
looked_at limit line = take (limit + window + 64) line

-- the date of the line: the longest that stands whole at the least place, among the first `limit`, at which a source reads one
unfoldable pub found : ℕ → Given → List Grammar → List ℕ → Option Finding
found limit given sources line = found_in limit given sources (looked_at limit line)
