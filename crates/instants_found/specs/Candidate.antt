-- The dates that sources read at one place of a line.
use Rattle.std.specs.Prelude.{ℕ, zero, suc, ◌+◌, ◌&&◌, not, nat_le, Bool, List, drop, slice_get, Option, None, Some, option_and_then, if◌then◌else◌}
use Rattle.std.specs.Option.{is_none}
use Rattle.instants_sources.specs.Grammar.{Grammar}
use Rattle.instants_edges.specs.Pieces.{reach}
use Rattle.instants_prefixes.specs.declared.given.Given.{Given}
use Rattle.instants_prefixes.specs.Prefix.{prefix_at}
use Rattle.instants_prefixes.specs.declared.prefix.Prefix.{Prefix}
use Rattle.instants_found.specs.Beside.{is_read, settled_at, why}
use Rattle.instants_found.specs.declared.zoned.Settled.{Settled}
use Rattle.instants_found.specs.declared.candidate.Candidate.{Candidate}
use Rattle.instants_found.specs.declared.doubt.Doubt.{Doubt}
use Rattle.instants_found.specs.declared.found.Found.{Found}

-- the date from where it says something to where the word of its zone ends
abbrev pub found_at : ℕ → ℕ → Prefix → Found
found_at start number prefix = record { start = start + prefix.begins; end = start + prefix.zone; source = number; moment = prefix.moment }

-- it, how far it reaches for sure, and its doubt
abbrev pub candidate_with : List ℕ → ℕ → ℕ → Prefix → Option Doubt → Candidate
candidate_with line start number prefix doubt =
    record { date = found_at start number prefix; reach = reach line (start + prefix.begins) (start + prefix.ends) (start + prefix.zone); doubt = doubt }

abbrev pub as_candidate : Given → List ℕ → ℕ → ℕ → Grammar → Settled → Candidate
as_candidate given line start number grammar date = candidate_with line start number date.prefix (why given grammar line start date)

-- a date stands whole where it has no doubt
abbrev pub is_whole : Candidate → Bool
is_whole one = is_none one.doubt

abbrev pub of_prefix : Given → List ℕ → ℕ → ℕ → Grammar → Option Prefix → Option Candidate
of_prefix given line start number grammar None = None
of_prefix given line start number grammar (Some prefix) =
    if is_read grammar line start prefix then Some (as_candidate given line start number grammar (settled_at given grammar line start prefix)) else None

-- the date that the source of this number reads at this place
unfoldable pub candidate : Given → List ℕ → ℕ → ℕ → Grammar → Option Candidate
candidate given line start number grammar = of_prefix given line start number grammar (prefix_at given grammar (drop start line))

-- the date that the source of this number reads at this place, if there is such a source
abbrev pub read_by : Given → List Grammar → List ℕ → ℕ → ℕ → Option Candidate
read_by given sources line start number = option_and_then (candidate given line start number) (slice_get sources number)

-- of the longest date so far, if there is one, and a date after it, if one is read: one that stands whole takes the place of one that does not, or reaches less far
abbrev pub longer : Option Candidate → Option Candidate → Option Candidate
longer best None = best
longer None (Some one) = Some one
longer (Some best) (Some one) = if is_whole one && not (is_whole best && nat_le one.reach best.reach) then Some one else Some best

-- the longest of the dates that so many sources read there, the first ones, taken one after another
unfoldable pub longest : Given → List Grammar → List ℕ → ℕ → ℕ → Option Candidate
longest given sources line start zero = None
longest given sources line start (suc number) = longer (longest given sources line start number) (read_by given sources line start number)
