-- The dates at a place that are in doubt.
use Rattle.std.specs.Prelude.{◌≡◌, ℕ, List, Option, Some, None, option_map}
use Rattle.instants_sources.specs.Grammar.{Grammar}
use Rattle.instants_prefixes.specs.declared.given.Given.{Given}
use Rattle.instants_found.specs.Candidate.{read_by}
use Rattle.instants_found.specs.Found.{looked_at}
use Rattle.instants_found.specs.declared.candidate.Candidate.{Candidate}
use Rattle.instants_found.specs.declared.doubt.Doubted.{Doubted}

-- a date with its doubt, if it has one
abbrev pub doubted : Option Candidate → Option Doubted
doubted None = None
doubted (Some one) = option_map (λ doubt. record { start = one.date.start; end = one.date.end; doubt = doubt }) one.doubt

-- what the source of this number reads at a place of a line, if that is in doubt
unfoldable pub doubt_of : ℕ → Given → List Grammar → List ℕ → ℕ → ℕ → Option Doubted
doubt_of limit given sources line start number = doubted (read_by given sources (looked_at limit line) start number)

-- some source reads a date there that is in doubt
abbrev pub HasDoubt : ℕ → Given → List Grammar → List ℕ → ℕ → Type 0
HasDoubt limit given sources line start = (number : ℕ) × (date : Doubted) × (doubt_of limit given sources line start number ≡ Some date)
