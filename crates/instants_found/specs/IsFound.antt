-- What the date that is found has to do with all dates of the line.
use Rattle.std.specs.Prelude.{◌≡◌, ◌<◌, ◌≤◌, ◌⊎◌, ℕ, true, List, length, Option, Some, None}
use Rattle.instants_sources.specs.Grammar.{Grammar}
use Rattle.instants_edges.specs.Edge.{is_edge}
use Rattle.instants_prefixes.specs.declared.given.Given.{Given}
use Rattle.instants_found.specs.Candidate.{read_by, is_whole}
use Rattle.instants_found.specs.Found.{finding}
use Rattle.instants_found.specs.declared.candidate.Candidate.{Candidate}
use Rattle.instants_found.specs.declared.found.Finding.{Finding}

-- the source of this number reads the date at this place of the line, which is no place inside a word
pub record IsReadAt (given : Given) (sources : List Grammar) (line : List ℕ) (place number : ℕ) (date : Candidate) : Type 0 where
  pub within : place < length line
  pub edge : is_edge line place ≡ true
  pub reads : read_by given sources line place number ≡ Some date

-- no source reads a date at a place before this one
abbrev pub NoneBefore : Given → List Grammar → List ℕ → ℕ → Type 0
NoneBefore given sources line place = (earlier number : ℕ) (date : Candidate) → earlier < place → IsReadAt given sources line earlier number date → ⊥

-- of two dates that sources of these numbers read, where the other one stands whole the first does too, and it reaches further, or as far and is read by no later source
abbrev pub IsNoShorter : ℕ → Candidate → ℕ → Candidate → Type 0
IsNoShorter number date later other = is_whole other ≡ true → (is_whole date ≡ true) × ((other.reach < date.reach) ⊎ ((other.reach ≡ date.reach) × (number ≤ later)))

-- at the least place, among the first ones, at which a source reads a date, this one is read, and no other that is read there is longer
pub record IsLongest (limit : ℕ) (given : Given) (sources : List Grammar) (line : List ℕ) (place : ℕ) (date : Candidate) : Type 0 where
  pub number : ℕ
  pub near : place < limit
  pub here : IsReadAt given sources line place number date
  pub least : NoneBefore given sources line place
  pub longest : (other : Candidate) (later : ℕ) → IsReadAt given sources line place later other → IsNoShorter number date later other

-- what is found is the longest date at the least place, or that it is in doubt since none there stands whole, or that none is read at the first places
abbrev pub IsFound : ℕ → Given → List Grammar → List ℕ → Option Finding → Type 0
IsFound limit given sources line None = NoneBefore given sources line limit
IsFound limit given sources line (Some found) = (place : ℕ) × (date : Candidate) × IsLongest limit given sources line place date × (found ≡ finding place date)
