-- Where no date begins.
use Rattle.std.specs.Prelude.{◌≡◌, ◌<◌, ◌≤◌, ◌+◌, ℕ, Bool, true, false, List, get_or, slice_get, None, All, IfSome}
use Rattle.std.specs.Int.{bit_at}
use Rattle.instants_sources.specs.Grammar.{Grammar}
use Rattle.instants_prefixes.specs.declared.given.Given.{Given}
use Rattle.instants_prefixes.specs.NoPrefix.{HasNoPrefix}
use Rattle.instants_found.specs.Found.{at_place}
use Rattle.instants_found.specs.declared.starts.Place.{Place}
use Rattle.instants_found.specs.declared.starts.Place.TheVariants.{First, Fourth}

-- a place's index in the bytes of a date
abbrev pub index_of : Place → ℕ
index_of First = 0
index_of Fourth = 3

-- no prefix that a source reads has this byte at this place
abbrev pub CannotStand : ℕ → ℕ → Grammar → Type 0
CannotStand place byte grammar = (bytes : List ℕ) → get_or bytes place 0 ≡ byte → HasNoPrefix bytes grammar

-- what is marked in a table are all bytes that can stand at this place of a prefix of a source
abbrev pub AreMarked : ℕ → List Grammar → List Bool → Type 0
AreMarked place sources marked = (byte : ℕ) → get_or marked byte true ≡ false → All (CannotStand place byte) sources

-- none of the sources from a number on reads a prefix of these bytes
abbrev pub HaveNoPrefix : List ℕ → List Grammar → ℕ → Type 0
HaveNoPrefix bytes sources from = (number : ℕ) → from ≤ number → IfSome (slice_get sources number) (HasNoPrefix bytes)

-- nothing is found at a place of a line, whatever is given
abbrev pub IsNoDate : List Grammar → List ℕ → ℕ → Type 0
IsNoDate sources line place = (given : Given) → at_place given sources line place ≡ None

-- nothing is found at the places of a line from one up to another
abbrev pub HasNoDate : List Grammar → List ℕ → ℕ → ℕ → Type 0
HasNoDate sources line from to = (place : ℕ) → from ≤ place → place < to → IsNoDate sources line place

-- of so many bits, one for each place of a line from one up to another, only those are 0 at whose places nothing is found
abbrev pub MarkPlaces : List Grammar → List ℕ → ℕ → ℕ → ℕ → Type 0
MarkPlaces sources line from to bits = (k : ℕ) → from + k < to → bit_at bits k ≡ 0 → IsNoDate sources line (from + k)
