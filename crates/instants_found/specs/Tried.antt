-- How many items a search tries that looks at each of the first places of a line by every source.
use Rattle.std.specs.Prelude.{ℕ, zero, suc, ◌+◌, List, [], ◌∷◌, None}
use Rattle.std.specs.List.{sum_by}
use Rattle.instants_sources.specs.Grammar.{Grammar}
use Rattle.instants_sources.specs.Tried.{nodes_in, tried_by}
use Rattle.instants_prefixes.specs.Reading.{text_for}

-- the items that all sources try on the bytes from a place on
abbrev pub tried_at : List Grammar → List ℕ → ℕ
tried_at sources bytes = sum_by (λ grammar. tried_by None grammar (text_for grammar bytes)) sources

-- those that they try at the first places of a line
unfoldable pub tried_from : List Grammar → List ℕ → ℕ → ℕ
tried_from sources [] limit = 0
tried_from sources (byte ∷ after) zero = 0
tried_from sources (byte ∷ after) (suc limit) = tried_at sources (byte ∷ after) + tried_from sources after limit

-- the nodes of all sources
abbrev pub nodes_of : List Grammar → ℕ
nodes_of sources = sum_by nodes_in sources
