-- What a finder looks for.
use Rattle.std.specs.Prelude.{ℕ, List, map}
use Rattle.instants_prefixes.specs.DateSource.{grammar_in}
use Rattle.instants_sources.specs.Grammar.{Grammar}
use Rattle.instants_found.specs.declared.finder.Finder.{Finder}

-- the sources, in order
abbrev pub sources_of : Finder → List Grammar
sources_of finder = map grammar_in finder.sources.items

-- the number of places of a line at which a date may begin
abbrev pub limit_of : Finder → ℕ
limit_of finder = finder.limit
