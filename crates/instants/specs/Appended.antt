-- What one source more changes.
use Rattle.std.specs.Prelude.{[], ◌∷◌, ◌++◌}
use Rattle.instants_sources.specs.Grammar.{Grammar}
use Rattle.instants_timeline.specs.Place.{Setting}

-- a setting with one source more, after the others
abbrev pub with_source : Setting → Grammar → Setting
with_source setting grammar = record setting { sources = setting.sources ++ grammar ∷ [] }
