-- Written lines that are read again.
use Rattle.std.specs.Prelude.{◌≡◌, ◌⊎◌, [], ◌∷◌, Option, ℤ}
use Rattle.instants_sources.specs.Grammar.{Grammar, Rfc3339, Iso8601}
use Rattle.instants_timeline.specs.Place.{Setting}

-- a setting with one source
abbrev pub alone : Grammar → ℤ → Option ℤ → Setting
alone grammar target assumed = record { sources = grammar ∷ []; target = target; assumed = assumed }

-- RFC 3339 or ISO 8601
abbrev pub ReadsLines : Grammar → Type 0
ReadsLines grammar = (grammar ≡ Rfc3339) ⊎ (grammar ≡ Iso8601)
