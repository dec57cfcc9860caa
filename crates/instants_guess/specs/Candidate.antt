-- A format that is tried, in memory.
use Rattle.std.specs.Prelude.{◌≡◌, ℕ, Bool, List, [], ◌∷◌, count_by, Option}
use Rattle.instants_found.specs.Finder.{limit_of, sources_of}
use Rattle.instants_found.specs.Found.{found}
use Rattle.instants_found.specs.declared.found.Finding.{Finding}
use Rattle.instants_sources.specs.Grammar.{Grammar, Means}
use Rattle.instants_stream.specs.Lines.{lines}
use Rattle.instants_words.specs.Sources.{SourceSaid}
use Rattle.instants_formats.specs.declared.format.Lacking.{Lacking}
use Rattle.instants_guess.specs.Tallies.{given_for}
use Rattle.instants_guess.specs.declared.candidate.Candidate.{Candidate}

-- what it finds in a line, as mode `key` does
abbrev pub found_by : Candidate → List ℕ → Option Finding
found_by candidate line = found (limit_of candidate.finder) candidate.given (sources_of candidate.finder) line

-- in how many lines of a text it finds such a thing
abbrev pub lines_with : (Option Finding → Bool) → Candidate → List ℕ → ℕ
lines_with is candidate text = count_by (λ line. is (found_by candidate line)) (lines text)

-- a format is tried by what its words mean, alone, and its dates are given what they lack
pub record Tries (name : List ℕ) (said : SourceSaid) (lacks : Lacking) (candidate : Candidate) : Type 0 where
  pub name_is : candidate.name.now ≡ name
  pub lacks_is : candidate.lacks ≡ lacks
  pub given : candidate.given ≡ given_for lacks
  pub grammar : Grammar
  pub means : Means said grammar
  pub alone : sources_of candidate.finder ≡ grammar ∷ []
