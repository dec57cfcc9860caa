-- Items and nodes, counted one source after the other.
use Rattle.std.proofs.Common.{◌≡◌, ℕ, ◌+◌, ◌^◌, ◌<◌, ◌≤◌, List, [], ◌∷◌, true, false, Option, Result, Ok, Err, length, drop, get_or, map, refl, ap, ℤ, arith}
use Rattle.std.specs.Prelude.{is_some}
use Rattle.std.specs.Result.{result_ok}
use Rattle.std.proofs.lemmas.List.{drop_all}
use Rattle.std.proofs.lemmas.List.Sums.{sum_by-cons}
use Rattle.datetime_wall.specs.Wall.{Shown}
use Rattle.parsing_combinator.specs.Fault.{Fault}
use Rattle.instants_sources.specs.Grammar.{Grammar, grammar_of}
use Rattle.instants_sources.specs.Named.{named}
use Rattle.instants_sources.specs.Tried.{nodes_in, tried_by}
use Rattle.instants_sources.specs.declared.source.Source.{Source}
use Rattle.instants_sources.proofs.FewNodes.{tried_by-le}
use Rattle.instants_timeline.specs.Tried.{nodes_in_all, unless_named, tried_on}
use Rattle.instants_timeline.proofs.FirstNamed.{sources_from}

unless_le : (r : Result Shown Fault) (n : ℕ) → unless_named r n ≤ n
unless_le (Ok m) n = omega arith
unless_le (Err f) n = omega arith

-- no more items are tried than there are nodes
pub tried_on-le : (assumed : Option ℤ) (grammars : List Grammar) (line : List ℕ) → tried_on assumed grammars line ≤ nodes_in_all grammars
unfolding tried_on
tried_on-le assumed [] line = omega arith
tried_on-le assumed (grammar ∷ others) line =
    omega (arith, tried_by-le assumed grammar line, unless_le (named assumed grammar line) (tried_on assumed others line), tried_on-le assumed others line, sum_by-cons nodes_in grammar others)

named_none : (r : Result Shown Fault) (n : ℕ) → is_some (result_ok r) ≡ true → unless_named r n ≡ 0
named_none (Ok m) n e = refl
named_none (Err f) n e = absurd cc

unnamed_all : (r : Result Shown Fault) (n : ℕ) → is_some (result_ok r) ≡ false → unless_named r n ≡ n
unnamed_all (Ok m) n e = absurd cc
unnamed_all (Err f) n e = refl

-- ---- sources from an index on

-- so many so far, and those of the others
abbrev pub IsTriedSoFar : Option ℤ → List Source → List ℕ → ℕ → ℕ → Type 0
IsTriedSoFar assumed sources line i so_far = so_far + tried_on assumed (map grammar_of (drop i sources)) line ≡ tried_on assumed (map grammar_of sources) line

module _ (assumed : Option ℤ) (sources : List Source) (line : List ℕ) (i so_far : ℕ) (x : Source) (lt : i < length sources) (e : x ≡ get_or sources i x) (before : IsTriedSoFar assumed sources line i so_far) where
  abbrev others : ℕ
  others = tried_on assumed (map grammar_of (drop (i + 1) sources)) line

  -- those of the next one, and those of the others unless it names a moment
  cut : tried_on assumed (map grammar_of (drop i sources)) line ≡ tried_by assumed (grammar_of x) line + unless_named (named assumed (grammar_of x) line) others
  unfolding tried_on
  cut = ap (λ grammars. tried_on assumed grammars line) (sources_from sources i x lt e)

  -- those of the next one can be counted
  pub next_fits : nodes_in_all (map grammar_of sources) < 2 ^ 128 → so_far + tried_by assumed (grammar_of x) line < 2 ^ 128
  next_fits few = omega (arith, cut, before, few, tried_on-le assumed (map grammar_of sources) line)

  -- it names a moment, so they are all
  pub tried_here : is_some (result_ok (named assumed (grammar_of x) line)) ≡ true → so_far + tried_by assumed (grammar_of x) line ≡ tried_on assumed (map grammar_of sources) line
  tried_here is = omega (arith, cut, before, named_none (named assumed (grammar_of x) line) others is)

  -- it names none, so the others follow
  pub tried_later : is_some (result_ok (named assumed (grammar_of x) line)) ≡ false → IsTriedSoFar assumed sources line (i + 1) (so_far + tried_by assumed (grammar_of x) line)
  tried_later is = omega (arith, cut, before, unnamed_all (named assumed (grammar_of x) line) others is)

-- none follows
pub tried_all : (assumed : Option ℤ) (sources : List Source) (line : List ℕ) (i so_far : ℕ) → length sources ≤ i → IsTriedSoFar assumed sources line i so_far → so_far ≡ tried_on assumed (map grammar_of sources) line
unfolding tried_on
tried_all assumed sources line i so_far le before =
    let end = ap (λ xs. tried_on assumed (map grammar_of xs) line) (drop_all i sources le) in
    omega (arith, end, before)

-- ---- nodes

-- so many so far, and those of the others
abbrev pub AreNodesSoFar : List Source → ℕ → ℕ → Type 0
AreNodesSoFar sources i so_far = so_far + nodes_in_all (map grammar_of (drop i sources)) ≡ nodes_in_all (map grammar_of sources)

pub next_nodes_of : (sources : List Source) (i so_far : ℕ) (x : Source) → i < length sources → x ≡ get_or sources i x → AreNodesSoFar sources i so_far → AreNodesSoFar sources (i + 1) (so_far + nodes_in (grammar_of x))
next_nodes_of sources i so_far x lt e before =
    let cut = ap (λ grammars. nodes_in_all grammars) (sources_from sources i x lt e) in
    omega (arith, cut, before, sum_by-cons nodes_in (grammar_of x) (map grammar_of (drop (i + 1) sources)))

pub nodes_of_all : (sources : List Source) (i so_far : ℕ) → length sources ≤ i → AreNodesSoFar sources i so_far → so_far ≡ nodes_in_all (map grammar_of sources)
nodes_of_all sources i so_far le before =
    let end = ap (λ xs. nodes_in_all (map grammar_of xs)) (drop_all i sources le) in
    omega (arith, end, before)
