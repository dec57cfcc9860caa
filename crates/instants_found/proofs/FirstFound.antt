-- What is found is the longest date at the first place.
use Rattle.std.proofs.Common.{◌≡◌, ◌<◌, ◌≤◌, inl, inr, ℕ, zero, suc, true, false, List, length, min, Option, Some, None, refl, subst, arith}
use Rattle.std.specs.Prelude.{option_map, if◌then◌else◌}
use Rattle.std.specs.Option.{option_or}
use Rattle.std.proofs.lemmas.Bool.{cases_lt}
use Rattle.instants_edges.specs.Edge.{is_edge}
use Rattle.instants_prefixes.specs.declared.given.Given.{Given}
use Rattle.instants_sources.specs.Grammar.{Grammar}
use Rattle.instants_found.specs.Candidate.{longest}
use Rattle.instants_found.specs.Found.{at_place, first_found, found, found_in, looked_at, finding}
use Rattle.instants_found.specs.IsFound.{IsReadAt, NoneBefore, IsNoShorter, IsFound}
use Rattle.instants_found.specs.declared.candidate.Candidate.{Candidate}
use Rattle.instants_found.specs.declared.found.Finding.{Finding}
use Rattle.instants_found.proofs.Longest.{IsBestOf, best_of}
use Rattle.instants_found.proofs.ReadAt.{lies_near}

module _ (given : Given) (sources : List Grammar) (line : List ℕ) where
  -- ---- one place

  -- what is found at a place is the longest date that is read there, or none is
  abbrev IsThere : ℕ → Option Finding → Type 0
  IsThere place None = (number : ℕ) (date : Candidate) → IsReadAt given sources line place number date → ⊥
  IsThere place (Some found) =
      (date : Candidate) × (number : ℕ) × IsReadAt given sources line place number date × ((other : Candidate) (later : ℕ) → IsReadAt given sources line place later other → IsNoShorter number date later other) × (found ≡ finding place date)

  few : (place number : ℕ) (date : Candidate) → IsReadAt given sources line place number date → number < length sources
  few place number date read = (lies_near given sources line place number date read.reads).1

  by_best : (place : ℕ) → place < length line → is_edge line place ≡ true → (o : Option Candidate) → IsBestOf given sources line place (length sources) o → IsThere place (option_map (finding place) o)
  by_best place within edge None none = λ number date read. none date number (few place number date read) read.reads
  by_best place within edge (Some date) it = (date, it.number, record { within = within; edge = edge; reads = it.read }, λ other later read. it.best other later (few place later other read) read.reads, refl)

  there : (place : ℕ) → place < length line → IsThere place (at_place given sources line place)
  unfolding at_place
  there place within =
      elim (is_edge line place) as (λ b. is_edge line place ≡ b → IsThere place (if b then option_map (finding place) (longest given sources line place (length sources)) else None)) [
        | true ↦ λ edge. by_best place within edge (longest given sources line place (length sources)) (best_of given sources line place (length sources))
        | false ↦ λ edge number date read. let on = read.edge in absurd cc
      ] refl

  -- ---- the first place

  module _ (limit : ℕ) where
    -- so it is of the first so many places
    abbrev IsSo : ℕ → Option Finding → Type 0
    IsSo count None = NoneBefore given sources line count
    IsSo count (Some found) = IsFound limit given sources line (Some found)

    place_more : (n : ℕ) → n < limit → (o : Option Finding) → NoneBefore given sources line n → IsThere n o → IsSo (suc n) o
    place_more n near None none here = λ earlier number date lt read.
        elim (cases_lt earlier n) [
          | inl low ↦ none earlier number date low read
          | inr high ↦
              let same : earlier ≡ n = omega (arith, lt, high) in
              let P : ℕ → Type 0 = λ place. IsReadAt given sources line place number date in
              here number date (subst P same read)
        ]
    place_more n near (Some found) none (date, number, here, best, is) = (n, date, record { number = number; near = near; here = here; least = none; longest = best }, is)

    either : (n : ℕ) → n < limit → (o here : Option Finding) → IsSo n o → IsThere n here → IsSo (suc n) (option_or o here)
    either n near None here none it = place_more n near here none it
    either n near (Some found) here is it = is

    so_far : (n : ℕ) → n ≤ min limit (length line) → IsSo n (first_found given sources line n)
    unfolding first_found
    so_far zero le = λ earlier number date lt read. absurd (omega (arith, lt))
    so_far (suc n) le = either n (omega (arith, le)) (first_found given sources line n) (at_place given sources line n) (so_far n (omega (arith, le))) (there n (omega (arith, le)))

    whole_line : (o : Option Finding) → IsSo (min limit (length line)) o → IsFound limit given sources line o
    whole_line None none = λ earlier number date lt read. let within = read.within in none earlier number date (omega (arith, lt, within)) read
    whole_line (Some found) is = is

    pub is_found : IsFound limit given sources line (found_in limit given sources line)
    is_found = whole_line (found_in limit given sources line) (so_far (min limit (length line)) (omega arith))

-- of the bytes that are looked at
pub first_found_is : (limit : ℕ) (given : Given) (sources : List Grammar) (line : List ℕ) → IsFound limit given sources (looked_at limit line) (found limit given sources line)
unfolding found
first_found_is limit given sources line = is_found given sources (looked_at limit line) limit
