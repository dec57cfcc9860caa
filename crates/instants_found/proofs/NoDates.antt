-- Places at which no date begins.
use Rattle.std.proofs.Common.{◌≡◌, ◌<◌, ◌≤◌, ◌+◌, ℕ, zero, suc, Bool, true, false, List, [], ◌∷◌, length, get_or, drop, Option, Some, None, refl, sym, ◌∙◌, ap, subst, inl, inr, arith}
use Rattle.std.specs.Prelude.{All, option_map, if◌then◌else◌}
use Rattle.std.specs.Option.{option_or}
use Rattle.std.proofs.lemmas.Bool.{cases_lt}
use Rattle.std.proofs.lemmas.List.{get_or-drop}
use Rattle.std.proofs.lemmas.List.Elements.{All-weaker}
use Rattle.std.proofs.lemmas.Option.{slice_get_cases}
use Rattle.instants_edges.specs.Edge.{is_edge}
use Rattle.instants_prefixes.specs.declared.given.Given.{Given}
use Rattle.instants_prefixes.specs.NoPrefix.{HasNoPrefix}
use Rattle.instants_sources.specs.Grammar.{Grammar}
use Rattle.instants_found.specs.Candidate.{longest}
use Rattle.instants_found.specs.Found.{at_place, finding, first_found}
use Rattle.instants_found.specs.Starts.{CannotStand, AreMarked, HaveNoPrefix, IsNoDate, HasNoDate}
use Rattle.instants_found.specs.declared.found.Finding.{Finding}
use Rattle.instants_found.proofs.Longest.{none_after}

-- ---- one place

if_edge : {A : Type 0} (b : Bool) (x : Option A) → x ≡ None → (if b then x else None) ≡ None
if_edge true x h = h
if_edge false x h = refl

-- no source reads a prefix there
pub none_there : (sources : List Grammar) (line : List ℕ) (start : ℕ) → HaveNoPrefix (drop start line) sources 0 → IsNoDate sources line start
unfolding at_place longest
none_there sources line start none = λ given. if_edge (is_edge line start) _ (ap (option_map (finding start)) (none_after given line start sources 0 (length sources) (omega arith) none))

pub no_prefix_there : (sources : List Grammar) (line : List ℕ) (start : ℕ) → All (HasNoPrefix (drop start line)) sources → IsNoDate sources line start
no_prefix_there sources line start none =
    none_there sources line start (λ number le.
    elim (slice_get_cases sources number).1 [
      | inl (grammar, lt, is, there) ↦ rw is (let P : Grammar → Type 0 = HasNoPrefix (drop start line) in subst P there (none number grammar lt))
      | inr (past, is) ↦ rw is tt
    ])

-- no source reads a date that begins with the byte there
pub none_starts : (sources : List Grammar) (starts : List Bool) (line : List ℕ) (start : ℕ) → AreMarked 0 sources starts → get_or starts (get_or line start 0) true ≡ false → IsNoDate sources line start
none_starts sources starts line start are none =
    let first : get_or (drop start line) 0 0 ≡ get_or line start 0 = get_or-drop start line 0 0 ∙ ap (λ (n : ℕ). get_or line n 0) (omega arith) in
    no_prefix_there sources line start (All-weaker (CannotStand 0 (get_or line start 0)) (HasNoPrefix (drop start line)) (λ grammar cannot. cannot (drop start line) first) sources (are (get_or line start 0) none))

-- the place is inside a word
pub none_inside : (sources : List Grammar) (line : List ℕ) (start : ℕ) → is_edge line start ≡ false → IsNoDate sources line start
unfolding at_place
none_inside sources line start e = λ given. rw e refl

-- ---- places one after the other

pub none_more : (sources : List Grammar) (line : List ℕ) (from mid to : ℕ) → HasNoDate sources line from mid → HasNoDate sources line mid to → HasNoDate sources line from to
none_more sources line from mid to first second = λ place low high. elim (cases_lt place mid) [ inl lt ↦ first place low lt | inr le ↦ second place le high ]

pub none_here : (sources : List Grammar) (line : List ℕ) (from : ℕ) → IsNoDate sources line from → HasNoDate sources line from (from + 1)
none_here sources line from none = λ place low high. let same : from ≡ place = omega (arith, low, high) in let P : ℕ → Type 0 = λ n. IsNoDate sources line n in subst P same none

-- ---- the first place at which something is found

module _ (given : Given) (sources : List Grammar) (line : List ℕ) where
  abbrev pub NoneUpTo : ℕ → Type 0
  NoneUpTo place = first_found given sources line place ≡ None

  pub none_next : (place : ℕ) → NoneUpTo place → None ≡ at_place given sources line place → NoneUpTo (place + 1)
  unfolding first_found
  none_next place none here = let next : place + 1 ≡ suc place = omega arith in rw (next, none) (sym here)

  pub none_further : (from to : ℕ) → from ≤ to → NoneUpTo from → HasNoDate sources line from to → NoneUpTo to
  unfolding first_found
  none_further from zero le none after = refl
  none_further from (suc n) le none after =
      elim (cases_lt n from) [
        | inl lt ↦ let same : from ≡ suc n = omega (arith, lt, le) in subst NoneUpTo same none
        | inr ge ↦ rw (none_further from n ge none (λ place low high. after place low (omega (arith, high)))) (after n ge (omega arith) given)
      ]

  none_first : (first other : Option Finding) → option_or first other ≡ None → first ≡ None
  none_first None other none = refl
  none_first (Some date) other none = absurd cc

  pub none_earlier : (from to : ℕ) → from ≤ to → NoneUpTo to → NoneUpTo from
  unfolding first_found
  none_earlier from zero le none = let same : 0 ≡ from = omega (arith, le) in subst NoneUpTo same refl
  none_earlier from (suc n) le none =
      elim (cases_lt n from) [
        | inl lt ↦ let same : suc n ≡ from = omega (arith, lt, le) in subst NoneUpTo same none
        | inr ge ↦ none_earlier from n ge (none_first (first_found given sources line n) (at_place given sources line n) none)
      ]

  pub found_here : (place to : ℕ) (date : Finding) → place < to → NoneUpTo place → Some date ≡ at_place given sources line place → Some date ≡ first_found given sources line to
  unfolding first_found
  found_here place zero date lt none here = absurd (omega (arith, lt))
  found_here place (suc n) date lt none here =
      elim (cases_lt place n) [
        | inl low ↦ rw (sym (found_here place n date low none here)) refl
        | inr high ↦ let same : place ≡ n = omega (arith, lt, high) in rw (← same, none) here
      ]

-- within a table it is no matter what stands after it
pub either_default : (xs : List Bool) (i : ℕ) → i < length xs → get_or xs i true ≡ get_or xs i false
either_default [] i lt = absurd (omega (arith, lt))
either_default (x ∷ xs) zero lt = refl
either_default (x ∷ xs) (suc i) lt = either_default xs i (omega (arith, lt))
