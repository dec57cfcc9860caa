-- The longest of the dates that sources read at one place, source by source.
use Rattle.std.proofs.Common.{◌≡◌, ◌<◌, ◌≤◌, ◌⊎◌, inl, inr, ◌+◌, ℕ, zero, suc, Bool, true, false, List, length, drop, get_or, map, Option, Some, None, refl, sym, ap, subst, arith}
use Rattle.std.specs.Prelude.{slice_get, option_and_then, nat_le, not, ◌&&◌, IfSome, if◌then◌else◌}
use Rattle.std.proofs.lemmas.Bool.{cases_lt}
use Rattle.std.proofs.lemmas.Bool.Decides.{nat_tests}
use Rattle.instants_prefixes.specs.DateSource.{grammar_in}
use Rattle.instants_prefixes.specs.NoPrefix.{HasNoPrefix}
use Rattle.instants_prefixes.specs.declared.date_source.DateSource.{DateSource}
use Rattle.instants_prefixes.specs.declared.given.Given.{Given}
use Rattle.instants_sources.specs.Grammar.{Grammar}
use Rattle.instants_found.specs.Candidate.{candidate, read_by, longer, longest, is_whole}
use Rattle.instants_found.specs.IsFound.{IsNoShorter}
use Rattle.instants_found.specs.Starts.{HaveNoPrefix}
use Rattle.instants_found.specs.declared.candidate.Candidate.{Candidate}
use Rattle.instants_found.proofs.ReadAt.{no_candidate, by_source}

-- ---- one source more

-- what one source more reads, or not
pub one_more : (given : Given) (line : List ℕ) (start : ℕ) (sources : List DateSource) (number : ℕ) (source : DateSource) (best o : Option Candidate) → number < length sources → source ≡ get_or sources number source
    → best ≡ longest given (map grammar_in sources) line start number → o ≡ candidate given line start number (grammar_in source) → longer best o ≡ longest given (map grammar_in sources) line start (number + 1)
unfolding longest
one_more given line start sources number source best o within is so_far reads =
    let next : suc number ≡ number + 1 = omega arith in
    rw (so_far, reads, sym (by_source given line start sources number source within is)) (ap (longest given (map grammar_in sources) line start) next)

-- a date after none
pub alone : (o : Option Candidate) → o ≡ longer None o
alone None = refl
alone (Some one) = refl

reads_none : (given : Given) (line : List ℕ) (start number : ℕ) (o : Option Grammar) → IfSome o (HasNoPrefix (drop start line)) → option_and_then (candidate given line start number) o ≡ None
reads_none given line start number None none = refl
reads_none given line start number (Some grammar) none = no_candidate given line start number grammar none

-- sources that read nothing change nothing
pub none_after : (given : Given) (line : List ℕ) (start : ℕ) (sources : List Grammar) (from to : ℕ) → from ≤ to → HaveNoPrefix (drop start line) sources from → longest given sources line start to ≡ longest given sources line start from
unfolding longest
none_after given line start sources from zero le none = let same : 0 ≡ from = omega (arith, le) in ap (longest given sources line start) same
none_after given line start sources from (suc n) le none =
    elim (cases_lt n from) [
      | inl lt ↦ let same : suc n ≡ from = omega (arith, lt, le) in ap (longest given sources line start) same
      | inr ge ↦ rw (reads_none given line start n (slice_get sources n) (none n ge)) (none_after given line start sources from n ge none)
    ]

-- ---- none is longer than the longest

whole_or_longer : (one best : Bool) (x y : ℕ) → (one && not (best && nat_le x y)) ≡ true → (one ≡ true) × (best ≡ true → y < x)
whole_or_longer true best x y e = (refl, λ whole. grind (arith, nat_tests))
whole_or_longer false best x y e = absurd cc

not_longer : (one best : Bool) (x y : ℕ) → (one && not (best && nat_le x y)) ≡ false → one ≡ true → (best ≡ true) × (x ≤ y)
not_longer true true x y e whole = (refl, grind (arith, nat_tests))
not_longer true false x y e whole = absurd cc
not_longer false best x y e whole = absurd cc

no_later : (x y number later : ℕ) → x ≤ y → number ≤ later → (x < y) ⊎ ((x ≡ y) × (number ≤ later))
no_later x y number later le few = elim (cases_lt x y) [ inl lt ↦ inl lt | inr ge ↦ inr (omega (arith, le, ge), few) ]

at_most : (x y number later : ℕ) → (x < y) ⊎ ((x ≡ y) × (number ≤ later)) → x ≤ y
at_most x y number later (inl lt) = omega (arith, lt)
at_most x y number later (inr (same, few)) = omega (arith, same)

module _ (given : Given) (sources : List Grammar) (line : List ℕ) (start : ℕ) where
  abbrev reads : ℕ → Option Candidate
  reads number = read_by given sources line start number

  -- so it is of all dates that the first so many sources read
  abbrev Each : ℕ → (ℕ → Candidate → Type 0) → Type 0
  Each count P = (other : Candidate) (later : ℕ) → later < count → reads later ≡ Some other → P later other

  -- one of them is no shorter than any
  pub record IsBest (count : ℕ) (date : Candidate) : Type 0 where
    pub number : ℕ
    pub few : number < count
    pub read : reads number ≡ Some date
    pub best : Each count (IsNoShorter number date)

  abbrev pub IsBestOf : ℕ → Option Candidate → Type 0
  IsBestOf count None = (other : Candidate) (later : ℕ) → later < count → reads later ≡ Some other → ⊥
  IsBestOf count (Some date) = IsBest count date

  one_each : (n : ℕ) (P : ℕ → Candidate → Type 0) → Each n P → ((other : Candidate) → reads n ≡ Some other → P n other) → Each (suc n) P
  one_each n P before here = λ other later lt read.
      elim (cases_lt later n) [
        | inl low ↦ before other later low read
        | inr high ↦
            let same : n ≡ later = omega (arith, lt, high) in
            let Q : ℕ → Type 0 = λ k. reads k ≡ Some other → P k other in
            subst Q same (here other) read
      ]

  the_one : (n : ℕ) (one : Candidate) (P : Candidate → Type 0) → reads n ≡ Some one → P one → (other : Candidate) → reads n ≡ Some other → P other
  the_one n one P e here other read = let same : one ≡ other = cc in subst P same here

  -- the date of the last source is the longest
  taken : (n : ℕ) (one : Candidate) → reads n ≡ Some one → Each n (IsNoShorter n one) → IsBest (suc n) one
  taken n one e before = record {
    number = n;
    few = omega arith;
    read = e;
    best = one_each n (IsNoShorter n one) before (the_one n one (IsNoShorter n one n) e (λ whole. (whole, inr (refl, omega arith))));
  }

  -- or the one before stays it
  stays : (n : ℕ) (date : Candidate) (it : IsBest n date) → ((other : Candidate) → reads n ≡ Some other → IsNoShorter it.number date n other) → IsBest (suc n) date
  stays n date it here = record { number = it.number; few = omega (arith, it.few); read = it.read; best = one_each n (IsNoShorter it.number date) it.best here }

  either : (n : ℕ) (date one : Candidate) (b : Bool) → reads n ≡ Some one → IsBest n date → (is_whole one && not (is_whole date && nat_le one.reach date.reach)) ≡ b → IsBest (suc n) (if b then one else date)
  either n date one true e it test =
      taken n one e (λ other later lt read whole.
      let long = whole_or_longer (is_whole one) (is_whole date) one.reach date.reach test in
      let (standing, less) = it.best other later lt read whole in
      let most = at_most other.reach date.reach it.number later less in
      let more = long.1 standing in
      (long.0, inl (omega (arith, most, more))))
  either n date one false e it test =
      stays n date it (the_one n one (IsNoShorter it.number date n) e (λ whole.
      let (standing, le) = not_longer (is_whole one) (is_whole date) one.reach date.reach test whole in
      (standing, no_later one.reach date.reach it.number n le (omega (arith, it.few)))))

  if_some : (b : Bool) (one date : Candidate) (count : ℕ) → IsBest count (if b then one else date) → IsBestOf count (if b then Some one else Some date)
  if_some true one date count it = it
  if_some false one date count it = it

  step : (n : ℕ) (best o : Option Candidate) → IsBestOf n best → reads n ≡ o → IsBestOf (suc n) (longer best o)
  step n None None none e = one_each n (λ later other. ⊥) none (λ other read. absurd cc)
  step n (Some date) None it e = stays n date it (λ other read. absurd cc)
  step n None (Some one) none e = taken n one e (λ other later lt read. absurd (none other later lt read))
  step n (Some date) (Some one) it e = if_some _ one date (suc n) (either n date one _ e it refl)

  pub best_of : (count : ℕ) → IsBestOf count (longest given sources line start count)
  unfolding longest
  best_of zero = λ other later lt read. absurd (omega (arith, lt))
  best_of (suc n) = step n (longest given sources line start n) (reads n) (best_of n) refl
