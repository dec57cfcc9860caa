-- What is in doubt at the place where the line's date is.
use Rattle.std.proofs.Common.{map, get_or, ◌≡◌, ◌<◌, ◌≤◌, ℕ, Bool, true, false, List, length, Option, Some, None, refl, sym, ap, ◌∙◌, subst, arith}
use Rattle.std.specs.Prelude.{option_and_then, if◌then◌else◌}
use Rattle.std.specs.Option.{is_none}
use Rattle.std.proofs.lemmas.List.{length-map}
use Rattle.std.proofs.lemmas.Option.{slice_get_past}
use Rattle.instants_prefixes.specs.DateSource.{grammar_in}
use Rattle.instants_prefixes.specs.declared.date_source.DateSource.{DateSource}
use Rattle.instants_sources.specs.Grammar.{Grammar}
use Rattle.instants_prefixes.specs.declared.given.Given.{Given}
use Rattle.instants_found.specs.Candidate.{candidate, read_by, is_whole}
use Rattle.instants_found.specs.Doubts.{doubted, doubt_of, HasDoubt}
use Rattle.instants_found.specs.Found.{found, looked_at}
use Rattle.instants_found.specs.IsFound.{IsFound}
use Rattle.instants_found.specs.declared.candidate.Candidate.{Candidate}
use Rattle.instants_found.specs.declared.doubt.Doubt.{Doubt}
use Rattle.instants_found.specs.declared.doubt.Doubted.{Doubted}
use Rattle.instants_found.specs.declared.found.Finding.{Finding}
use Rattle.instants_found.specs.declared.found.Finding.TheVariants.{Doubtful, There}
use Rattle.instants_found.proofs.FirstFound.{first_found_is}
use Rattle.instants_found.proofs.ReadAt.{by_source}

-- a date that does not stand whole has a doubt
some_doubt : (one : Candidate) (doubt : Option Doubt) → one.doubt ≡ doubt → is_none doubt ≡ false → (date : Doubted) × (doubted (Some one) ≡ Some date)
some_doubt one None e whole = absurd cc
some_doubt one (Some doubt) e whole = (record { start = one.date.start; end = one.date.end; doubt = doubt }, rw e refl)

doubtful_is : (place at : ℕ) (one : Candidate) (b : Bool) → Doubtful place ≡ (if b then There one.date else Doubtful at) → (at ≡ place) × (b ≡ false)
doubtful_is place at one true e = absurd cc
doubtful_is place at one false e = (cc, refl)

pub has_doubt : (limit : ℕ) (given : Given) (sources : List Grammar) (line : List ℕ) (place : ℕ) → found limit given sources line ≡ Some (Doubtful place) → HasDoubt limit given sources line place
unfolding doubt_of
has_doubt limit given sources line place e =
    let P : Option Finding → Type 0 = λ o. IsFound limit given sources (looked_at limit line) o in
    let (at, one, long, is) = subst P e (first_found_is limit given sources line) in
    let (same, whole) = doubtful_is place at one (is_whole one) is in
    let (date, doubt) = some_doubt one one.doubt refl whole in
    (long.number, date, ap (λ (n : ℕ). doubted (read_by given sources (looked_at limit line) n long.number)) (sym same) ∙ ap doubted long.here.reads ∙ doubt)

-- ---- by one source

module _ (limit : ℕ) (given : Given) (sources : List DateSource) (line : List ℕ) (place number : ℕ) where
  pub no_source : length sources ≤ number → None ≡ doubt_of limit given (map grammar_in sources) line place number
  unfolding doubt_of
  no_source past =
      let none = slice_get_past (map grammar_in sources) number (omega (arith, length-map sources grammar_in, past)) in
      sym (ap (λ (o : Option Grammar). doubted (option_and_then (candidate given (looked_at limit line) place number) o)) none)

  pub doubt_here : (source : DateSource) → number < length sources → source ≡ get_or sources number source
      → doubted (candidate given (looked_at limit line) place number (grammar_in source)) ≡ doubt_of limit given (map grammar_in sources) line place number
  unfolding doubt_of
  doubt_here source within is = ap doubted (sym (by_source given (looked_at limit line) place sources number source within is))
