-- The date that is made of what a source reads at a place.
use Rattle.std.proofs.Common.{◌≡◌, ◌<◌, ◌≤◌, ◌+◌, ℕ, ℤ, Bool, true, false, List, ◌-◌, length, drop, get_or, map, Option, Some, None, refl, sym, ap, subst, ◌∙◌, inl, inr, arith, length-drop, min}
use Rattle.std.specs.Prelude.{IfSome, option_and_then, option_map, if◌then◌else◌}
use Rattle.std.proofs.lemmas.List.{length-take}
use Rattle.std.proofs.lemmas.Option.{slice_get-map, slice_get_read, slice_get_cases}
use Rattle.datetime_wall.specs.Wall.{Shown}
use Rattle.instants_sources.specs.Grammar.{Grammar}
use Rattle.instants_prefixes.proofs.PrefixesAt.{prefix_within}
use Rattle.instants_prefixes.proofs.Windows.{text_within}
use Rattle.instants_prefixes.specs.DateSource.{grammar_in}
use Rattle.instants_prefixes.specs.NoPrefix.{HasNoPrefix}
use Rattle.instants_prefixes.specs.Prefix.{prefix_at, prefix_in}
use Rattle.instants_prefixes.specs.Reading.{text_for, prefix_named}
use Rattle.instants_prefixes.specs.declared.date_source.DateSource.{DateSource}
use Rattle.instants_prefixes.specs.declared.given.Given.{Given}
use Rattle.instants_prefixes.specs.declared.prefix.Prefix.{Prefix}
use Rattle.instants_prefixes.specs.Reading.{record_at}
use Rattle.std.specs.Borrow.{Bor}
use Rattle.zones_clock.specs.declared.zone.Zone.{Zone}
use Rattle.instants_found.specs.Zoned.{settled_by, takes_offset, unmoved}
use Rattle.instants_found.specs.declared.zoned.Settled.{Settled}
use Rattle.instants_found.proofs.ZonedLemmas.{settled_moves}
use Rattle.instants_found.specs.Beside.{is_read, settled_at, why}
use Rattle.instants_found.specs.Candidate.{as_candidate, candidate_with, of_prefix, candidate, read_by}
use Rattle.instants_found.specs.declared.candidate.Candidate.{Candidate}
use Rattle.instants_found.specs.declared.doubt.Doubt.{Doubt}
use Rattle.instants_prefixes.proofs.NotEmpty.{prefix_later}

module _ (given : Given) (line : List ℕ) (start number : ℕ) (grammar : Grammar) where
  pub no_candidate : HasNoPrefix (drop start line) grammar → candidate given line start number grammar ≡ None
  unfolding candidate prefix_at
  no_candidate none = rw (none given) refl

  pub unread : None ≡ prefix_at given grammar (drop start line) → None ≡ candidate given line start number grammar
  unfolding candidate
  unread e = ap (of_prefix given line start number grammar) e

  pub by_read : (prefix : Prefix) (b : Bool) → Some prefix ≡ prefix_at given grammar (drop start line) → b ≡ is_read grammar line start prefix
      → (if b then Some (as_candidate given line start number grammar (settled_at given grammar line start prefix)) else None) ≡ candidate given line start number grammar
  unfolding candidate
  by_read prefix b e read =
      ap (λ (t : Bool). if t then Some (as_candidate given line start number grammar (settled_at given grammar line start prefix)) else None) read ∙ ap (of_prefix given line start number grammar) e

  pub made : (prefix : Prefix) (date : Settled) (doubt : Option Doubt) → Some prefix ≡ prefix_at given grammar (drop start line) → true ≡ is_read grammar line start prefix → date ≡ settled_at given grammar line start prefix
      → doubt ≡ why given grammar line start date → Some (candidate_with line start number date.prefix doubt) ≡ candidate given line start number grammar
  made prefix date doubt e read settles is =
      ap (λ (o : Option Doubt). Some (candidate_with line start number date.prefix o)) is ∙ ap (λ (d : Settled). Some (as_candidate given line start number grammar d)) settles ∙ by_read prefix true e read

-- no zone moves a date that takes no offset
stays : (zone : Option (Bor Zone)) (offset : Option ℤ) (takes : Bool) (line : List ℕ) (start : ℕ) (prefix : Prefix) → takes ≡ false → settled_by zone offset takes line start prefix ≡ unmoved offset prefix
stays None offset takes line start prefix e = refl
stays (Some zone) offset false line start prefix e = refl
stays (Some zone) offset true line start prefix e = absurd cc

pub unmoved_candidate : (given : Given) (line : List ℕ) (start number : ℕ) (grammar : Grammar) (prefix : Prefix) → takes_offset (record_at grammar (drop start line)) ≡ false
    → as_candidate given line start number grammar (settled_at given grammar line start prefix) ≡ as_candidate given line start number grammar (unmoved given.offset prefix)
unmoved_candidate given line start number grammar prefix e = ap (λ (date : Settled). as_candidate given line start number grammar date) (stays given.zone given.offset _ line start prefix e)

-- what the source of a number reads
pub by_source : (given : Given) (line : List ℕ) (start : ℕ) (sources : List DateSource) (number : ℕ) (source : DateSource) → number < length sources → source ≡ get_or sources number source
    → read_by given (map grammar_in sources) line start number ≡ candidate given line start number (grammar_in source)
by_source given line start sources number source within is =
    ap (option_and_then (candidate given line start number)) (slice_get-map grammar_in sources number ∙ ap (option_map grammar_in) (slice_get_read sources (length sources) number source refl within is))

-- ---- where it lies

-- a date that is read at a place begins and ends within so many bytes from there on; it has a byte at least, and its source is the one that reads it
pub record LiesBy (start number many : ℕ) (date : Candidate) : Type 0 where
  pub start_near : date.date.start ≤ start + many
  pub end_near : date.date.end ≤ start + many
  pub later : date.date.start < date.date.end
  pub source : date.date.source ≡ number

abbrev Lies : List ℕ → Prefix → Type 0
Lies text prefix = (prefix.begins ≤ length text) × (prefix.zone ≤ length text) × (prefix.begins < prefix.zone)

prefix_in_lies : (given : Given) (grammar : Grammar) (text : List ℕ) (named : Option (Shown × List ℕ)) → named ≡ prefix_named given grammar text → IfSome (prefix_in grammar text named) (Lies text)
prefix_in_lies given grammar text None e = tt
prefix_in_lies given grammar text (Some (moment, rest)) e = let within = prefix_within grammar text moment rest in (within.begins, within.zone, prefix_later given grammar text rest moment e)

lies_of : (given : Given) (line : List ℕ) (start number many : ℕ) (grammar : Grammar) (text : List ℕ) (o : Option Prefix) → length text ≤ many → IfSome o (Lies text) → IfSome (of_prefix given line start number grammar o) (LiesBy start number many)
lies_of given line start number many grammar text None le lies = tt
lies_of given line start number many grammar text (Some prefix) le lies =
    elim (is_read grammar line start prefix) as (λ b. IfSome (if b then Some (as_candidate given line start number grammar (settled_at given grammar line start prefix)) else None) (LiesBy start number many)) [
      | true ↦
          let (begins, zone, later) = settled_moves (Lies text) prefix (λ offset. lies) lies given.zone given.offset (takes_offset (record_at grammar (drop start line))) line start in
          record { start_near = omega (arith, begins, le); end_near = omega (arith, zone, le); later = omega (arith, later); source = refl }
      | false ↦ tt
    ]

lies_by : (given : Given) (line : List ℕ) (start number many : ℕ) (grammar : Grammar) → length (text_for grammar (drop start line)) ≤ many → IfSome (candidate given line start number grammar) (LiesBy start number many)
unfolding candidate prefix_at
lies_by given line start number many grammar le =
    let text = text_for grammar (drop start line) in
    lies_of given line start number many grammar text _ le (prefix_in_lies given grammar text (prefix_named given grammar text) refl)

-- within the window and the line
pub lies_near : (given : Given) (sources : List Grammar) (line : List ℕ) (start number : ℕ) (date : Candidate) → read_by given sources line start number ≡ Some date
    → LiesBy start number (min 256 (length line - start)) date × (number < length sources)
lies_near given sources line start number date e =
    let reads_by : Option Grammar → Option Candidate = option_and_then (candidate given line start number) in
    elim (slice_get_cases sources number).1 [
      | inl (grammar, lt, is, there) ↦
          let reads : candidate given line start number grammar ≡ Some date = sym (ap reads_by is) ∙ e in
          let near : length (text_for grammar (drop start line)) ≤ min 256 (length line - start) =
          omega (arith, text_within grammar (drop start line), length-take 256 (drop start line), length-drop start line) in
          let P : Option Candidate → Type 0 = λ o. IfSome o (LiesBy start number (min 256 (length line - start))) in
          (subst P reads (lies_by given line start number (min 256 (length line - start)) grammar near), lt)
      | inr (past, is) ↦ let none : None ≡ Some date = sym (ap reads_by is) ∙ e in absurd cc
    ]
