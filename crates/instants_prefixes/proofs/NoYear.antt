-- A text of ISO 8601 in which no year is read names no moment: it says no day, and none is given.
use Rattle.std.proofs.Common.{◌≡◌, ◌<◌, ◌||◌, ℕ, suc, ℤ, true, false, eqb, List, [], ◌∷◌, get_or, Option, None, Some, Ok, Err, refl, ap, arith}
use Rattle.std.specs.Prelude.{codes, option_map}
use Rattle.std.specs.Char.{is_ascii_digit}
use Rattle.std.proofs.lemmas.Bool.Decides.{nat_tests}
use Rattle.base.specs.Bytes.{hyphen, plus}
use Rattle.parsing_combinator.specs.Fault.{Fault, component, insufficient}
use Rattle.parsing_combinator.specs.Pieces.{byte_of, digits}
use Rattle.parsing_components.specs.declared.fields.Record.{Record}
use Rattle.parsing_record.specs.Record.{empty}
use Rattle.parsing_record.specs.Whole.{date_named}
use Rattle.parsing_iso8601.specs.Reading as iso8601
use Rattle.parsing_iso8601.specs.Dates as iso8601_dates
use Rattle.parsing_iso8601.specs.Times as iso8601_times
use Rattle.parsing_iso8601.specs.Offsets as iso8601_offsets
use Rattle.parsing_iso8601.specs.Numbers as iso8601_numbers
use Rattle.parsing_iso8601.specs.declared.kind.Kind.{Kind}
use Rattle.parsing_iso8601.specs.declared.kind.Kind.TheVariants.{Unknown}
use Rattle.parsing_iso8601.specs.declared.written.WrittenTime.{WrittenTime}
use Rattle.parsing_iso8601.specs.declared.written.WrittenOffset.{WrittenOffset}
use Rattle.parsing_parsable.specs.Put.{put_iso8601}
use Rattle.parsing_parsable.specs.Staged.{reads_iso8601}
use Rattle.instants_sources.specs.Grammar.{Iso8601}
use Rattle.instants_prefixes.specs.Given.{Given, completed, moment_in, moment_of}
use Rattle.instants_prefixes.specs.NoPrefix.{begins_year}
use Rattle.instants_prefixes.specs.Reading.{prefix_named, prefix_of}
use Rattle.instants_prefixes.specs.declared.kind.Kind.TheVariants as kind
use Rattle.instants_prefixes.proofs.Says.{holds}
use Rattle.instants_prefixes.proofs.NamedAlone.{days, names, undated, without_date, each_year}
use Rattle.instants_prefixes.proofs.NoneNamed.{few_digits, where_so}

no_date : (r : Record) → days r ≡ false → holds r kind.IsoWeek ≡ false → date_named r ≡ Err insufficient
no_date r day week = undated r (grind (arith, nat_tests))

-- a time of day and an offset, and no date
abbrev pub dateless : Option WrittenTime → Option WrittenOffset → Record
dateless time offset = put_iso8601 (record { date = None; time = time; offset = offset }) empty

no_moment_of : (r : Record) → r.unix_timestamp_nanos ≡ None → days r ≡ false → holds r kind.IsoWeek ≡ false → names r ≡ None
no_moment_of r unix day week = without_date r unix (no_date r day week)

no_moment : (given : Given) (year : Option ℤ) (time : Option WrittenTime) (offset : Option WrittenOffset) → moment_in given year (dateless time offset) ≡ None
no_moment given year None None = no_moment_of (completed given.offset year given.time (dateless None None)) refl refl refl
no_moment given year (Some t) None = no_moment_of (completed given.offset year given.time (dateless (Some t) None)) refl refl refl
no_moment given year None (Some o) = no_moment_of (completed given.offset year given.time (dateless None (Some o))) refl refl refl
no_moment given year (Some t) (Some o) = no_moment_of (completed given.offset year given.time (dateless (Some t) (Some o))) refl refl refl

-- nothing at all names none
pub nothing_named : (given : Given) → moment_of given given.years empty ≡ None
nothing_named given = each_year given given.years empty None (λ year known. no_moment_of (completed given.offset year given.time empty) refl refl refl)

none_of_dateless : (given : Given) (time : Option WrittenTime) (offset : Option WrittenOffset) (rest : List ℕ) → prefix_of given (Ok (dateless time offset, rest)) ≡ None
none_of_dateless given time offset rest =
    where_so _ _ (λ _. ap (option_map (λ m. (m, rest))) (each_year given given.years (dateless time offset) None (λ year known. no_moment given year time offset)))

-- where no date is read, be it that its year is
pub none_without_date : (text : List ℕ) (given : Given) (kind : Kind) (fault : Fault) → iso8601.dated text ≡ Ok ((Err fault, kind), text) → prefix_of given (reads_iso8601 empty text) ≡ None
unfolding reads_iso8601 iso8601.iso8601
none_without_date text given kind fault none = elim (iso8601_times.time kind false text) as (λ x. iso8601_times.time kind false text ≡ x → prefix_of given (reads_iso8601 empty text) ≡ None) [
  | None ↦ λ e. elim (iso8601_offsets.offset kind text) as (λ y. iso8601_offsets.offset kind text ≡ y → prefix_of given (reads_iso8601 empty text) ≡ None) [
    | None ↦ λ f. rw (none, e, f) refl
    | Some y ↦ λ f. rw (none, e, f) (none_of_dateless given None (Some y.0) y.1)
  ] refl
  | Some x ↦ λ e. elim (iso8601_offsets.offset x.0.1 x.1) as (λ y. iso8601_offsets.offset x.0.1 x.1 ≡ y → prefix_of given (reads_iso8601 empty text) ≡ None) [
    | None ↦ λ f. rw (none, e, f) (none_of_dateless given (Some x.0.0) None x.1)
    | Some y ↦ λ f. rw (none, e, f) (none_of_dateless given (Some x.0.0) (Some y.0) y.1)
  ] refl
] refl

none_without_year : (text : List ℕ) (given : Given) → iso8601_numbers.year text ≡ None → prefix_of given (reads_iso8601 empty text) ≡ None
unfolding iso8601.dated iso8601_dates.year_and_kind
none_without_year text given none = none_without_date text given Unknown (component (codes "year")) (rw none refl)

-- ---- where no year is read

-- after its first byte three digits stand, which may be a sign
pub no_year_of : (text : List ℕ) (n : ℕ) → n < 3 → is_ascii_digit (get_or text (suc n) 0) ≡ false → iso8601_numbers.year text ≡ None
unfolding iso8601_numbers.year iso8601_numbers.plain_year iso8601_numbers.signed_year byte_of digits
no_year_of [] n lt other = refl
no_year_of (c ∷ rest) n lt other = elim ((eqb c plus) || (eqb c hyphen)) as (λ b. ((eqb c plus) || (eqb c hyphen)) ≡ b → iso8601_numbers.year (c ∷ rest) ≡ None) [
  | true ↦ λ e. rw (e, few_digits rest n 6 (omega (arith, lt)) other) refl
  | false ↦ λ e. rw (e, few_digits (c ∷ rest) (suc n) 4 (omega (arith, lt)) other) refl
] refl

-- a year begins with a digit or a sign
no_year_of_first : (text : List ℕ) → begins_year (get_or text 0 0) ≡ false → iso8601_numbers.year text ≡ None
unfolding iso8601_numbers.year iso8601_numbers.plain_year byte_of digits
no_year_of_first [] none = refl
no_year_of_first (c ∷ rest) none =
    let sign : ((eqb c plus) || (eqb c hyphen)) ≡ false = grind (arith, nat_tests) in
    let digit : is_ascii_digit c ≡ false = grind (arith, nat_tests) in
    rw (sign, digit) refl

-- ---- so no moment is named

pub without_year : (text : List ℕ) (given : Given) → iso8601_numbers.year text ≡ None → prefix_named given Iso8601 text ≡ None
unfolding prefix_named
without_year text given none = none_without_year text given none

pub part_none : (text : List ℕ) → begins_year (get_or text 0 0) ≡ false → (given : Given) → prefix_named given Iso8601 text ≡ None
part_none text none given = without_year text given (no_year_of_first text none)
