-- A source that lacks a part names nothing.
use Rattle.std.proofs.Common.{◌≡◌, ◌&&◌, ◌||◌, ◌⊎◌, inl, inr, ℕ, ℤ, Bool, false, not, List, Option, Some, None, Ok, Err, refl, ap, ◌∙◌, arith}
use Rattle.std.specs.Prelude.{is_some, option_map, option_and_then, if◌then◌else◌}
use Rattle.std.specs.Option.{option_or}
use Rattle.std.proofs.lemmas.Bool.{or_parts}
use Rattle.std.proofs.lemmas.Bool.Decides.{nat_tests}
use Rattle.parsing_values.specs.declared.date_parts.YearParts.{YearParts}
use Rattle.parsing_values.specs.NamedDate.{year_of, split_year}
use Rattle.parsing_values.specs.NamedTime.{named_time}
use Rattle.parsing_record.specs.Meaning.{Answer}
use Rattle.parsing_record.specs.Parts.{date_parts, time_parts}
use Rattle.parsing_components.specs.declared.fields.Record.{Record}
use Rattle.parsing_record.specs.Record.{empty}
use Rattle.instants_sources.specs.Grammar.{Grammar, Described, Written}
use Rattle.instants_sources.specs.Written.{reads_written}
use Rattle.instants_prefixes.specs.Given.{Given, Years, Unknown, lacks_year, lacks_time, given_years, moment_in, moment_of, with_offset, with_time, completed}
use Rattle.instants_prefixes.specs.Lacks.{Lack, Year, Day, Time, Offset, may, is_known, takes_year, has_year, has_iso_year, has_day, has_date, has_time, lack}
use Rattle.instants_prefixes.specs.Reading.{prefix_named, prefix_of, is_likely}
use Rattle.instants_prefixes.specs.declared.kind.Kind.TheVariants as kind
use Rattle.instants_prefixes.proofs.Le.{Le, none_le, le_refl, le_trans, left_le, right_le, or_le, and_le, not_le, le_false}
use Rattle.instants_prefixes.proofs.Says.{holds}
use Rattle.instants_prefixes.proofs.Unread.{Holds, read_holds, none_of}
use Rattle.instants_prefixes.proofs.NamedAlone.{undated, untimed, unplaced, without_date, without_time, without_offset, each_year}
use Rattle.instants_prefixes.proofs.NoneNamed.{where_so}

-- ---- what a completed record holds

-- a value that is there was given or read
given_or_read : {A : Type 0} (o p : Option A) {a b : Bool} → Le (is_some o) a → Le (is_some p) b → Le (is_some (option_or o p)) (b || a)
given_or_read None p h k = le_trans k (left_le _ _)
given_or_read (Some x) p h k = le_trans h (right_le _ _)

filtered : (o : Option ℤ) (lacks : Bool) (p : ℤ → Bool) (f : ℤ → Option ℤ) → Le (is_some (option_and_then f (option_and_then (λ y. if lacks && p y then Some y else None) o))) (is_some o && lacks)
filtered o lacks p f = record { up = λ e. grind (arith, nat_tests) }

-- a year of ISO 8601 is given where its last two digits were read
filtered_iso : (o : Option ℤ) (lacks : Bool) (p : ℤ → Bool) (civil week : Option ℕ) → Le (is_some (option_and_then (λ y. (given_years y civil week).1) (option_and_then (λ y. if lacks && p y then Some y else None) o))) ((is_some o && lacks) && is_some week)
filtered_iso o lacks p civil week = record { up = λ e. grind (arith, nat_tests) }

year_le : (y : YearParts) → Le (is_some (year_of y)) (is_some y.year || (is_some y.century && is_some y.last_two))
unfolding year_of split_year
year_le y = record { up = λ e. grind (arith, nat_tests) }

lacks_year_le : (r : Record) → Le (lacks_year r) (not (holds r kind.Year || holds r kind.IsoYear || holds r kind.Century))
lacks_year_le r = record { up = λ e. grind (arith, nat_tests) }

lacks_time_le : (r : Record) → Le (lacks_time r) (not ((holds r kind.Hour24 || holds r kind.Hour12) || (holds r kind.Half || holds r kind.Minute) || (holds r kind.Second || holds r kind.Subsecond)))
lacks_time_le r = record { up = λ e. grind (arith, nat_tests) }

known_le : (years : Years) (year : Option ℤ) → (years ≡ Unknown → year ≡ None) → Le (is_some year) (is_known years)
known_le Unknown year known = rw (known refl) none_le
known_le _ year known = record { up = λ e. refl }

with_no_time : (time : Option ℕ) (r : Record) → (is_some time && lacks_time r) ≡ false → with_time time r ≡ r
with_no_time time r e = grind (arith, nat_tests)

with_no_offset : (offset : Option ℤ) (r : Record) → is_some offset ≡ false → is_some r.offset_hour ≡ false → is_some (with_offset offset r).offset_hour ≡ false
with_no_offset offset r e f = grind (arith, nat_tests)

-- ---- what a description lacks

module _ (given : Given) (written : Written) (r : Record) (reads : Holds written r) (plain : may kind.UnixTime written ≡ false) where
  unix : r.unix_timestamp_nanos ≡ None
  unix = none_of r.unix_timestamp_nanos (le_false (reads.may kind.UnixTime) plain)

  module _ (year : Option ℤ) (known : given.years ≡ Unknown → year ≡ None) where
    abbrev whole : Record
    whole = completed given.offset year given.time r

    takes : Le (is_some year && lacks_year r) (takes_year given written)
    takes = and_le (known_le given.years year known) (le_trans (lacks_year_le r) (not_le (or_le (or_le (reads.always kind.Year) (reads.always kind.IsoYear)) (reads.always kind.Century))))

    civil : Le (is_some (year_of (date_parts whole).year)) (has_year given written)
    civil =
        let century = le_trans (left_le (is_some r.year_century) (is_some r.iso_year_century)) (reads.may kind.Century) in
        let last_two = le_trans (left_le (is_some r.year_last_two) (is_some r.iso_year_last_two)) (reads.may kind.LastTwo) in
        le_trans (year_le _) (or_le (given_or_read _ _ (le_trans (filtered year (lacks_year r) _ _) takes) (reads.may kind.Year)) (and_le century last_two))

    iso : Le (is_some (year_of (date_parts whole).iso_year)) (has_iso_year given written)
    iso =
        let last_two = le_trans (right_le (is_some r.year_last_two) (is_some r.iso_year_last_two)) (reads.may kind.LastTwo) in
        le_trans (year_le _) (or_le (given_or_read _ _ (le_trans (filtered_iso year (lacks_year r) _ r.year_last_two r.iso_year_last_two) (and_le takes last_two)) (reads.may kind.IsoYear)) (and_le (le_trans (right_le _ _) (reads.may kind.Century)) last_two))

    undated_in : has_date given written ≡ false → moment_in given year r ≡ None
    undated_in e =
        let day = or_le (or_le (reads.may kind.Ordinal) (and_le (reads.may kind.Month) (reads.may kind.Day))) (and_le (reads.may kind.Week) (reads.may kind.Weekday)) in
        let week = and_le (reads.may kind.IsoWeek) (reads.may kind.Weekday) in
        without_date whole unix (undated whole (le_false (or_le (and_le civil day) (and_le iso week)) e))

    untimed_in : has_time given written ≡ false → moment_in given year r ≡ None
    untimed_in e =
        let parts = or_parts _ _ e in
        let lacks = le_trans (lacks_time_le r) (not_le (or_le (or_le (or_le (reads.always kind.Hour24) (reads.always kind.Hour12)) (or_le (reads.always kind.Half) (reads.always kind.Minute))) (or_le (reads.always kind.Second) (reads.always kind.Subsecond)))) in
        let same = with_no_time given.time r (le_false (and_le le_refl lacks) parts.1) in
        let hours = or_le (reads.may kind.Hour24) (and_le (reads.may kind.Hour12) (reads.may kind.Half)) in
        let gaps = or_le (and_le (reads.always kind.Second) (not_le (reads.may kind.Minute))) (and_le (reads.always kind.Subsecond) (not_le (reads.may kind.Second))) in
        without_time whole unix (λ leap. ap (λ (x : Record). named_time leap (time_parts x)) same ∙ untimed r (le_false (and_le hours (not_le gaps)) parts.0) leap)

    unplaced_in : (may kind.OffsetHour written || is_some given.offset) ≡ false → moment_in given year r ≡ None
    unplaced_in e = let parts = or_parts _ _ e in without_offset whole unix (unplaced whole (with_no_offset given.offset r parts.1 (le_false (reads.may kind.OffsetHour) parts.0)))

-- ---- the first of them

lacks_one : (unix year day iso week time offset : Bool) (what : Lack) → (if◌then◌else◌ {A = Option Lack} unix None (if not (year || iso) then Some Year else if not ((year && day) || (iso && week)) then Some Day else if not time then Some Time else if not offset then Some Offset else None)) ≡ Some what
    → (unix ≡ false) × ((((year && day) || (iso && week)) ≡ false) ⊎ ((time ≡ false) ⊎ (offset ≡ false)))
lacks_one unix year day iso week time offset what e = (grind arith, grind arith)

-- what a description reads names nothing
read_none : (given : Given) (written : Written) (text : List ℕ) (a : Answer) → reads_written written empty text ≡ a → ((r : Record) → Holds written r → moment_of given given.years r ≡ None) → prefix_of given a ≡ None
read_none given written text (Ok read) is none = where_so (is_likely read.0.unix_timestamp_nanos) _ (λ _. ap (option_map (λ m. (m, read.1))) (none read.0 (read_holds written text read is)))
read_none given written text (Err f) is none = refl

-- a source that lacks something names nothing
pub finds_nothing : (given : Given) (grammar : Grammar) (what : Lack) → lack given grammar ≡ Some what → (text : List ℕ) → prefix_named given grammar text ≡ None
unfolding prefix_named lack
finds_nothing given (Described written) what e text =
    let one = lacks_one (may kind.UnixTime written) (has_year given written) (has_day written) (has_iso_year given written) (may kind.IsoWeek written && may kind.Weekday written) (has_time given written) (may kind.OffsetHour written || is_some given.offset) what e in
    read_none given written text (reads_written written empty text) refl (λ r reads. each_year given given.years r None (λ year known.
    elim one.1 [
      | inl date ↦ undated_in given written r reads one.0 year known date
      | inr later ↦ elim later [ inl time ↦ untimed_in given written r reads one.0 year known time | inr offset ↦ unplaced_in given written r reads one.0 year known offset ]
    ]))
finds_nothing given _ what e text = absurd cc
