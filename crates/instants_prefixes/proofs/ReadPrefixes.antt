-- What sources read from a record without any field, and what it names with what is given.
use Rattle.std.proofs.Common.{◌≡◌, ℕ, ℤ, pos, Bool, true, false, List, [], ◌∷◌, get_or, Option, Some, None, Ok, refl, sym, ap, ◌∙◌, arith}
use Rattle.std.specs.Prelude.{int_div, int_rem, if◌then◌else◌}
use Rattle.std.specs.Result.{result_ok}
use Rattle.std.specs.Char.{is_ascii_digit}
use Rattle.std.proofs.lemmas.Bool.Decides.{nat_tests}
use Rattle.datetime_wall.specs.Wall.{Shown}
use Rattle.description_items.specs.Modern.{modern}
use Rattle.parsing_combinator.specs.Pieces.{digits}
use Rattle.parsing_parsable.specs.Staged.{reads_rfc3339}
use Rattle.parsing_rfc3339.specs.Reading as rfc3339
use Rattle.parsing_record.specs.Prefix.{NamesPrefix, beginning}
use Rattle.parsing_record.specs.Meaning.{Answer, Meaning}
use Rattle.parsing_components.specs.declared.fields.Record.{Record}
use Rattle.parsing_record.specs.Record.{empty}
use Rattle.parsing_record.specs.Whole.{moment_named}
use Rattle.instants_sources.specs.Grammar.{Described, Rfc3339, Written}
use Rattle.instants_sources.specs.Written.{reads_written}
use Rattle.instants_prefixes.specs.Given.{Given, moment_of, completed, lacks_year, lacks_time}
use Rattle.instants_prefixes.specs.Kinds.{is_newer}
use Rattle.instants_prefixes.specs.Reading.{record_of, prefix_of, prefix_named, written_has}
use Rattle.instants_prefixes.specs.declared.kind.Kind.TheVariants as kind
use Rattle.instants_prefixes.proofs.Unread.{read_placed, timeless, none_said_by}
use Rattle.instants_prefixes.proofs.NamedAlone.{names, named_given, each_year, has_parts}
use Rattle.instants_prefixes.proofs.Told.{placed}

-- the prefix of a record without Unix time
by_record : (given : Given) (a : Answer) (set : Record) (rest : List ℕ) (moment : Shown) → a ≡ Ok (set, rest) → (record_of a).unix_timestamp_nanos ≡ None → (set.unix_timestamp_nanos ≡ None → moment_of given given.years set ≡ Some moment) → prefix_of given a ≡ Some (moment, rest)
by_record given a set rest moment is plain named =
    let unix : set.unix_timestamp_nanos ≡ None = rw is at plain in
    rw (is, named unix, unix) refl

-- a prefix that names a moment names it with anything given
named_whatever : (given : Given) (m : Meaning) (text rest : List ℕ) (moment : Shown) → (record_of (m empty text)).unix_timestamp_nanos ≡ None → NamesPrefix m empty text rest moment → prefix_of given (m empty text) ≡ Some (moment, rest)
named_whatever given m text rest moment plain prefix = by_record given (m empty text) prefix.set rest moment prefix.reads plain (λ unix. named_given given given.years prefix.set moment prefix.names)

-- ---- with an offset in the record from the start

abbrev pub hour_of : ℤ → ℤ
hour_of offset = int_div offset (pos 3600)

abbrev pub minute_of : ℤ → ℤ
minute_of offset = int_rem (int_div offset (pos 60)) (pos 60)

-- it may come after the reading
completed_placed : (given : Given) (offset : ℤ) (year : Option ℤ) (r : Record) → given.offset ≡ Some offset → r.offset_hour ≡ None → lacks_year r ≡ false → lacks_time r ≡ false → completed given.offset year given.time r ≡ placed (Some (hour_of offset)) (Some (minute_of offset)) r
completed_placed given offset year r is none date clock = grind (arith, nat_tests)

pub placed_named : (given : Given) (offset : ℤ) (r : Record) (moment : Shown) → given.offset ≡ Some offset → r.offset_hour ≡ None → moment_named (placed (Some (hour_of offset)) (Some (minute_of offset)) r) ≡ Ok moment → r.unix_timestamp_nanos ≡ None → moment_of given given.years r ≡ Some moment
placed_named given offset r moment is none e unix =
    let has = has_parts (placed (Some (hour_of offset)) (Some (minute_of offset)) r) moment unix e in
    each_year given given.years r (Some moment) (λ year known. ap names (completed_placed given offset year r is none has.date has.time) ∙ ap result_ok e)

-- ---- what a plan finds

-- it is given an offset where a description reads no part of one
pub planned_named : (given : Given) (written : Written) (text rest : List ℕ) (moment : Shown) (part : Bool) (assumed : Option ℤ) → written_has true (λ c. is_newer (modern c) kind.OffsetPart) written ≡ part → written_has true (λ c. is_newer (modern c) kind.UnixTime) written ≡ false
    → assumed ≡ (if part then None else given.offset) → NamesPrefix (reads_written written) (beginning assumed) text rest moment → prefix_named given (Described written) text ≡ Some (moment, rest)
unfolding prefix_named
planned_named given written text rest moment part None stands plain is names = named_whatever given (reads_written written) text rest moment (timeless (Described written) plain text) names
planned_named given written text rest moment true (Some offset) stands plain is names = absurd cc
planned_named given written text rest moment false (Some offset) stands plain is names =
    let read = read_placed written (Some (hour_of offset)) (Some (minute_of offset)) text rest names.set (none_said_by written text stands) names.reads in
    by_record given (reads_written written empty text) read.plain rest moment read.reads (timeless (Described written) plain text)
    (placed_named given offset read.plain moment (sym is) read.none (ap moment_named (sym read.is) ∙ names.names))

-- ---- RFC 3339

pub rfc3339_prefix : (given : Given) (text rest : List ℕ) (moment : Shown) → NamesPrefix reads_rfc3339 empty text rest moment → prefix_named given Rfc3339 text ≡ Some (moment, rest)
unfolding prefix_named
rfc3339_prefix given text rest moment prefix = named_whatever given reads_rfc3339 text rest moment (timeless Rfc3339 refl text) prefix
