-- A line without an offset that names a moment with an assumed one names it as a prefix too.
use Rattle.std.proofs.Common.{◌≡◌, ◌∙◌, ◌==◌, ◌||◌, ℕ, ℤ, Bool, true, false, List, [], ◌∷◌, length, Option, Some, None, Result, Ok, Err, refl, sym, ap, arith}
use Rattle.std.proofs.Math.Bool.{or-false}
use Rattle.std.proofs.lemmas.Bool.Decides.{nat_tests}
use Rattle.datetime_wall.specs.Wall.{Shown}
use Rattle.parsing_combinator.specs.Fault.{Fault}
use Rattle.parsing_combinator.specs.Readings.{give, then_read}
use Rattle.parsing_components.specs.Put.{put}
use Rattle.parsing_components.specs.declared.fields.Record.{Record}
use Rattle.parsing_components.specs.declared.said.Read.{Read}
use Rattle.parsing_record.specs.Meaning.{Answer}
use Rattle.parsing_record.specs.Record.{empty}
use Rattle.parsing_record.specs.Whole.{all_read, moment_named, names, whole}
use Rattle.parsing_iso8601.specs.Reading as iso8601
use Rattle.parsing_iso8601.specs.declared.written.Iso8601Parts.{Iso8601Parts}
use Rattle.parsing_iso8601.specs.declared.written.WrittenDate.{WrittenDate}
use Rattle.parsing_iso8601.specs.declared.written.WrittenDate.TheVariants.{OfMonth, OfYear, OfWeek}
use Rattle.parsing_iso8601.specs.declared.written.WrittenOffset.{WrittenOffset}
use Rattle.parsing_iso8601.specs.declared.written.WrittenTime.{WrittenTime}
use Rattle.parsing_rfc2822.specs.Reading as rfc2822
use Rattle.parsing_rfc3339.specs.Reading as rfc3339
use Rattle.parsing_parsable.specs.Put.{put_iso8601, put_rfc2822, put_rfc3339}
use Rattle.parsing_parsable.specs.Staged.{reads_iso8601, reads_rfc2822, reads_rfc3339}
use Rattle.instants_sources.specs.Grammar.{Grammar, Described, Iso8601, Rfc2822, Rfc3339}
use Rattle.instants_sources.specs.Reading.{reading_of}
use Rattle.instants_sources.specs.Written.{reads_written}
use Rattle.instants_prefixes.specs.Given.{Given, lacks_time, lacks_year, moment_of}
use Rattle.instants_prefixes.specs.Reading.{is_likely, prefix_of, record_of}
use Rattle.instants_prefixes.specs.declared.kind.Kind.TheVariants as kind
use Rattle.instants_prefixes.proofs.NamedAlone.{by_unix, has_parts, named_given}
use Rattle.instants_prefixes.proofs.ReadPrefixes.{hour_of, minute_of, placed_named}
use Rattle.instants_prefixes.proofs.Says.{holds}
use Rattle.instants_prefixes.proofs.Told.{placed}
use Rattle.instants_prefixes.proofs.Unread.{IsPlaced, SaysNoOffset, read_placed}

-- ---- ISO 8601

abbrev put_parts : Option WrittenDate → Option WrittenTime → Option WrittenOffset → Record → Record
put_parts date time offset r = put_iso8601 (record { date = date; time = time; offset = offset }) r

-- what says no offset may come before one or after it
abbrev IsTurned : Option ℤ → Option ℤ → (Record → Record) → Type 0
IsTurned hour minute f = (f (placed hour minute empty) ≡ placed hour minute (f empty)) × ((f empty).offset_hour ≡ None)

iso_turns : (hour minute : Option ℤ) (date : Option WrittenDate) (time : Option WrittenTime) (offset : Option WrittenOffset)
    → holds (put_parts date time offset empty) kind.OffsetPart ≡ false → IsTurned hour minute (put_parts date time offset)
iso_turns hour minute date time (Some o) none = absurd cc
iso_turns hour minute None None None none = (refl, refl)
iso_turns hour minute None (Some t) None none = (refl, refl)
iso_turns hour minute (Some (OfMonth y m d)) None None none = (refl, refl)
iso_turns hour minute (Some (OfMonth y m d)) (Some t) None none = (refl, refl)
iso_turns hour minute (Some (OfYear y n)) None None none = (refl, refl)
iso_turns hour minute (Some (OfYear y n)) (Some t) None none = (refl, refl)
iso_turns hour minute (Some (OfWeek y w d)) None None none = (refl, refl)
iso_turns hour minute (Some (OfWeek y w d)) (Some t) None none = (refl, refl)

iso_placed : (hour minute : Option ℤ) (x : Result (Iso8601Parts × List ℕ) Fault) (set : Record) (rest : List ℕ)
    → SaysNoOffset (then_read x (λ w. give (put_iso8601 w empty)))
    → then_read x (λ w. give (put_iso8601 w (placed hour minute empty))) ≡ Ok (set, rest)
    → IsPlaced (λ r. then_read x (λ w. give (put_iso8601 w r))) hour minute set rest
iso_placed hour minute (Err f) set rest none e = absurd cc
iso_placed hour minute (Ok x) set rest none e =
    let same : ◌≡◌ {A = Record × List ℕ} (put_iso8601 x.0 (placed hour minute empty), x.1) (set, rest) = cc in
    let so = iso_turns hour minute x.0.date x.0.time x.0.offset none in
    record {
      plain = put_iso8601 x.0 empty;
      reads = ap (λ (read : Record × List ℕ). Ok (put_iso8601 x.0 empty, read.1)) same;
      is = sym (ap (λ (read : Record × List ℕ). read.0) same) ∙ so.0;
      none = so.1;
    }

-- ---- RFC 2822 and RFC 3339

-- they always say an offset
always_said : {W P : Type 0} (put : W → Record → Record) (r : Record) (x : Result (W × List ℕ) Fault) (read : Record × List ℕ)
    → ((w : W) (r : Record) → holds (put w r) kind.OffsetPart ≡ true) → SaysNoOffset (then_read x (λ w. give (put w empty)))
    → then_read x (λ w. give (put w r)) ≡ Ok read → P
always_said put r (Err f) read says none e = absurd cc
always_said put r (Ok x) read says none e = let said = says x.0 empty in absurd cc

-- ---- any source

-- what is read with the offset in the record from the start is what is read without it, and it
pub placed_reading : (grammar : Grammar) (hour minute : Option ℤ) (text rest : List ℕ) (set : Record) → SaysNoOffset (reading_of grammar empty text)
    → reading_of grammar (placed hour minute empty) text ≡ Ok (set, rest) → IsPlaced (λ r. reading_of grammar r text) hour minute set rest
unfolding reads_rfc3339 reads_rfc2822 reads_iso8601
placed_reading (Described written) hour minute text rest set none e =
    read_placed written hour minute text rest set none e
placed_reading Rfc2822 hour minute text rest set none e =
    always_said put_rfc2822 (placed hour minute empty) (rfc2822.rfc2822 true text) (set, rest) (λ w r. refl) none e
placed_reading Rfc3339 hour minute text rest set none e =
    always_said put_rfc3339 (placed hour minute empty) (rfc3339.rfc3339 true text) (set, rest) (λ w r. refl) none e
placed_reading Iso8601 hour minute text rest set none e = iso_placed hour minute (iso8601.iso8601 text) set rest none e

-- ---- what is named

-- all of a text is read, and its moment is named with what is given; if it is no number of Unix time, a year and a time were read
pub record IsReadWith (given : Given) (moment : Shown) (answer : Answer) : Type 0 where
  pub prefix : prefix_of given answer ≡ Some (moment, [])
  pub parts : (record_of answer).unix_timestamp_nanos ≡ None → (lacks_year (record_of answer) ≡ false) × (lacks_time (record_of answer) ≡ false)

module _ (given : Given) (offset : ℤ) (moment : Shown) (is : given.offset ≡ Some offset) where
  abbrev with_offset : Record → Record
  with_offset r = placed (Some (hour_of offset)) (Some (minute_of offset)) r

  abbrev Names : Record → Type 0
  Names plain = moment_of given given.years plain ≡ Some moment

  named_with : (plain : Record) → plain.offset_hour ≡ None → moment_named (with_offset plain) ≡ Ok moment → Names plain
  named_with plain none e = elim plain.unix_timestamp_nanos as (λ o. plain.unix_timestamp_nanos ≡ o → Names plain) [
    | None ↦ λ unix. placed_named given offset plain moment is none e unix
    | Some n ↦ λ unix. named_given given given.years plain moment (by_unix plain (with_offset plain) n unix unix refl ∙ e)
  ] refl

  abbrev IsLikely : Answer → Type 0
  IsLikely answer = is_likely (record_of answer).unix_timestamp_nanos ≡ true

  abbrev Places : (Record → Answer) → Record → List ℕ → Type 0
  Places answer set rest = IsPlaced answer (Some (hour_of offset)) (Some (minute_of offset)) set rest

  of_placed : (answer : Record → Answer) (set : Record) → Places answer set [] → IsLikely (answer empty) → moment_named set ≡ Ok moment
      → IsReadWith given moment (answer empty)
  of_placed answer set read likely e =
      let plain = read.plain in
      let reads = read.reads in
      let so : moment_named (with_offset plain) ≡ Ok moment = ap moment_named (sym read.is) ∙ e in
      let named = named_with plain read.none so in
      let likely_so = rw reads at likely in
      record {
        prefix = rw (reads, likely_so, named) refl;
        parts = rw reads (λ unix. let has = has_parts (with_offset plain) moment unix so in (has.date, has.time));
      }

  of_whole : (answer : Record → Answer) (a : Answer) → ((set : Record) (rest : List ℕ) → a ≡ Ok (set, rest) → Places answer set rest)
      → IsLikely (answer empty) → names moment_named (all_read a) ≡ Ok moment → IsReadWith given moment (answer empty)
  of_whole answer (Ok (set, [])) places likely e = of_placed answer set (places set [] refl) likely e
  of_whole answer (Ok (set, byte ∷ rest)) places likely e =
      let more : (length (byte ∷ rest) == 0) ≡ false = grind (arith, nat_tests) in
      let refused = rw more at e in
      absurd cc
  of_whole answer (Err f) places likely e = absurd cc

  -- so a line without an offset is read alike with an assumed one
  pub read_assumed : (grammar : Grammar) (line : List ℕ) → SaysNoOffset (reading_of grammar empty line) → IsLikely (reading_of grammar empty line)
      → names moment_named (whole (reading_of grammar) (Some (with_offset empty)) line) ≡ Ok moment
      → IsReadWith given moment (reading_of grammar empty line)
  unfolding whole
  read_assumed grammar line none likely e =
      let places = λ (set : Record) (rest : List ℕ). placed_reading grammar (Some (hour_of offset)) (Some (minute_of offset)) line rest set none in
      of_whole (λ r. reading_of grammar r line) (reading_of grammar (with_offset empty) line) places likely e
