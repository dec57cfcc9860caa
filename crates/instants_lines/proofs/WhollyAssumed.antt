-- A line without an offset, for which its one source names a moment with the assumed one, is found as a date.
use Rattle.std.proofs.Common.{◌≡◌, ◌<◌, ◌+◌, ◌∙◌, ◌||◌, ℕ, ℤ, true, false, List, [], ◌∷◌, length, Option, Some, None, Ok, refl, ap, arith}
use Rattle.std.specs.Borrow.{Bor}
use Rattle.std.specs.Prelude.{is_some}
use Rattle.std.proofs.Math.Bool.{and-false}
use Rattle.std.proofs.lemmas.Bool.Decides.{nat_tests}
use Rattle.zones_clock.specs.declared.zone.Zone.{Zone}
use Rattle.datetime_wall.specs.Wall.{Shown}
use Rattle.parsing_components.specs.declared.fields.Record.{Record}
use Rattle.parsing_record.specs.Record.{empty}
use Rattle.parsing_record.specs.Whole.{moment_named, names, whole}
use Rattle.instants_sources.specs.Grammar.{Grammar, Described, Rfc2822, Rfc3339, Iso8601}
use Rattle.instants_sources.specs.Named.{defaults_of, named}
use Rattle.instants_sources.specs.Reading.{reading_of}
use Rattle.instants_edges.specs.Beside.{has_another_offset, has_half_after}
use Rattle.instants_prefixes.specs.Given.{lacks_time, lacks_year}
use Rattle.instants_prefixes.specs.Lengths.{lengths}
use Rattle.instants_prefixes.specs.Reading.{is_likely, may_begin, record_at, record_of, text_for}
use Rattle.instants_prefixes.specs.declared.given.Given.{Given}
use Rattle.instants_prefixes.specs.declared.prefix.Prefix.{Prefix}
use Rattle.instants_prefixes.proofs.AssumedOffset.{IsReadWith, read_assumed}
use Rattle.instants_found.specs.Beside.{otherwise}
use Rattle.instants_found.specs.Candidate.{as_candidate}
use Rattle.instants_found.specs.Found.{at_place}
use Rattle.instants_found.specs.Zoned.{settled_by, takes_offset, unmoved}
use Rattle.instants_found.specs.declared.found.Finding.TheVariants.{There}
use Rattle.instants_timeline.specs.Place.{answer_to}
use Rattle.instants_lines.specs.Dates.{says_no_offset}
use Rattle.instants_lines.specs.Going.{Going, goes_on, key_of_line}
use Rattle.instants_lines.proofs.Wholly.{at_first, its_record, key_at, prefix, record_is}

no_part : (r : Record) → says_no_offset r ≡ true → (is_some r.offset_hour || is_some r.offset_minute || is_some r.offset_second) ≡ false
no_part r e = grind (arith, nat_tests)

-- with an offset assumed each source is read into a record
by_reading : (grammar : Grammar) (offset : ℤ) (line : List ℕ) (moment : Shown) → named (Some offset) grammar line ≡ Ok moment
    → names moment_named (whole (reading_of grammar) (defaults_of (Some offset)) line) ≡ Ok moment
by_reading (Described written) offset line moment e = e
by_reading Rfc2822 offset line moment e = e
by_reading Rfc3339 offset line moment e = e
by_reading Iso8601 offset line moment e = e

module _ (given : Given) (grammar : Grammar) (line : List ℕ) (moment : Shown) (offset : ℤ) (text : text_for grammar line ≡ line)
    (begun : may_begin grammar line ≡ true) (reads : IsReadWith given moment (reading_of grammar empty line))
    (first : (lengths grammar line []).begins ≡ 0) (is : given.offset ≡ Some offset) (unzoned : given.zone ≡ None)
    (same : has_another_offset line 0 (lengths grammar line []).ends offset ≡ false)
    (half : has_half_after line (lengths grammar line []).ends ≡ false) where
  abbrev its_prefix : Prefix
  its_prefix = prefix given grammar line moment text begun reads.prefix first

  abbrev read_record : Record
  read_record = its_record given grammar line moment text begun reads.prefix first

  there : 0 + its_prefix.ends ≡ (lengths grammar line []).ends
  there = omega arith

  same_there : has_another_offset line 0 (0 + its_prefix.ends) offset ≡ false
  same_there = ap (λ (place : ℕ). has_another_offset line 0 place offset) there ∙ same

  half_there : has_half_after line (0 + its_prefix.ends) ≡ false
  half_there = ap (λ (place : ℕ). has_half_after line place) there ∙ half

  parts : read_record.unix_timestamp_nanos ≡ None → (lacks_year read_record ≡ false) × (lacks_time read_record ≡ false)
  parts = rw (record_is given grammar line moment text begun reads.prefix first) reads.parts

  abbrev IsUnsaid : Type 0
  IsUnsaid = None ≡ otherwise given given.offset read_record line 0 its_prefix

  unsaid : IsUnsaid
  unfolding otherwise
  unsaid = elim read_record.unix_timestamp_nanos as (λ o. read_record.unix_timestamp_nanos ≡ o → IsUnsaid) [
    | Some n ↦ λ e. rw e refl
    | None ↦ λ e. let has = parts e in rw (e, is, same_there, half_there, has.1, has.0) (simp and-false refl)
  ] refl

  unmoves : as_candidate given line 0 0 grammar (settled_by given.zone given.offset (takes_offset read_record) line 0 its_prefix) ≡ as_candidate given line 0 0 grammar (unmoved given.offset its_prefix)
  unmoves = ap (λ (zone : Option (Bor Zone)). as_candidate given line 0 0 grammar (settled_by zone given.offset (takes_offset read_record) line 0 its_prefix)) unzoned

  assumed_first : at_place given (grammar ∷ []) line 0 ≡ Some (There (as_candidate given line 0 0 grammar (unmoved given.offset its_prefix)).date)
  assumed_first = at_first given grammar line moment text begun reads.prefix first unmoves unsaid

pub key_assumed : (going : Going) (grammar : Grammar) (line : List ℕ) (moment : Shown) (offset : ℤ)
    → going.search.part ≡ None → going.search.setting.sources ≡ grammar ∷ [] → goes_on going.mode going.indent line ≡ false
    → going.search.setting.assumed ≡ Some offset → going.search.given.offset ≡ Some offset → going.search.given.zone ≡ None
    → named (Some offset) grammar line ≡ Ok moment → says_no_offset (record_at grammar line) ≡ true
    → has_another_offset line 0 (lengths grammar line []).ends offset ≡ false → has_half_after line (lengths grammar line []).ends ≡ false
    → 0 < going.search.limit → 0 < length line → text_for grammar line ≡ line → may_begin grammar line ≡ true
    → is_likely (record_at grammar line).unix_timestamp_nanos ≡ true → (lengths grammar line []).begins ≡ 0
    → key_of_line going line ≡ answer_to going.search.setting line
unfolding record_at
key_assumed going grammar line moment offset none alone own assumed is unzoned e lacks same half some long text may likely first =
    let given = going.search.given in
    let plain = no_part (record_of (reading_of grammar empty line)) (rw text at lacks) in
    let reads = read_assumed given offset moment is grammar line plain (rw text at likely) (by_reading grammar offset line moment e) in
    let at = assumed_first given grammar line moment offset text may reads first is unzoned same half in
    key_at going grammar line moment _ none alone own (ap (λ (o : Option ℤ). named o grammar line) assumed ∙ e) some long text at refl
