-- A line for which its one source names a moment is found as a date.
use Rattle.std.proofs.Common.{◌≡◌, ◌<◌, ◌≤◌, ◌-◌, ◌+◌, ◌==◌, ℕ, Bool, true, false, List, [], ◌∷◌, length, get_or, take, drop, Some, None, Result, Ok, Err, refl, sym, ◌∙◌, ap, subst, inl, inr, arith}
use Rattle.std.specs.Prelude.{min, reverse, not, if◌then◌else◌}
use Rattle.std.specs.Char.{is_ascii_alphanumeric, is_ascii_whitespace}
use Rattle.std.specs.List.{suffix_len}
use Rattle.std.specs.Result.{result_ok}
use Rattle.std.proofs.Math.Bool.{and-false, or-true}
use Rattle.std.proofs.lemmas.Bool.{cases_lt}
use Rattle.std.proofs.lemmas.Bool.Decides.{nat_tests}
use Rattle.std.proofs.lemmas.List.{get_or-reverse, get_or_past, take_all, length-take}
use Rattle.std.proofs.lemmas.List.Sums.{prefix_len_passes, suffix_len-le-length}
use Rattle.base.specs.Bytes.{dot, colon}
use Rattle.datetime_wall.specs.Wall.{Shown}
use Rattle.parsing_combinator.specs.Fault.{Fault}
use Rattle.parsing_record.specs.Meaning.{Answer, Meaning}
use Rattle.parsing_components.specs.declared.fields.Record.{Record}
use Rattle.parsing_record.specs.Record.{empty}
use Rattle.parsing_record.specs.Whole.{whole, all_read, names, moment_named}
use Rattle.parsing_rfc2822.specs.Direct as rfc2822
use Rattle.parsing_rfc3339.specs.Direct as rfc3339
use Rattle.parsing_parsable.specs.Staged.{reads_rfc2822, reads_rfc3339, reads_iso8601}
use Rattle.parsing_parsable.specs.TwoRoads.{AgreeOn}
use Rattle.instants_sources.specs.Grammar.{Grammar, Described, Rfc2822, Rfc3339, Iso8601}
use Rattle.instants_sources.specs.Reading.{reading_of}
use Rattle.instants_sources.specs.Written.{reads_written}
use Rattle.instants_sources.specs.Named.{named}
use Rattle.instants_edges.specs.Beside.{has_clock_before}
use Rattle.instants_edges.specs.Edge.{is_edge, is_sign, may_say}
use Rattle.instants_edges.specs.Pieces.{trimmed_length}
use Rattle.instants_prefixes.specs.Prefix.{with_lengths, prefix_in, prefix_at}
use Rattle.instants_prefixes.specs.Lengths.{lengths}
use Rattle.instants_prefixes.specs.Reading.{text_for, may_begin, is_likely, prefix_of, prefix_named, record_of, record_at}
use Rattle.instants_prefixes.specs.declared.prefix.Prefix.{Prefix}
use Rattle.instants_prefixes.specs.declared.given.Given.{Given}
use Rattle.instants_prefixes.proofs.NamedAlone.{named_given, has_parts}
use Rattle.instants_prefixes.proofs.Windows.{text_within}
use Rattle.instants_found.specs.Beside.{is_read, otherwise, settled_at, why}
use Rattle.instants_found.specs.Zoned.{takes_offset, unmoved}
use Rattle.instants_found.proofs.ReadAt.{unmoved_candidate}
use Rattle.instants_found.specs.Candidate.{as_candidate, of_prefix, candidate, longest}
use Rattle.instants_found.specs.Found.{at_place, first_found, found_in, looked_at, found}
use Rattle.instants_found.specs.declared.found.Found.{Found}
use Rattle.instants_found.proofs.NoDates.{found_here}
use Rattle.instants_found.specs.declared.found.Finding.TheVariants.{There}
use Rattle.instants_timeline.specs.Place.{Setting, first_named, shown_or_refused, place_of, place_text, answer_to}
use Rattle.instants_lines.specs.Dates.{place_of_date, key_or}
use Rattle.instants_lines.specs.Going.{Going, goes_on, key_of_line}

-- ---- the prefix is the whole line

chosen : {A : Type 0} (b : Bool) (x : A) → b ≡ true → (if b then Some x else None) ≡ Some x
chosen true x e = refl
chosen false x e = absurd cc

ok_of : (r : Result Shown Fault) (m : Shown) → Some m ≡ result_ok r → r ≡ Ok m
ok_of (Ok x) m e = let same : x ≡ m = cc in ap (λ (v : Shown). Ok v) same
ok_of (Err f) m e = absurd cc

-- all of a text is read, and its record names a moment
record IsWhole (given : Given) (moment : Shown) (x : Answer) : Type 0 where
  prefix : prefix_of given x ≡ Some (moment, [])
  names_it : moment_named (record_of x) ≡ Ok moment

module _ (given : Given) (moment : Shown) where
  prefix_all : (x : Answer) → is_likely (record_of x).unix_timestamp_nanos ≡ true → names moment_named (all_read x) ≡ Ok moment → IsWhole given moment x
  prefix_all (Ok (r, [])) likely e = record { prefix = rw (likely, named_given given given.years r moment e) refl; names_it = e }
  prefix_all (Ok (r, byte ∷ rest)) likely e =
      let more : (length (byte ∷ rest) == 0) ≡ false = grind (arith, nat_tests) in
      let refused = rw more at e in
      absurd cc
  prefix_all (Err f) likely e = absurd cc

  by_record : (m : Meaning) (line : List ℕ) → is_likely (record_of (m empty line)).unix_timestamp_nanos ≡ true → names moment_named (whole m None line) ≡ Ok moment → IsWhole given moment (m empty line)
  unfolding whole
  by_record m line likely e = prefix_all (m empty line) likely e

  by_road : (direct : List ℕ → Result Shown Fault) (m : Meaning) (line : List ℕ) → AgreeOn direct m line → is_likely (record_of (m empty line)).unix_timestamp_nanos ≡ true → direct line ≡ Ok moment → IsWhole given moment (m empty line)
  unfolding whole
  by_road direct m line agree likely e =
      let alike : Some moment ≡ result_ok (names moment_named (whole m None line)) = sym (ap result_ok e) ∙ agree None None in
      by_record m line likely (ok_of (names moment_named (whole m None line)) moment alike)

read_whole : (given : Given) (grammar : Grammar) (line : List ℕ) (moment : Shown) → AgreeOn rfc3339.direct reads_rfc3339 line → AgreeOn rfc2822.direct reads_rfc2822 line
    → named None grammar line ≡ Ok moment → is_likely (record_of (reading_of grammar empty line)).unix_timestamp_nanos ≡ true → IsWhole given moment (reading_of grammar empty line)
read_whole given (Described written) line moment of_rfc3339 of_rfc2822 e likely = by_record given moment (reads_written written) line likely e
read_whole given Rfc2822 line moment of_rfc3339 of_rfc2822 e likely = by_road given moment rfc2822.direct reads_rfc2822 line of_rfc2822 likely e
read_whole given Rfc3339 line moment of_rfc3339 of_rfc2822 e likely = by_road given moment rfc3339.direct reads_rfc3339 line of_rfc3339 likely e
read_whole given Iso8601 line moment of_rfc3339 of_rfc2822 e likely = by_record given moment reads_iso8601 line likely e

-- ---- the edges of the line

-- no word and no clock goes on over such a byte
abbrev IsApart : ℕ → Type 0
IsApart c = (is_ascii_alphanumeric c ≡ false) × ((c == dot) ≡ false) × ((c == colon) ≡ false)

white_apart : (c : ℕ) → is_ascii_whitespace c ≡ true → IsApart c
white_apart c e = (grind (arith, nat_tests), grind (arith, nat_tests), grind (arith, nat_tests))

-- the first byte after what is trimmed is white space
trimmed_white : (bytes : List ℕ) → 0 < suffix_len is_ascii_whitespace bytes → is_ascii_whitespace (get_or bytes (trimmed_length bytes) 0) ≡ true
unfolding trimmed_length
trimmed_white bytes some =
    let n = suffix_len is_ascii_whitespace bytes in
    let few : n - 1 < length bytes = omega (arith, some, suffix_len-le-length is_ascii_whitespace bytes) in
    let there = prefix_len_passes is_ascii_whitespace (reverse bytes) (n - 1) 0 (omega (arith, some)) in
    let moved = get_or-reverse bytes (n - 1) 0 few in
    let place : length bytes - 1 - (n - 1) ≡ length bytes - n = omega (arith, some, few) in
    let P : ℕ → Type 0 = λ k. is_ascii_whitespace (get_or bytes k 0) ≡ true in
    subst P place (rw moved at there)

after_trimmed : (bytes : List ℕ) → IsApart (get_or bytes (trimmed_length bytes) 0)
unfolding trimmed_length
after_trimmed bytes =
    elim (cases_lt 0 (suffix_len is_ascii_whitespace bytes)) [
      | inl some ↦ white_apart (get_or bytes (trimmed_length bytes) 0) (trimmed_white bytes some)
      | inr none ↦
          let past : get_or bytes (trimmed_length bytes) 0 ≡ 0 = get_or_past bytes (trimmed_length bytes) 0 (omega (arith, none)) in
          rw past (refl, refl, refl)
    ]

edge_at_end : (line : List ℕ) → is_edge line (trimmed_length line) ≡ true
edge_at_end line =
    let (word, point, mark) = after_trimmed line in
    rw (word, point, mark) (simp and-false)

says_first : (line : List ℕ) → may_say line 0 ≡ true
says_first line = or-true (not (is_sign (get_or line 0 0)))

clock_none : (line : List ℕ) → has_clock_before line 0 ≡ false
unfolding has_clock_before
clock_none line = refl

-- ---- the date at the first place

module _ (given : Given) (grammar : Grammar) (line : List ℕ) (moment : Shown) (text : text_for grammar line ≡ line) (begun : may_begin grammar line ≡ true) (reads : prefix_of given (reading_of grammar empty line) ≡ Some (moment, [])) (first : (lengths grammar line []).begins ≡ 0) where
  abbrev pub prefix : Prefix
  prefix = with_lengths line moment [] (lengths grammar line [])

  prefix_is : prefix_at given grammar line ≡ Some prefix
  unfolding prefix_at prefix_named
  prefix_is =
      ap (λ (bytes : List ℕ). prefix_in grammar bytes (prefix_named given grammar bytes)) text
      ∙ rw (begun, reads) refl

  ends : 0 + prefix.all ≡ trimmed_length line
  ends =
      let all : take (length line - 0) line ≡ line = take_all (length line - 0) line (omega arith) in
      let none : 0 + prefix.all ≡ prefix.all = omega arith in
      none ∙ ap trimmed_length all

  edge : is_edge line (0 + prefix.all) ≡ true
  edge = ap (λ (place : ℕ). is_edge line place) ends ∙ edge_at_end line

  begins : 0 + prefix.begins ≡ 0
  begins = omega (arith, first)

  says : may_say line (0 + prefix.begins) ≡ true
  says = ap (λ (place : ℕ). may_say line place) begins ∙ says_first line

  no_clock : has_clock_before line (0 + prefix.begins) ≡ false
  no_clock = ap (λ (place : ℕ). has_clock_before line place) begins ∙ clock_none line

  abbrev pub its_record : Record
  its_record = record_at grammar (drop 0 line)

  pub record_is : its_record ≡ record_of (reading_of grammar empty line)
  unfolding record_at
  record_is = ap (λ (bytes : List ℕ). record_of (reading_of grammar empty bytes)) text

  -- where no zone moves it and the line says nothing otherwise
  module _ (unmoves : as_candidate given line 0 0 grammar (settled_at given grammar line 0 prefix) ≡ as_candidate given line 0 0 grammar (unmoved given.offset prefix)) (unsaid : None ≡ otherwise given given.offset its_record line 0 prefix) where
    stands : why given grammar line 0 (unmoved given.offset prefix) ≡ None
    unfolding why
    stands = rw (edge, no_clock, sym unsaid) (simp and-false)

    read : is_read grammar line 0 prefix ≡ true
    read = rw (says, edge) refl

    candidate_is : candidate given line 0 0 grammar ≡ Some (as_candidate given line 0 0 grammar (unmoved given.offset prefix))
    unfolding candidate
    candidate_is =
        ap (of_prefix given line 0 0 grammar) prefix_is
        ∙ chosen (is_read grammar line 0 prefix) (as_candidate given line 0 0 grammar (settled_at given grammar line 0 prefix)) read
        ∙ ap Some unmoves

    pub at_first : at_place given (grammar ∷ []) line 0 ≡ Some (There (as_candidate given line 0 0 grammar (unmoved given.offset prefix)).date)
    unfolding at_place longest
    at_first = rw (candidate_is, stands) refl

-- ---- what was read needs nothing, or is a number of Unix time

module _ (given : Given) (grammar : Grammar) (line : List ℕ) (moment : Shown) (text : text_for grammar line ≡ line) (begun : may_begin grammar line ≡ true) (whole_is : IsWhole given moment (reading_of grammar empty line)) (first : (lengths grammar line []).begins ≡ 0) where
  abbrev its_prefix : Prefix
  its_prefix = prefix given grammar line moment text begun whole_is.prefix first

  abbrev read_record : Record
  read_record = its_record given grammar line moment text begun whole_is.prefix first

  names_it : moment_named read_record ≡ Ok moment
  names_it = ap moment_named (record_is given grammar line moment text begun whole_is.prefix first) ∙ whole_is.names_it

  -- so no zone moves it
  takes : takes_offset read_record ≡ false
  takes =
      elim read_record.unix_timestamp_nanos as (λ o. read_record.unix_timestamp_nanos ≡ o → takes_offset read_record ≡ false) [
        | Some n ↦ λ e. rw e (simp and-false refl)
        | None ↦ λ e. rw (has_parts read_record moment e names_it).offset refl
      ] refl

  unsaid : None ≡ otherwise given given.offset read_record line 0 its_prefix
  unfolding otherwise
  unsaid =
      elim read_record.unix_timestamp_nanos as (λ o. read_record.unix_timestamp_nanos ≡ o → None ≡ otherwise given given.offset read_record line 0 its_prefix) [
        | Some n ↦ λ e. rw e refl
        | None ↦ λ e.
            let has = has_parts read_record moment e names_it in
            rw (e, has.offset, has.time, has.date) refl
      ] refl

  named_first : at_place given (grammar ∷ []) line 0 ≡ Some (There (as_candidate given line 0 0 grammar (unmoved given.offset its_prefix)).date)
  named_first = at_first given grammar line moment text begun whole_is.prefix first (unmoved_candidate given line 0 0 grammar its_prefix takes) unsaid

-- ---- the date of the line

found_in_first : (limit : ℕ) (given : Given) (sources : List Grammar) (line : List ℕ) (date : Found) → 0 < limit → 0 < length line → at_place given sources line 0 ≡ Some (There date) → found_in limit given sources line ≡ Some (There date)
unfolding first_found
found_in_first limit given sources line date some long e = sym (found_here given sources line 0 (min limit (length line)) (There date) (omega (arith, some, long)) refl (sym e))

alone_named : (setting : Setting) (grammar : Grammar) (line : List ℕ) (moment : Shown) → setting.sources ≡ grammar ∷ [] → named setting.assumed grammar line ≡ Ok moment → first_named setting.assumed setting.sources line ≡ Ok moment
unfolding first_named
alone_named setting grammar line moment alone e = rw alone (rw e refl)

-- all of such a line is looked at
all_looked_at : (limit : ℕ) (grammar : Grammar) (line : List ℕ) → text_for grammar line ≡ line → looked_at limit line ≡ line
all_looked_at limit grammar line text =
    let within = text_within grammar line in
    let few : length line ≤ length (take 256 line) = rw text at within in
    take_all (limit + 256 + 64) line (omega (arith, few, length-take 256 line))

-- the key of a line at whose first place a date of this moment is found
pub key_at : (going : Going) (grammar : Grammar) (line : List ℕ) (moment : Shown) (date : Found)
    → going.search.part ≡ None → going.search.setting.sources ≡ grammar ∷ [] → goes_on going.mode going.indent line ≡ false → named going.search.setting.assumed grammar line ≡ Ok moment → 0 < going.search.limit → 0 < length line
    → text_for grammar line ≡ line → at_place going.search.given (grammar ∷ []) line 0 ≡ Some (There date) → date.moment ≡ moment
    → key_of_line going line ≡ answer_to going.search.setting line
unfolding place_of_date answer_to place_of found
key_at going grammar line moment date none alone own assumed some long text at is =
    let search = going.search in
    let setting = search.setting in
    let there = ap (found_in search.limit search.given setting.sources) (all_looked_at search.limit grammar line text)
    ∙ ap (λ (sources : List Grammar). found_in search.limit search.given sources line) alone ∙ found_in_first search.limit search.given (grammar ∷ []) line date some long at in
    rw (own, none) (ap (key_or setting going.key) there)
    ∙ ap (λ (m : Shown). place_text (shown_or_refused setting.target (Ok m))) is
    ∙ ap (λ (n : Result Shown Fault). place_text (shown_or_refused setting.target n)) (sym (alone_named setting grammar line moment alone assumed))

pub key_alone : (going : Going) (grammar : Grammar) (line : List ℕ) (moment : Shown) → AgreeOn rfc3339.direct reads_rfc3339 line → AgreeOn rfc2822.direct reads_rfc2822 line
    → going.search.part ≡ None → going.search.setting.sources ≡ grammar ∷ [] → goes_on going.mode going.indent line ≡ false → named None grammar line ≡ Ok moment → named going.search.setting.assumed grammar line ≡ Ok moment → 0 < going.search.limit → 0 < length line
    → text_for grammar line ≡ line → may_begin grammar line ≡ true → is_likely (record_at grammar line).unix_timestamp_nanos ≡ true → (lengths grammar line []).begins ≡ 0
    → key_of_line going line ≡ answer_to going.search.setting line
unfolding record_at
key_alone going grammar line moment of_rfc3339 of_rfc2822 none alone own e assumed some long text may likely first =
    let whole_is = read_whole going.search.given grammar line moment of_rfc3339 of_rfc2822 e (rw text at likely) in
    key_at going grammar line moment _ none alone own assumed some long text (named_first going.search.given grammar line moment text may whole_is first) refl
