-- A text that is a date and nothing else is found as one.
use Rattle.std.proofs.Common.{◌≡◌, ◌<◌, ◌≤◌, ◌-◌, ◌+◌, ◌==◌, ℕ, Bool, true, false, List, [], ◌∷◌, length, get_or, take, Some, None, Ok, refl, sym, ◌∙◌, ap, subst, inl, inr, arith}
use Rattle.std.specs.Prelude.{min, reverse, not, if◌then◌else◌}
use Rattle.std.specs.Char.{is_ascii_alphanumeric, is_ascii_whitespace}
use Rattle.std.specs.List.{suffix_len}
use Rattle.std.proofs.Math.Bool.{and-false, or-true}
use Rattle.std.proofs.lemmas.Bool.{cases_lt}
use Rattle.std.proofs.lemmas.Bool.Decides.{nat_tests}
use Rattle.std.proofs.lemmas.List.{get_or-reverse, get_or_past, take_all}
use Rattle.std.proofs.lemmas.List.Sums.{prefix_len_passes, suffix_len-le-length}
use Rattle.base.specs.Bytes.{dot, colon}
use Rattle.datetime_wall.specs.Wall.{Shown}
use Rattle.parsing_components.specs.declared.fields.Record.{Record}
use Rattle.parsing_record.specs.Whole.{moment_named}
use Rattle.instants_sources.specs.Grammar.{Grammar}
use Rattle.instants_edges.specs.Beside.{has_clock_before}
use Rattle.instants_edges.specs.Edge.{is_edge, is_sign, may_say}
use Rattle.instants_edges.specs.Pieces.{trimmed_length}
use Rattle.instants_prefixes.specs.Prefix.{prefix_at}
use Rattle.instants_prefixes.specs.Reading.{record_at}
use Rattle.instants_prefixes.specs.Wholly.{IsWholly}
use Rattle.instants_prefixes.specs.declared.prefix.Prefix.{Prefix}
use Rattle.instants_prefixes.specs.declared.given.Given.{Given}
use Rattle.instants_prefixes.proofs.NamedAlone.{has_parts}
use Rattle.instants_found.specs.Beside.{is_read, otherwise, settled_at, why}
use Rattle.instants_found.specs.Zoned.{takes_offset, unmoved}
use Rattle.instants_found.specs.Candidate.{as_candidate, of_prefix, candidate, found_at, longest}
use Rattle.instants_found.specs.Found.{at_place, first_found, found_in, found}
use Rattle.instants_found.specs.declared.found.Found.{Found}
use Rattle.instants_found.specs.declared.found.Finding.TheVariants.{There}
use Rattle.instants_found.proofs.NoDates.{found_here}
use Rattle.instants_found.proofs.ReadAt.{unmoved_candidate}

-- ---- the edges of the text

-- no word and no clock goes on over such a byte
abbrev IsApart : ℕ → Type 0
IsApart c = (is_ascii_alphanumeric c ≡ false) × ((c == dot) ≡ false) × ((c == colon) ≡ false)

white_apart : (c : ℕ) → is_ascii_whitespace c ≡ true → IsApart c
white_apart c e = (grind (arith, nat_tests), grind (arith, nat_tests), grind (arith, nat_tests))

-- the first byte after what is trimmed is white space
trimmed_white : (bytes : List ℕ) → 0 < suffix_len is_ascii_whitespace bytes → is_ascii_whitespace (get_or bytes (trimmed_length bytes) 0) ≡ true
unfolding trimmed_length
trimmed_white bytes some =
    let n = suffix_len is_ascii_whitespace bytes in
    let few : n - 1 < length bytes = omega (arith, some, suffix_len-le-length is_ascii_whitespace bytes) in
    let there = prefix_len_passes is_ascii_whitespace (reverse bytes) (n - 1) 0 (omega (arith, some)) in
    let moved = get_or-reverse bytes (n - 1) 0 few in
    let place : length bytes - 1 - (n - 1) ≡ length bytes - n = omega (arith, some, few) in
    let P : ℕ → Type 0 = λ k. is_ascii_whitespace (get_or bytes k 0) ≡ true in
    subst P place (rw moved at there)

after_trimmed : (bytes : List ℕ) → IsApart (get_or bytes (trimmed_length bytes) 0)
unfolding trimmed_length
after_trimmed bytes =
    elim (cases_lt 0 (suffix_len is_ascii_whitespace bytes)) [
      | inl some ↦ white_apart (get_or bytes (trimmed_length bytes) 0) (trimmed_white bytes some)
      | inr none ↦
          let past : get_or bytes (trimmed_length bytes) 0 ≡ 0 = get_or_past bytes (trimmed_length bytes) 0 (omega (arith, none)) in
          rw past (refl, refl, refl)
    ]

edge_at_end : (line : List ℕ) → is_edge line (trimmed_length line) ≡ true
edge_at_end line =
    let (word, point, mark) = after_trimmed line in
    rw (word, point, mark) (simp and-false)

says_first : (line : List ℕ) → may_say line 0 ≡ true
says_first line = or-true (not (is_sign (get_or line 0 0)))

clock_none : (line : List ℕ) → has_clock_before line 0 ≡ false
unfolding has_clock_before
clock_none line = refl

-- ---- the date at the first place

chosen : {A : Type 0} (b : Bool) (x : A) → b ≡ true → (if b then Some x else None) ≡ Some x
chosen true x e = refl
chosen false x e = absurd cc

module _ (given : Given) (grammar : Grammar) (line : List ℕ) (prefix : Prefix) (prefix_is : prefix_at given grammar line ≡ Some prefix) (first : prefix.begins ≡ 0) (all : prefix.all ≡ trimmed_length line) where
  edge : is_edge line (0 + prefix.all) ≡ true
  edge =
      let ends : 0 + prefix.all ≡ trimmed_length line = let none : 0 + prefix.all ≡ prefix.all = omega arith in none ∙ all in
      ap (λ (place : ℕ). is_edge line place) ends ∙ edge_at_end line

  begins : 0 + prefix.begins ≡ 0
  begins = omega (arith, first)

  says : may_say line (0 + prefix.begins) ≡ true
  says = ap (λ (place : ℕ). may_say line place) begins ∙ says_first line

  no_clock : has_clock_before line (0 + prefix.begins) ≡ false
  no_clock = ap (λ (place : ℕ). has_clock_before line place) begins ∙ clock_none line

  read : is_read grammar line 0 prefix ≡ true
  read = rw (says, edge) refl

  -- where no zone moves it and the line says nothing otherwise
  pub at_first : as_candidate given line 0 0 grammar (settled_at given grammar line 0 prefix) ≡ as_candidate given line 0 0 grammar (unmoved given.offset prefix)
      → None ≡ otherwise given given.offset (record_at grammar line) line 0 prefix
      → at_place given (grammar ∷ []) line 0 ≡ Some (There (found_at 0 0 prefix))
  unfolding at_place longest candidate why
  at_first unmoves unsaid =
      let stands : why given grammar line 0 (unmoved given.offset prefix) ≡ None = rw (edge, no_clock, sym unsaid) (simp and-false) in
      let candidate_is : candidate given line 0 0 grammar ≡ Some (as_candidate given line 0 0 grammar (unmoved given.offset prefix)) =
      ap (of_prefix given line 0 0 grammar) prefix_is
      ∙ chosen (is_read grammar line 0 prefix) (as_candidate given line 0 0 grammar (settled_at given grammar line 0 prefix)) read
      ∙ ap Some unmoves in
      rw (candidate_is, stands) refl

  -- ---- what was read needs nothing, or is a number of Unix time: so no zone moves it

  module _ (moment : Shown) (names : moment_named (record_at grammar line) ≡ Ok moment) where
    takes : takes_offset (record_at grammar line) ≡ false
    takes =
        elim (record_at grammar line).unix_timestamp_nanos as (λ o. (record_at grammar line).unix_timestamp_nanos ≡ o → takes_offset (record_at grammar line) ≡ false) [
          | Some n ↦ λ e. rw e (simp and-false refl)
          | None ↦ λ e. rw (has_parts (record_at grammar line) moment e names).offset refl
        ] refl

    unsaid : None ≡ otherwise given given.offset (record_at grammar line) line 0 prefix
    unfolding otherwise
    unsaid =
        elim (record_at grammar line).unix_timestamp_nanos as (λ o. (record_at grammar line).unix_timestamp_nanos ≡ o → None ≡ otherwise given given.offset (record_at grammar line) line 0 prefix) [
          | Some n ↦ λ e. rw e refl
          | None ↦ λ e.
              let has = has_parts (record_at grammar line) moment e names in
              rw (e, has.offset, has.time, has.date) refl
        ] refl

    pub named_first : at_place given (grammar ∷ []) line 0 ≡ Some (There (found_at 0 0 prefix))
    named_first = at_first (unmoved_candidate given line 0 0 grammar prefix takes) unsaid

-- ---- the date of the text

-- a list of one
pub one_of : {A : Type 0} (xs : List A) (x : A) → 1 ≤ length xs → length xs < 2 → x ≡ get_or xs 0 x → xs ≡ x ∷ []
one_of [] x some few is = absurd (omega (arith, some))
one_of (y ∷ []) x some few is = ap (λ z. z ∷ []) (sym is)
one_of (y ∷ z ∷ rest) x some few is = absurd (omega (arith, few))

pub found_in_first : (limit : ℕ) (given : Given) (sources : List Grammar) (line : List ℕ) (date : Found) → 0 < limit → 0 < length line → at_place given sources line 0 ≡ Some (There date) → found_in limit given sources line ≡ Some (There date)
unfolding first_found
found_in_first limit given sources line date some long e = sym (found_here given sources line 0 (min limit (length line)) (There date) (omega (arith, some, long)) refl (sym e))

pub wholly_found : (limit : ℕ) (given : Given) (grammar : Grammar) (text : List ℕ) (prefix : Prefix) → 0 < limit → IsWholly grammar text prefix → Some (There (found_at 0 0 prefix)) ≡ found limit given (grammar ∷ []) text
unfolding found
wholly_found limit given grammar text prefix some is =
    let all : take (limit + 256 + 64) text ≡ text = take_all (limit + 256 + 64) text (omega (arith, is.short)) in
    sym (rw all (found_in_first limit given (grammar ∷ []) text _ some is.some (named_first given grammar text prefix (is.reads given) is.begins is.all prefix.moment is.names)))
