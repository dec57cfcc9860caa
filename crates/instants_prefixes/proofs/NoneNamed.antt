-- Texts by which a source names nothing.
use Rattle.std.proofs.Common.{◌≡◌, ◌<◌, ◌≤◌, ◌+◌, ◌-◌, ◌*◌, ◌∙◌, ◌⊎◌, inl, inr, length, ℕ, zero, suc, Bool, true, false, eqb, List, [], ◌∷◌, get_or, drop, Option, None, Some, Ok, Err, refl, arith}
use Rattle.std.specs.Prelude.{codes, nat_le, if◌then◌else◌}
use Rattle.std.specs.Result.{result_ok}
use Rattle.std.specs.Char.{is_ascii_digit, is_ascii_alphanumeric}
use Rattle.std.proofs.lemmas.Bool.{le-leb}
use Rattle.std.proofs.lemmas.Bool.Decides.{nat_tests}
use Rattle.std.proofs.Math.Bool.{and-false}
use Rattle.std.proofs.lemmas.List.Sums.{prefix_len_passes}
use Rattle.base.specs.Bytes.{hyphen}
use Rattle.calendar_count.specs.declared.weekday.Weekday.{Weekday}
use Rattle.parsing_combinator.specs.Fault.{Fault, literal, component}
use Rattle.parsing_combinator.specs.Pieces.{byte, digits, digit_count, skip_of}
use Rattle.parsing_combinator.specs.Readings.{within}
use Rattle.parsing_combinator.proofs.Fixed.{digits_one, digits_two}
use Rattle.parsing_record.specs.Meaning.{Answer}
use Rattle.parsing_components.specs.declared.fields.Record.{Record}
use Rattle.parsing_record.specs.Record.{empty}
use Rattle.parsing_rfc2822.specs.Reading as rfc2822
use Rattle.parsing_rfc2822.specs.Names.{weekday, weekday_of}
use Rattle.parsing_rfc2822.specs.WhiteSpace.{comments_and_white_space}
use Rattle.parsing_rfc2822.proofs.WhiteSpaceLemmas.{none_at, none_of_nothing}
use Rattle.parsing_rfc3339.specs.Reading as rfc3339
use Rattle.parsing_parsable.specs.Staged.{reads_rfc2822, reads_rfc3339}
use Rattle.instants_sources.specs.Grammar.{Described, Rfc2822, Rfc3339, Written}
use Rattle.instants_sources.specs.Written.{reads_written}
use Rattle.instants_prefixes.specs.Given.{Given}
use Rattle.instants_prefixes.specs.NoPrefix.{begins_day}
use Rattle.instants_prefixes.specs.Reading.{prefix_named, prefix_of}

-- what is refused names nothing
none_prefix : (given : Given) (x : Answer) → result_ok x ≡ None → prefix_of given x ≡ None
none_prefix given (Ok x) e = absurd cc
none_prefix given (Err f) e = refl

pub where_so : {A : Type 0} (b : Bool) (x : Option A) → (b ≡ true → x ≡ None) → (if b then x else None) ≡ None
where_so true x h = h refl
where_so false x h = refl

pub described_none : (written : Written) (text : List ℕ) → ((r : Record) → result_ok (reads_written written r text) ≡ None) → (given : Given) → prefix_named given (Described written) text ≡ None
unfolding prefix_named
described_none written text refused given = none_prefix given (reads_written written empty text) (refused empty)

-- ---- RFC 3339

no_byte : (b : ℕ) (bytes : List ℕ) (n : ℕ) → eqb (get_or bytes n 0) b ≡ false → byte b (drop n bytes) ≡ None
unfolding skip_of
no_byte b [] zero e = refl
no_byte b [] (suc n) e = refl
no_byte b (c ∷ rest) zero e = rw e refl
no_byte b (c ∷ rest) (suc n) e = no_byte b rest n e

-- it has a hyphen after its year
pub hyphen_none : (text : List ℕ) → eqb (get_or text 4 0) hyphen ≡ false → (given : Given) → prefix_named given Rfc3339 text ≡ None
unfolding prefix_named reads_rfc3339 rfc3339.rfc3339 rfc3339.date digits
hyphen_none text other given = let none = no_byte hyphen text 4 other in none_prefix given (reads_rfc3339 empty text) (grind (arith, nat_tests))

-- where a byte is no digit no more digits than it has before it begin the text
pub few_digits : (text : List ℕ) (n count : ℕ) → n < count → is_ascii_digit (get_or text n 0) ≡ false → nat_le count (digit_count text) ≡ false
few_digits text n count lt e = grind (arith, nat_tests, prefix_len_passes is_ascii_digit text n 0)

-- its year has four digits
pub year_none : (text : List ℕ) (n : ℕ) → n < 4 → is_ascii_digit (get_or text n 0) ≡ false → (given : Given) → prefix_named given Rfc3339 text ≡ None
unfolding prefix_named reads_rfc3339 rfc3339.rfc3339 rfc3339.date digits
year_none text n lt other given = none_prefix given (reads_rfc3339 empty text) (rw (few_digits text n 4 lt other) refl)

-- ---- RFC 2822

no_name : (c : ℕ) (rest : List ℕ) → begins_day c ≡ false → weekday (c ∷ rest) ≡ None
unfolding weekday weekday_of
no_name c rest none = grind (arith, nat_tests)

no_space : (c : ℕ) (rest : List ℕ) → is_ascii_alphanumeric c ≡ true → comments_and_white_space (c ∷ rest) ≡ None
no_space c rest word = none_at c rest (grind (arith, nat_tests))

no_day : (bytes : List ℕ) → is_ascii_alphanumeric (get_or bytes 0 0) ≡ true → begins_day (get_or bytes 0 0) ≡ false → result_ok (reads_rfc2822 empty bytes) ≡ None
unfolding reads_rfc2822 rfc2822.rfc2822 rfc2822.day rfc2822.optional_weekday rfc2822.one_or_two_digits digits
no_day [] word none = absurd cc
no_day (c ∷ rest) word none = let digit : is_ascii_digit c ≡ false = grind (arith, nat_tests) in rw (no_space c rest word, no_name c rest none, digit) refl

-- it begins with its weekday or its day
pub day_none : (text : List ℕ) → begins_day (get_or text 0 0) ≡ false → (given : Given) → prefix_named given Rfc2822 text ≡ None
unfolding prefix_named
day_none text none given = where_so (is_ascii_alphanumeric (get_or text 0 0)) _ (λ word. none_prefix given (reads_rfc2822 empty text) (no_day text word none))

weekday_rest : (bytes : List ℕ) (x : Weekday × List ℕ) → weekday bytes ≡ Some x → x.1 ≡ drop 3 bytes
unfolding weekday
weekday_rest bytes x e = grind (arith, nat_tests)

no_comma : (bytes : List ℕ) → is_ascii_alphanumeric (get_or bytes 0 0) ≡ true → is_ascii_digit (get_or bytes 0 0) ≡ false → eqb (get_or bytes 3 0) rfc2822.comma ≡ false → result_ok (reads_rfc2822 empty bytes) ≡ None
unfolding reads_rfc2822 rfc2822.rfc2822 rfc2822.day rfc2822.optional_weekday rfc2822.named_day rfc2822.one_or_two_digits digits
no_comma [] word digit none = absurd cc
no_comma (c ∷ rest) word digit none =
    elim (weekday (c ∷ rest)) as (λ o. weekday (c ∷ rest) ≡ o → result_ok (reads_rfc2822 empty (c ∷ rest)) ≡ None) [
      | None ↦ λ e. rw (no_space c rest word, e, digit) refl
      | Some x ↦ λ e. let comma = rw (← weekday_rest (c ∷ rest) x e) at (no_byte rfc2822.comma (c ∷ rest) 3 none) in rw (no_space c rest word, e, comma) refl
    ] refl

-- it has a comma after its weekday
pub comma_none : (text : List ℕ) → is_ascii_digit (get_or text 0 0) ≡ false → eqb (get_or text 3 0) rfc2822.comma ≡ false → (given : Given) → prefix_named given Rfc2822 text ≡ None
unfolding prefix_named
comma_none text digit none given = where_so (is_ascii_alphanumeric (get_or text 0 0)) _ (λ word. none_prefix given (reads_rfc2822 empty text) (no_comma text word digit none))

digit_is : (c : ℕ) → is_ascii_digit c ≡ true → (is_ascii_alphanumeric c ≡ true) × (c ≤ 57)
digit_is c e = (grind (arith, nat_tests), grind (arith, nat_tests))

no_weekday : (c : ℕ) (rest : List ℕ) → is_ascii_digit c ≡ true → weekday (c ∷ rest) ≡ None
unfolding weekday weekday_of
no_weekday c rest digit = grind (arith, nat_tests)

-- where neither white space nor a comment stands no month is read
no_month : (rest : List ℕ) → 41 ≤ get_or rest 0 41 → rfc2822.month_and_year rest ≡ Err literal
unfolding rfc2822.month_and_year
no_month [] h = rw none_of_nothing refl
no_month (e ∷ rest) h = rw (none_at e rest h) refl

-- what stands after the one digit or the two that begin a text
abbrev pub after_day : List ℕ → List ℕ
after_day text = if is_ascii_digit (get_or text 1 0) then drop 2 text else drop 1 text

two_digits : (c d : ℕ) (rest : List ℕ) → is_ascii_digit c ≡ true → is_ascii_digit d ≡ true → digits 2 (c ∷ d ∷ rest) ≡ Some ((c - 48) * 10 + (d - 48), rest)
two_digits c d rest one other = digits_two (c ∷ d ∷ rest) ∙ rw (le-leb 2 (length (c ∷ d ∷ rest)) (omega arith), one, other) refl

one_digit : (c : ℕ) (rest : List ℕ) → is_ascii_digit c ≡ true → is_ascii_digit (get_or rest 0 0) ≡ false → (digits 2 (c ∷ rest) ≡ None) × (digits 1 (c ∷ rest) ≡ Some (c - 48, rest))
one_digit c rest digit other = (
  digits_two (c ∷ rest) ∙ rw (digit, other, and-false (nat_le 2 (length (c ∷ rest)))) refl,
  digits_one (c ∷ rest) ∙ rw (le-leb 1 (length (c ∷ rest)) (omega arith), digit) refl,
)

-- a day is read or refused, and this stands after it
abbrev pub IsDayBefore : List ℕ → List ℕ → Type 0
IsDayBefore text after = ((day : ℕ) × (rfc2822.day true text ≡ Ok ((None, day), after))) ⊎ ((fault : Fault) × (rfc2822.day true text ≡ Err fault))

by_digits : (text after : List ℕ) (day : ℕ) → comments_and_white_space text ≡ None → weekday text ≡ None → rfc2822.one_or_two_digits text ≡ Some (day, after) → IsDayBefore text after
unfolding rfc2822.day rfc2822.optional_weekday
by_digits text after day space name read = elim (within true 1 31 day) as (λ b. within true 1 31 day ≡ b → IsDayBefore text after) [
  | true ↦ λ e. inl (day, rw (space, name, read, e) refl)
  | false ↦ λ e. inr (component (codes "day"), rw (space, name, read, e) refl)
] refl

day_of : (c : ℕ) (others : List ℕ) → is_ascii_digit c ≡ true → IsDayBefore (c ∷ others) (after_day (c ∷ others))
unfolding rfc2822.one_or_two_digits
day_of c [] digit = let one = one_digit c [] digit refl in by_digits (c ∷ []) [] (c - 48) (no_space c [] (digit_is c digit).0) (no_weekday c [] digit) (rw (one.0, one.1) refl)
day_of c (d ∷ rest) digit =
    let read = by_digits (c ∷ d ∷ rest) in
    elim (is_ascii_digit d) as (λ b. is_ascii_digit d ≡ b → IsDayBefore (c ∷ d ∷ rest) (if b then rest else d ∷ rest)) [
      | true ↦ λ e. read rest ((c - 48) * 10 + (d - 48)) (no_space c (d ∷ rest) (digit_is c digit).0) (no_weekday c (d ∷ rest) digit) (rw (two_digits c d rest digit e) refl)
      | false ↦ λ e. let one = one_digit c (d ∷ rest) digit e in read (d ∷ rest) (c - 48) (no_space c (d ∷ rest) (digit_is c digit).0) (no_weekday c (d ∷ rest) digit) (rw (one.0, one.1) refl)
    ] refl

no_room : (text : List ℕ) → is_ascii_digit (get_or text 0 0) ≡ true → 41 ≤ get_or (after_day text) 0 41 → result_ok (reads_rfc2822 empty text) ≡ None
unfolding reads_rfc2822 rfc2822.rfc2822
no_room [] digit h = absurd cc
no_room (c ∷ others) digit h = elim (day_of c others digit) [
  | inl (day, is) ↦ rw (is, no_month (after_day (c ∷ others)) h) refl
  | inr (fault, is) ↦ rw is refl
]

-- white space or a comment stands after its day
pub space_none : (text : List ℕ) → is_ascii_digit (get_or text 0 0) ≡ true → 41 ≤ get_or (after_day text) 0 41 → (given : Given) → prefix_named given Rfc2822 text ≡ None
unfolding prefix_named
space_none text digit h given = where_so (is_ascii_alphanumeric (get_or text 0 0)) _ (λ word. none_prefix given (reads_rfc2822 empty text) (no_room text digit h))

pub nothing_rfc2822 : (given : Given) → prefix_named given Rfc2822 [] ≡ None
nothing_rfc2822 given = day_none [] refl given
