-- What components read has their forms.
use Rattle.std.proofs.Common.{◌≡◌, ◌≤◌, ◌∙◌, min, ℕ, Bool, true, false, not, List, length, drop, Option, Some, None, Result, Ok, Err, refl, sym, arith, inl, inr}
use Rattle.std.proofs.lemmas.Bool.{cases_lt}
use Rattle.std.proofs.lemmas.Bool.Decides.{nat_tests}
use Rattle.std.specs.Char.{is_ascii_digit}
use Rattle.std.specs.Str.Parse.{digits_value}
use Rattle.std.specs.Prelude.{◌==◌, ◌&&◌, ◌||◌, option_map, nat_le, IfOk, IfSome, if◌then◌else◌}
use Rattle.calendar_count.specs.Month.{month_number}
use Rattle.calendar_count.specs.Range.{greatest_year}
use Rattle.description_modifiers.specs.declared.choices.Padding.{Padding}
use Rattle.description_modifiers.specs.declared.choices.Padding.TheVariants as padding
use Rattle.description_modifiers.specs.declared.choices.SubsecondDigits.{SubsecondDigits}
use Rattle.description_modifiers.specs.declared.choices.SubsecondDigits.TheVariants as digits_of
use Rattle.description_items.specs.declared.component.Component.{Component}
use Rattle.description_items.specs.declared.component.Component.TheVariants as component
use Rattle.parsing_combinator.specs.Fault.{Fault}
use Rattle.parsing_combinator.specs.Pieces as Pieces
use Rattle.parsing_combinator.specs.Pieces.{sign, digit_count, nanoseconds_of}
use Rattle.parsing_combinator.specs.Readings.{piece_or}
use Rattle.parsing_combinator.specs.Shape.{taken, fraction_between, digits_between, spaced_between, is_space}
use Rattle.parsing_combinator.specs.Names.{named, period, periods, short_months, long_months, short_weekdays, long_weekdays}
use Rattle.parsing_combinator.specs.Numbers.{padded, year, century, offset_hour, timestamp}
use Rattle.parsing_combinator.proofs.Components.{taken_padded_exactly, taken_year, taken_century, taken_offset_hour, taken_timestamp}
use Rattle.parsing_combinator.proofs.Longest.{taken_digits}
use Rattle.parsing_combinator.proofs.SignLemmas.{under, by_sign_if}
use Rattle.parsing_components.specs.Component as parsed
use Rattle.parsing_components.specs.Component.{reads_component, reads_component_v3, reads_modern, date_piece, year_piece, time_piece, offset_piece, ignored, if_whole, begins_character}
use Rattle.parsing_components.specs.Ranged.{kept, between, up_to, counted, months, from_sunday, from_monday, since_epoch, greatest_century}
use Rattle.parsing_components.specs.declared.said.Read.{Read}
use Rattle.parsing_components.specs.declared.said.Read.TheVariants as read
use Rattle.parsing_layout.specs.declared.parts.Field.{Field}
use Rattle.parsing_layout.specs.declared.parts.Part.{Part}
use Rattle.parsing_layout.specs.Layout.{piece_of, exact_fraction, weekday_number, half_number}
use Rattle.parsing_layout.specs.Stretch.{exactly, at_least}
use Rattle.parsing_layout.specs.declared.parts.Field.TheVariants as field
use Rattle.parsing_layout.specs.declared.parts.Names.TheVariants as names
use Rattle.parsing_layout.specs.declared.parts.Part.TheVariants as part
use Rattle.parsing_layout.specs.declared.stretch.Kind.TheVariants as kind
use Rattle.parsing_layout.proofs.LayoutLemmas.{numbered}
use Rattle.parsing_layout.proofs.ShapeLemmas.{digits_hold, spaced_hold, taken_cuts}
use Rattle.parsing_item_layouts.specs.Forms.{Piece, Form, IsPiece, IsFormed, padded_part, padded_bytes, fraction_part, signed_form, full_year, year_form, century_form, some_digits, timestamp_form, hour_form, one, some_bytes, form_of_time, form_of_year, form_of}
use Rattle.parsing_item_layouts.specs.declared.forms.Piece.TheVariants as piece
use Rattle.parsing_item_layouts.specs.declared.forms.Form.TheVariants as form

-- ---- what a piece leaves

said_rest : {B : Type 0} (P : List ℕ → Type 0) (rest : List ℕ) (fault : Fault) (said : Option B) → P rest → IfOk (piece_or fault (option_map (λ y. (y, rest)) said)) (λ x. P x.1)
said_rest P rest fault None h = tt
said_rest P rest fault (Some y) h = h

-- what holds of what a piece leaves holds of what a reading of it leaves
kept_rest : {A B : Type 0} (P : List ℕ → Type 0) (says : A → Option B) (fault : Fault) (o : Option (A × List ℕ)) → IfSome o (λ x. P x.1) → IfOk (piece_or fault (kept says o)) (λ x. P x.1)
kept_rest P says fault None h = tt
kept_rest P says fault (Some x) h = said_rest P x.1 fault (says x.0) h

mapped : {A : Type 0} (P Q : List ℕ → Type 0) (o : Option (A × List ℕ)) → ((rest : List ℕ) → P rest → Q rest) → IfSome o (λ x. P x.1) → IfSome o (λ x. Q x.1)
mapped P Q None f h = tt
mapped P Q (Some x) f h = f x.1 h

-- a piece cuts off what its form says
abbrev Goes : {A : Type 0} → Form → List ℕ → Option (A × List ℕ) → Type 0
Goes f line o = IfSome o (λ x. IsFormed f line x.1)

-- .. wherever it is read
abbrev Cuts : {A : Type 0} → Piece → Pieces.Piece A → Type 0
Cuts p piece = (line : List ℕ) → IfSome (piece line) (λ x. IsPiece p line x.1)

part_goes : (p : Part) (line : List ℕ) (o : Option (ℕ × List ℕ)) → piece_of p line ≡ o → IfSome o (λ x. IsPiece (piece.Part p) line x.1)
part_goes p line None e = tt
part_goes p line (Some x) e = (x.0, e)

-- a name, as a number
name_goes : {A : Type 0} (f : A → ℕ) (p : Part) (line : List ℕ) (o : Option (A × List ℕ)) → piece_of p line ≡ numbered f o → IfSome o (λ x. IsPiece (piece.Part p) line x.1)
name_goes f p line None e = tt
name_goes f p line (Some x) e = (f x.0, e)

-- ---- numbers

padded_cut : (p : Padding) (n m least : ℕ) (whole : Bool) → least ≤ n → (whole ≡ true → (n ≡ least) × (m ≡ least)) → Cuts (padded_bytes p least whole) (taken (padded p n m))
unfolding padded
padded_cut padding.Zero n m least whole le exact = taken_cuts (λ place c. is_ascii_digit c) least whole (digits_between n m) (digits_hold (digits_value 10) n m least whole le exact)
padded_cut padding.Space n m least whole le exact = taken_cuts (λ place c. is_ascii_digit c || is_space c) least whole (spaced_between n m) (spaced_hold n m least whole le exact)
padded_cut padding.None n m least whole le exact = taken_cuts (λ place c. is_ascii_digit c) 1 false (digits_between 1 m) (digits_hold (digits_value 10) 1 m 1 false (omega arith) (λ e. absurd cc))

-- so many bytes
exact_cut : (p : Padding) (n : ℕ) → Cuts (padded_bytes p n true) (taken (padded p n n))
exact_cut p n = padded_cut p n n n true (omega arith) (λ e. (refl, refl))

run_cut : (f : Field) (most : ℕ) → Cuts (piece.Part (part.Run f most)) (taken (digits_between 1 most))
run_cut f most line = part_goes (part.Run f most) line (taken (digits_between 1 most) line) refl

digits_cut : (most : ℕ) → Cuts some_digits (taken (digits_between 1 most))
digits_cut most = taken_cuts (λ place c. is_ascii_digit c) 1 false (digits_between 1 most) (digits_hold (digits_value 10) 1 most 1 false (omega arith) (λ e. absurd cc))

one_digit : Cuts (piece.Bytes (exactly kind.Digit 1)) (taken (digits_between 1 1))
one_digit = taken_cuts (λ place c. is_ascii_digit c) 1 true (digits_between 1 1) (digits_hold (digits_value 10) 1 1 1 true (omega arith) (λ e. (refl, refl)))

pub padded_is : (p : Padding) (f : Field) (line : List ℕ) → piece_of (padded_part p f) line ≡ taken (padded p 2 2) line
padded_is padding.Zero f line = sym (taken_padded_exactly padding.Zero 2 line)
padded_is p f line = sym (taken_padded_exactly p 2 line)

two_cut : (p : Padding) (f : Field) → Cuts (piece.Part (padded_part p f)) (taken (padded p 2 2))
two_cut p f line = part_goes (padded_part p f) line (taken (padded p 2 2) line) (padded_is p f line)

pub taken_fraction : (n : ℕ) (bytes : List ℕ) → taken (fraction_between n n) bytes ≡ exact_fraction n bytes
unfolding exact_fraction
taken_fraction n bytes = taken_digits nanoseconds_of n n bytes (omega arith) ∙ elim (cases_lt (digit_count bytes) n) [
  | inl lt ↦ let few : nat_le n (digit_count bytes) ≡ false = grind (arith, nat_tests) in rw few refl
  | inr le ↦
      let enough : nat_le n (digit_count bytes) ≡ true = grind (arith, nat_tests) in
      let most : min (digit_count bytes) n ≡ n = omega (arith, le) in
      rw (enough, most) refl
]

fraction_cut : (d : SubsecondDigits) → Cuts (piece.Part (fraction_part d)) (taken (parsed.fraction_of d))
fraction_cut digits_of.OneOrMore line = part_goes part.OpenFraction line (taken (fraction_between 1 32) line) refl
fraction_cut d line = part_goes (fraction_part d) line (taken (parsed.fraction_of d) line) (sym (taken_fraction _ line))

-- ---- with a sign or without

under_rest : {A : Type 0} (P : List ℕ → Type 0) (b : Bool) (o : Option (A × List ℕ)) → IfSome o (λ x. P x.1) → IfSome (under b o) (λ x. P x.1)
under_rest P b None h = tt
under_rest P b (Some x) h = h

signed_at : (mandatory : Bool) (signed bare : Piece) (line after : List ℕ) (mark : ℕ) → sign line ≡ Some (mark, after) → (rest : List ℕ) → IsPiece signed after rest → IsFormed (signed_form mandatory signed bare) line rest
signed_at true signed bare line after mark e rest h = record { mark = mark; after = after; signed = e; there = h }
signed_at false signed bare line after mark e rest h = inl (record { mark = mark; after = after; signed = e; there = h })

by_sign_goes : (mandatory : Bool) (signed bare : Piece) (after without : Pieces.Piece ℕ) (line : List ℕ) (s : Option (ℕ × List ℕ)) → Cuts signed after → Cuts bare without → sign line ≡ s → Goes (signed_form mandatory signed bare) line (by_sign_if s mandatory after without line)
by_sign_goes mandatory signed bare after without line (Some x) h k e =
    under_rest (IsFormed (signed_form mandatory signed bare) line) (x.0 == 45) (after x.1) (mapped (IsPiece signed x.1) (IsFormed (signed_form mandatory signed bare) line) (after x.1) (signed_at mandatory signed bare line x.1 x.0 e) (h x.1))
by_sign_goes true signed bare after without line None h k e = tt
by_sign_goes false signed bare after without line None h k e =
    under_rest (IsFormed (signed_form false signed bare) line) false (without line) (mapped (IsPiece bare line) (IsFormed (signed_form false signed bare) line) (without line) (λ rest there. inr there) (k line))

-- a year, in its usual range or in one that is extended after a sign
after_year : (p : Padding) (extended : Bool) → Cuts (padded_bytes p 4 (not extended)) (taken (padded p 4 (if extended then 6 else 4)))
after_year p true = padded_cut p 4 6 4 false (omega arith) (λ e. absurd cc)
after_year p false = exact_cut p 4

after_century : (p : Padding) (extended : Bool) → Cuts (padded_bytes p 2 (not extended)) (taken (padded p 2 (if extended then 4 else 2)))
after_century p true = padded_cut p 2 4 2 false (omega arith) (λ e. absurd cc)
after_century p false = exact_cut p 2

full_year_cut : (p : Padding) → Cuts (full_year p) (taken (padded p 4 4))
full_year_cut padding.Zero line = part_goes (part.Digits field.Year 4) line (taken (padded padding.Zero 4 4) line) (sym (taken_padded_exactly padding.Zero 4 line))
full_year_cut p line = exact_cut p 4 line

-- ---- components

abbrev Formed : Component → Form → Type 0
Formed c f = (line : List ℕ) → IfOk (reads_component c line) (λ x. IsFormed f line x.1)

two_goes : (says : ℕ → Option Read) (fault : Fault) (p : Padding) (f : Field) (line : List ℕ) → IfOk (piece_or fault (kept says (taken (padded p 2 2) line))) (λ x. IsFormed (one (padded_part p f)) line x.1)
two_goes says fault p f line = kept_rest (IsFormed (one (padded_part p f)) line) says fault (taken (padded p 2 2) line) (two_cut p f line)

bytes_go : (says : ℕ → Option Read) (fault : Fault) (p : Padding) (n : ℕ) (line : List ℕ) → IfOk (piece_or fault (kept says (taken (padded p n n) line))) (λ x. IsFormed (form.Bare (padded_bytes p n true)) line x.1)
bytes_go says fault p n line = kept_rest (IsFormed (form.Bare (padded_bytes p n true)) line) says fault (taken (padded p n n) line) (exact_cut p n line)

digit_goes : (says : ℕ → Option Read) (fault : Fault) (line : List ℕ) → IfOk (piece_or fault (kept says (taken (digits_between 1 1) line))) (λ x. IsFormed (some_bytes (exactly kind.Digit 1)) line x.1)
digit_goes says fault line = kept_rest (IsFormed (some_bytes (exactly kind.Digit 1)) line) says fault (taken (digits_between 1 1) line) (one_digit line)

named_goes : {A : Type 0} (f : A → ℕ) (says : A → Option Read) (fault : Fault) (p : Part) (line : List ℕ) (o : Option (A × List ℕ)) → piece_of p line ≡ numbered f o → IfOk (piece_or fault (kept says o)) (λ x. IsFormed (one p) line x.1)
named_goes f says fault p line o e = kept_rest (IsFormed (one p) line) says fault o (name_goes f p line o e)

year_goes : (says : Bool × ℕ → Option Read) (fault : Fault) (p : Padding) (mandatory extended : Bool) (bare : Piece) (line : List ℕ) → Cuts bare (taken (padded p 4 4)) → IfOk (piece_or fault (kept says (taken (year p mandatory extended) line))) (λ x. IsFormed (year_form p mandatory extended bare) line x.1)
year_goes says fault p mandatory extended bare line h =
    kept_rest (IsFormed (year_form p mandatory extended bare) line) says fault (taken (year p mandatory extended) line)
    (rw (taken_year p mandatory extended line) (by_sign_goes mandatory (padded_bytes p 4 (not extended)) bare (taken (padded p 4 (if extended then 6 else 4))) (taken (padded p 4 4)) line (sign line) (after_year p extended) h refl))

century_goes : (says : Bool × ℕ → Option Read) (fault : Fault) (p : Padding) (mandatory extended : Bool) (line : List ℕ) → IfOk (piece_or fault (kept says (taken (century p mandatory extended) line))) (λ x. IsFormed (century_form p mandatory extended) line x.1)
century_goes says fault p mandatory extended line =
    kept_rest (IsFormed (century_form p mandatory extended) line) says fault (taken (century p mandatory extended) line)
    (rw (taken_century p mandatory extended line) (by_sign_goes mandatory (padded_bytes p 2 (not extended)) (padded_bytes p 1 false) (taken (padded p 2 (if extended then 4 else 2))) (taken (padded p 1 2)) line (sign line) (after_century p extended) (padded_cut p 1 2 1 false (omega arith) (λ e. absurd cc)) refl))

timestamp_goes : (says : Bool × ℕ → Option Read) (fault : Fault) (mandatory : Bool) (most : ℕ) (bare : Piece) (line : List ℕ) → Cuts bare (taken (digits_between 1 most)) → IfOk (piece_or fault (kept says (taken (timestamp mandatory most) line))) (λ x. IsFormed (timestamp_form mandatory bare) line x.1)
timestamp_goes says fault mandatory most bare line h =
    kept_rest (IsFormed (timestamp_form mandatory bare) line) says fault (taken (timestamp mandatory most) line)
    (rw (taken_timestamp mandatory most line) (by_sign_goes mandatory some_digits bare (taken (digits_between 1 most)) (taken (digits_between 1 most)) line (sign line) (digits_cut most) h refl))

hour_goes : (says : Bool × ℕ → Option Read) (fault : Fault) (p : Padding) (mandatory : Bool) (line : List ℕ) → IfOk (piece_or fault (kept says (taken (offset_hour p mandatory) line))) (λ x. IsFormed (hour_form p mandatory) line x.1)
hour_goes says fault p mandatory line =
    kept_rest (IsFormed (hour_form p mandatory) line) says fault (taken (offset_hour p mandatory) line)
    (rw (taken_offset_hour p mandatory line) (by_sign_goes mandatory (piece.Part (padded_part p field.OffsetHour)) (padded_bytes p 2 true) (taken (padded p 2 2)) (taken (padded p 2 2)) line (sign line) (two_cut p field.OffsetHour) (exact_cut p 2) refl))

-- bytes that are passed over, in version 3 where whole characters are
any_cut : (count : ℕ) (line : List ℕ) → IsFormed (some_bytes (exactly kind.Any count)) line (drop count line)
any_cut count line = ((λ place lt. refl), λ e. refl)

ignored_goes : (fault : Fault) (count : ℕ) (line : List ℕ) (enough : Bool) → IfOk (piece_or fault (if enough then Some (read.Nothing, drop count line) else None)) (λ x. IsFormed (some_bytes (exactly kind.Any count)) line x.1)
ignored_goes fault count line true = any_cut count line
ignored_goes fault count line false = tt

whole_goes : (fault : Fault) (count : ℕ) (line : List ℕ) (enough : Bool) → IfOk (piece_or fault (if_whole (if enough then Some (read.Nothing, drop count line) else None))) (λ x. IsFormed (some_bytes (exactly kind.Any count)) line x.1)
whole_goes fault count line true = ignored_goes fault count line (begins_character (drop count line))
whole_goes fault count line false = tt

-- anything at all
anything : (line : List ℕ) (x : Result (Read × List ℕ) Fault) → IfOk x (λ y. IsFormed (some_bytes (at_least kind.Any 0)) line y.1)
anything line (Ok y) = ((λ place lt. refl), λ e. absurd cc)
anything line (Err e) = tt

ruleset goes = (two_goes, bytes_go, digit_goes, year_goes, century_goes, timestamp_goes, hour_goes, anything, full_year_cut, exact_cut, digits_cut, run_cut)

pub component_formed : (c : Component) → Formed c (form_of c)
unfolding period reads_component reads_modern date_piece year_piece time_piece offset_piece ignored
component_formed (component.Period m) line = named_goes half_number (λ x. Some (read.Afternoon x)) _ (part.Name names.HalfOfDay (m.is_uppercase && m.case_sensitive)) line (taken (named (m.is_uppercase && m.case_sensitive) periods) line) refl
component_formed (component.Subsecond m) line = kept_rest (IsFormed (one (fraction_part m.digits)) line) (λ n. Some (read.Subsecond n)) _ (taken (parsed.fraction_of m.digits) line) (fraction_cut m.digits line)
component_formed (component.Ignore m) line = ignored_goes _ m.count line (nat_le m.count (length line))
component_formed (component.MonthShort m) line = named_goes month_number (λ x. Some (read.Month x)) _ (part.Name names.ShortMonth m.case_sensitive) line (taken (named m.case_sensitive short_months) line) refl
component_formed (component.MonthLong m) line = named_goes month_number (λ x. Some (read.Month x)) _ (part.Name names.LongMonth m.case_sensitive) line (taken (named m.case_sensitive long_months) line) refl
component_formed (component.WeekdayShort m) line = named_goes weekday_number (λ x. Some (read.Weekday x)) _ (part.Name names.ShortWeekday m.case_sensitive) line (taken (named m.case_sensitive short_weekdays) line) refl
component_formed (component.WeekdayLong m) line = named_goes weekday_number (λ x. Some (read.Weekday x)) _ (part.Name names.LongWeekday m.case_sensitive) line (taken (named m.case_sensitive long_weekdays) line) refl
component_formed c line = search goes

pub component_formed_v3 : (c : Component) (line : List ℕ) → IfOk (reads_component_v3 c line) (λ x. IsFormed (form_of c) line x.1)
unfolding reads_component_v3 ignored
component_formed_v3 (component.Ignore m) line = whole_goes _ m.count line (nat_le m.count (length line))
component_formed_v3 c line = component_formed c line
