-- Each component reads what its parts say.
use Rattle.std.proofs.Common.{◌≡◌, ◌∙◌, ◌≤◌, ◌<◌, ℕ, Bool, true, false, List, [], ◌∷◌, ◌++◌, map, length, take, drop, Option, Some, None, Ok, pos, refl, sym, ap, arith}
use Rattle.std.specs.Prelude.{◌==◌, ◌&&◌, ◌||◌, bytes_eq, option_map, nat_le}
use Rattle.std.specs.Char.{is_ascii_digit}
use Rattle.std.specs.Int.{is_in_range}
use Rattle.std.specs.Str.Parse.{digits_value}
use Rattle.std.proofs.lemmas.Bool.Decides.{nat_tests}
use Rattle.std.proofs.Math.Seq.{take-append_seam, drop-append_seam}
use Rattle.std.proofs.lemmas.List.Sums.{prefix_len_passes}
use Rattle.std.proofs.lemmas.Slice.Eq.{bytes_eq-Decides}
use Rattle.calendar_count.specs.Month.{month_number}
use Rattle.calendar_count.specs.Range.{greatest_year}
use Rattle.calendar_count.specs.declared.month.Month.{Month}
use Rattle.calendar_count.specs.declared.weekday.Weekday.{Weekday}
use Rattle.calendar_count.specs.declared.weekday.Weekday.TheVariants as weekday
use Rattle.description_modifiers.specs.declared.choices.Padding.{Padding}
use Rattle.description_modifiers.specs.declared.choices.Padding.TheVariants as padding
use Rattle.description_modifiers.specs.declared.choices.SubsecondDigits.{SubsecondDigits}
use Rattle.description_modifiers.specs.declared.choices.SubsecondDigits.TheVariants as digits_of
use Rattle.description_items.specs.declared.component.Component.{Component}
use Rattle.description_items.specs.declared.component.Component.TheVariants as component
use Rattle.description_items.specs.Tree.{Literal}
use Rattle.description_items.specs.Tree as tree
use Rattle.parsing_combinator.specs.Fault.{Fault}
use Rattle.parsing_combinator.specs.Pieces.{digits, sign, byte_of, digit_count}
use Rattle.parsing_combinator.specs.Readings.{Reading, piece_or}
use Rattle.parsing_combinator.specs.Shape.{taken, digits_between, fraction_between}
use Rattle.parsing_combinator.specs.Names.{named, period, periods, short_months, long_months, short_weekdays, long_weekdays}
use Rattle.parsing_combinator.specs.Numbers.{padded, offset_hour, timestamp, year}
use Rattle.parsing_combinator.proofs.Components.{taken_padded_exactly, taken_offset_hour, taken_timestamp, taken_year}
use Rattle.parsing_combinator.proofs.FractionDigits.{digits_read}
use Rattle.parsing_combinator.proofs.Longest.{taken_digits}
use Rattle.parsing_components.specs.Component as parsed
use Rattle.parsing_components.specs.Component.{reads_component, reads_component_v3, reads_modern, date_piece, year_piece, time_piece, offset_piece}
use Rattle.parsing_components.specs.Put.{put, putting}
use Rattle.parsing_components.specs.Ranged.{kept, between, up_to, counted, months, from_monday, since_epoch}
use Rattle.parsing_components.specs.declared.said.Read.{Read}
use Rattle.parsing_components.specs.declared.said.Read.TheVariants as read
use Rattle.parsing_components.proofs.Entries.{month_entry}
use Rattle.parsing_components.specs.Meaning.{literally}
use Rattle.parsing_components.specs.Reads.{Language, reading, reads}
use Rattle.parsing_components.specs.declared.fields.Record.{Record}
use Rattle.parsing_layout.specs.Layout.{Values, Says, piece_of, value_of, field_of, weekday_number, half_number}
use Rattle.parsing_layout.specs.declared.parts.Field.{Field}
use Rattle.parsing_layout.specs.declared.parts.Part.{Part}
use Rattle.parsing_layout.specs.declared.stretch.Stretch.{Stretch}
use Rattle.parsing_layout.specs.declared.parts.Field.TheVariants as field
use Rattle.parsing_layout.specs.declared.parts.Names.TheVariants as names
use Rattle.parsing_layout.specs.declared.parts.Part.TheVariants as part
use Rattle.parsing_layout.proofs.LayoutLemmas.{numbered}
use Rattle.parsing_layout.proofs.PieceLemmas.{inside, literal_said, byte_is}
use Rattle.parsing_item_layouts.specs.Forms.{padded_part, fraction_part, full_year, year_form, hour_form, signed_form, timestamp_form}
use Rattle.parsing_item_layouts.specs.declared.forms.Piece.TheVariants as piece
use Rattle.parsing_item_layouts.proofs.FormLemmas.{padded_is, taken_fraction}
use Rattle.parsing_item_parts.specs.Items.{said, said_by, set_all, IsItem, parts_in, parts_of}
use Rattle.parsing_item_parts.proofs.ItemLemmas.{chosen}

-- a reading of one part
part_item : (reading : Reading Read) (p : Part)
    → ((line rest : List ℕ) (v : Values) (x : Read) → piece_of p line ≡ Some (value_of p v, rest) → said_by (field_of p) v ≡ Some x → reading line ≡ Ok (x, rest)) → IsItem (putting reading) (p ∷ [])
part_item reading p h line v rest r new says sets =
    let c = chosen (said_by (field_of p) v) [] v r new sets in
    let there : piece_of p line ≡ Some (value_of p v, rest) = rw says.2 at says.1 in
    let same : put c.0 r ≡ new = inside (put c.0 r) new c.2 in
    rw (h line rest v c.0 there c.1, same) refl

-- a component reads what its parts say
abbrev Reads : Component → Type 0
Reads c = (ps : List Part) → parts_of c ≡ Some ps → IsItem (putting (reads_component c)) ps

-- ---- numbers of two digits

padded_as : (p : Padding) (f : Field) (v : Values) → (field_of (padded_part p f) ≡ Some f) × (value_of (padded_part p f) v ≡ v f)
padded_as padding.Zero f v = (refl, refl)
padded_as p f v = (refl, refl)

two_item : (c : Component) (fault : Fault) (p : Padding) (f : Field) → parts_of c ≡ Some (padded_part p f ∷ [])
    → ((line : List ℕ) → reads_component c line ≡ piece_or fault (kept (λ n. said f (λ _. n)) (taken (padded p 2 2) line)))
    → ((v : Values) → said f v ≡ said f (λ _. v f)) → Reads c
two_item c fault p f parts is same ps e = rw (← inside _ ps (sym parts ∙ e)) (part_item (reads_component c) (padded_part p f) (λ line rest v x s k.
    let part_is = padded_as p f v in
    let there : piece_of (padded_part p f) line ≡ Some (v f, rest) = rw part_is.1 at s in
    let said_it : said_by (Some f) v ≡ Some x = rw part_is.0 at k in
    rw (is line, sym (padded_is p f line) ∙ there, sym (same v) ∙ said_it) refl))

-- ---- names

number_said : {A : Type 0} → (number : A → ℕ) (o : Option (A × List ℕ)) (n : ℕ) (rest : List ℕ) → numbered number o ≡ Some (n, rest)
    → (a : A) × (o ≡ Some (a, rest)) × (number a ≡ n)
number_said number None n rest e = absurd cc
number_said number (Some x) n rest e =
    let same = inside (number x.0, x.1) (n, rest) e in
    (x.0, ap (λ (r : List ℕ). Some (x.0, r)) (ap (λ (z : ℕ × List ℕ). z.1) same), ap (λ (z : ℕ × List ℕ). z.0) same)

name_read : {A : Type 0} → (fault : Fault) (number : A → ℕ) (make : A → Read) (back : ℕ → Option Read)
    → ((a : A) (n : ℕ) → number a ≡ n → back n ≡ Some (make a)) → (o : Option (A × List ℕ)) (n : ℕ) (rest : List ℕ) (x : Read)
    → numbered number o ≡ Some (n, rest) → back n ≡ Some x → piece_or fault (kept (λ a. Some (make a)) o) ≡ Ok (x, rest)
name_read fault number make back there o n rest x e k =
    let s = number_said number o n rest e in
    let same : make s.0 ≡ x = inside (make s.0) x (sym (there s.0 n s.2) ∙ k) in
    rw (s.1, same) refl

weekday_there : (w : Weekday) → counted true from_monday (weekday_number w) ≡ Some w
weekday_there weekday.Monday = refl
weekday_there w = refl

abbrev month_said : ℕ → Option Read
month_said n = option_map read.Month (counted true months n)

abbrev weekday_said : ℕ → Option Read
weekday_said n = option_map read.Weekday (counted true from_monday n)

month_back : (m : Month) (n : ℕ) → month_number m ≡ n → month_said n ≡ Some (read.Month m)
month_back m n e = rw (month_entry m n e) refl

weekday_back : (w : Weekday) (n : ℕ) → weekday_number w ≡ n → weekday_said n ≡ Some (read.Weekday w)
weekday_back w n e = rw (← e, weekday_there w) refl

half_back : (b : Bool) (n : ℕ) → half_number b ≡ n → Some (read.Afternoon (n == 1)) ≡ Some (read.Afternoon b)
half_back true n e = rw (← e) refl
half_back false n e = rw (← e) refl

-- ---- fractions

abbrev subsecond_said : ℕ → Option Read
subsecond_said n = Some (read.Subsecond n)

exact_item : (reading : Reading Read) (fault : Fault) (n : ℕ)
    → ((line : List ℕ) → reading line ≡ piece_or fault (kept subsecond_said (taken (fraction_between n n) line)))
    → IsItem (putting reading) (part.Fraction n ∷ [])
exact_item reading fault n is =
    part_item reading (part.Fraction n)
    (λ line rest v x s k. is line ∙ rw (taken_fraction n line, s, inside (read.Subsecond (v field.Nanosecond)) x k) refl)

fraction_item : (reading : Reading Read) (fault : Fault) (d : SubsecondDigits)
    → ((line : List ℕ) → reading line ≡ piece_or fault (kept subsecond_said (taken (parsed.fraction_of d) line)))
    → IsItem (putting reading) (fraction_part d ∷ [])
fraction_item reading fault digits_of.OneOrMore is =
    part_item reading part.OpenFraction (λ line rest v x s k. is line ∙ rw (s, inside (read.Subsecond (v field.Nanosecond)) x k) refl)
fraction_item reading fault d is = exact_item reading fault _ is

-- ---- digits without a sign

pub no_sign : (line : List ℕ) → 0 < digit_count line → sign line ≡ None
unfolding byte_of
no_sign [] some = refl
no_sign (c ∷ cs) some =
    let digit = prefix_len_passes is_ascii_digit (c ∷ cs) 0 0 some in
    let same : ((c == 43) || (c == 45)) ≡ false = grind (arith, nat_tests, digit) in
    rw same refl

small_year : (n : ℕ) → is_in_range 0 9999 n ≡ true → nat_le n greatest_year ≡ true
small_year n e = grind (arith, nat_tests)

abbrev any_year : Bool × ℕ → Option Read
any_year = up_to greatest_year (λ negative y. read.Year y)

year_in : (b : Bool) (n : ℕ) (x : Read) → is_in_range 0 9999 n ≡ b → between 0 9999 (λ y. read.Year (pos y)) n ≡ Some x → any_year (false, n) ≡ Some x
year_in true n x is e = rw (small_year n is) (rw is at e)
year_in false n x is e = absurd (let never : None ≡ Some x = rw is at e in cc)

year_read : (fault : Fault) (extended : Bool) (line rest : List ℕ) (n : ℕ) (x : Read) → digits 4 line ≡ Some (n, rest)
    → between 0 9999 (λ y. read.Year (pos y)) n ≡ Some x
    → piece_or fault (kept any_year (taken (year padding.Zero false extended) line)) ≡ Ok (x, rest)
year_read fault extended line rest n x e k =
    let d = digits_read 4 line n rest e in
    rw
    (taken_year padding.Zero false extended line, no_sign line (omega (arith, d.enough)), taken_padded_exactly padding.Zero 4 line, e, year_in (is_in_range 0 9999 n) n x refl k) refl

year_item : (reading : Reading Read) (fault : Fault) (extended : Bool) (p : Padding) (mandatory : Bool) (ps : List Part)
    → ((line : List ℕ) → reading line ≡ piece_or fault (kept any_year (taken (year p mandatory extended) line)))
    → parts_in (year_form p mandatory extended (full_year p)) ≡ Some ps → IsItem (putting reading) ps
year_item reading fault extended padding.Zero false ps is e =
    rw (← inside _ ps e)
    (part_item reading (part.Digits field.Year 4) (λ line rest v x s k. is line ∙ year_read fault extended line rest (v field.Year) x s k))
year_item reading fault extended p true ps is e = absurd cc
year_item reading fault extended p false ps is e = absurd cc

some_digits_there : (b : Bool) (most : ℕ) (line rest : List ℕ) (n : ℕ) → 1 ≤ most → nat_le 1 (digit_count line) ≡ b
    → taken (digits_between 1 most) line ≡ Some (n, rest) → 0 < digit_count line
some_digits_there true most line rest n le is e = grind (arith, nat_tests)
some_digits_there false most line rest n le is e =
    absurd (let none = rw is at (taken_digits (digits_value 10) 1 most line le) in let never : None ≡ Some (n, rest) = sym none ∙ e in cc)

abbrev unix_said : Bool × ℕ → Option Read
unix_said = since_epoch read.Unix 1_000_000_000

unix_read : (fault : Fault) (line rest : List ℕ) (n : ℕ) (x : Read) → taken (digits_between 1 14) line ≡ Some (n, rest)
    → unix_said (false, n) ≡ Some x → piece_or fault (kept unix_said (taken (timestamp false 14) line)) ≡ Ok (x, rest)
unix_read fault line rest n x e k =
    rw (taken_timestamp false 14 line, no_sign line (some_digits_there (nat_le 1 (digit_count line)) 14 line rest n (omega arith) refl e), e, k) refl

unix_item : (reading : Reading Read) (fault : Fault) (mandatory : Bool) (ps : List Part)
    → ((line : List ℕ) → reading line ≡ piece_or fault (kept unix_said (taken (timestamp mandatory 14) line)))
    → parts_in (timestamp_form mandatory (piece.Part (part.Run field.Unix 14))) ≡ Some ps → IsItem (putting reading) ps
unix_item reading fault false ps is e =
    rw (← inside _ ps e) (part_item reading (part.Run field.Unix 14) (λ line rest v x s k. is line ∙ unix_read fault line rest (v field.Unix) x s k))
unix_item reading fault true ps is e = absurd cc

-- ---- offsets

abbrev hour_said : Bool × ℕ → Option Read
hour_said = up_to 25 (λ negative hour. read.OffsetHour hour negative)

hour_item : (reading : Reading Read) (fault : Fault) (p : Padding) (mandatory : Bool) (ps : List Part)
    → ((line : List ℕ) → reading line ≡ piece_or fault (kept hour_said (taken (offset_hour p mandatory) line)))
    → parts_in (hour_form p mandatory) ≡ Some ps → IsItem (putting reading) ps
hour_item reading fault p false ps is e = absurd cc
hour_item reading fault p true ps is e = rw (← inside _ ps e) (λ line v rest r new says sets.
    let hour = says.2 in
    let part_is = padded_as p field.OffsetHour v in
    let c = chosen (said_by (field_of (padded_part p field.OffsetHour)) v) [] v r new sets in
    let there : piece_of (padded_part p field.OffsetHour) says.0 ≡ Some (v field.OffsetHour, rest) = rw (hour.2, part_is.0) at hour.1 in
    let taken_is : taken (padded p 2 2) says.0 ≡ Some (v field.OffsetHour, rest) = sym (padded_is p field.OffsetHour says.0) ∙ there in
    let says_it : hour_said (v field.Sign == 45, v field.OffsetHour) ≡ Some c.0 = sym (ap (λ (o : Option Field). said_by o v) part_is.0) ∙ c.1 in
    let same : put c.0 r ≡ new = inside (put c.0 r) new c.2 in
    rw (is line, taken_offset_hour p true line, says.1, taken_is, says_it, same) refl)

-- ---- components

-- bytes after a sign or without one are no parts
no_parts : (mandatory : Bool) (signed bare : Stretch) (ps : List Part)
    → parts_in (signed_form mandatory (piece.Bytes signed) (piece.Bytes bare)) ≡ Some ps → ⊥
no_parts true signed bare ps e = absurd cc
no_parts false signed bare ps e = absurd cc

component_is : (c : Component) → Reads c
unfolding period reads_component reads_modern date_piece year_piece time_piece offset_piece
component_is (component.Day m) ps e = two_item (component.Day m) _ m.padding field.Day refl (λ line. refl) (λ v. refl) ps e
component_is (component.MonthNumerical m) ps e = two_item (component.MonthNumerical m) _ m.padding field.Month refl (λ line. refl) (λ v. refl) ps e
component_is (component.MonthShort m) ps e =
    rw (← inside _ ps e)
    (part_item (reads_component (component.MonthShort m)) (part.Name names.ShortMonth m.case_sensitive) (λ line rest v x s k. name_read _ month_number read.Month month_said month_back (taken (named m.case_sensitive short_months) line) (v field.Month) rest x s k))
component_is (component.MonthLong m) ps e =
    rw (← inside _ ps e)
    (part_item (reads_component (component.MonthLong m)) (part.Name names.LongMonth m.case_sensitive) (λ line rest v x s k. name_read _ month_number read.Month month_said month_back (taken (named m.case_sensitive long_months) line) (v field.Month) rest x s k))
component_is (component.WeekdayShort m) ps e =
    rw (← inside _ ps e)
    (part_item (reads_component (component.WeekdayShort m)) (part.Name names.ShortWeekday m.case_sensitive) (λ line rest v x s k. name_read _ weekday_number read.Weekday weekday_said weekday_back (taken (named m.case_sensitive short_weekdays) line) (v field.Weekday) rest x s k))
component_is (component.WeekdayLong m) ps e =
    rw (← inside _ ps e)
    (part_item (reads_component (component.WeekdayLong m)) (part.Name names.LongWeekday m.case_sensitive) (λ line rest v x s k. name_read _ weekday_number read.Weekday weekday_said weekday_back (taken (named m.case_sensitive long_weekdays) line) (v field.Weekday) rest x s k))
component_is (component.WeekNumberIso m) ps e = two_item (component.WeekNumberIso m) _ m.padding field.IsoWeek refl (λ line. refl) (λ v. refl) ps e
component_is (component.Hour24 m) ps e = two_item (component.Hour24 m) _ m.padding field.Hour refl (λ line. refl) (λ v. refl) ps e
component_is (component.Hour12 m) ps e = two_item (component.Hour12 m) _ m.padding field.HourOfHalf refl (λ line. refl) (λ v. refl) ps e
component_is (component.Minute m) ps e = two_item (component.Minute m) _ m.padding field.Minute refl (λ line. refl) (λ v. refl) ps e
component_is (component.Second m) ps e = two_item (component.Second m) _ m.padding field.Second refl (λ line. refl) (λ v. refl) ps e
component_is (component.Period m) ps e =
    rw (← inside _ ps e)
    (part_item (reads_component (component.Period m)) (part.Name names.HalfOfDay (m.is_uppercase && m.case_sensitive)) (λ line rest v x s k. name_read _ half_number read.Afternoon (λ n. Some (read.Afternoon (n == 1))) half_back (taken (named (m.is_uppercase && m.case_sensitive) periods) line) (v field.Half) rest x s k))
component_is (component.Subsecond m) ps e = rw (← inside _ ps e) (fraction_item (reads_component (component.Subsecond m)) _ m.digits (λ line. refl))
component_is (component.CalendarYearFullExtendedRange m) ps e =
    year_item (reads_component (component.CalendarYearFullExtendedRange m)) _ true m.padding m.sign_is_mandatory ps (λ line. refl) e
component_is (component.CalendarYearFullStandardRange m) ps e =
    year_item (reads_component (component.CalendarYearFullStandardRange m)) _ false m.padding m.sign_is_mandatory ps (λ line. refl) e
component_is (component.IsoYearFullExtendedRange m) ps e = absurd (no_parts m.sign_is_mandatory _ _ ps e)
component_is (component.IsoYearFullStandardRange m) ps e = absurd (no_parts m.sign_is_mandatory _ _ ps e)
component_is (component.CalendarYearCenturyExtendedRange m) ps e = absurd (no_parts m.sign_is_mandatory _ _ ps e)
component_is (component.CalendarYearCenturyStandardRange m) ps e = absurd (no_parts m.sign_is_mandatory _ _ ps e)
component_is (component.IsoYearCenturyExtendedRange m) ps e = absurd (no_parts m.sign_is_mandatory _ _ ps e)
component_is (component.IsoYearCenturyStandardRange m) ps e = absurd (no_parts m.sign_is_mandatory _ _ ps e)
component_is (component.OffsetHour m) ps e = hour_item (reads_component (component.OffsetHour m)) _ m.padding m.sign_is_mandatory ps (λ line. refl) e
component_is (component.OffsetMinute m) ps e = two_item (component.OffsetMinute m) _ m.padding field.OffsetMinute refl (λ line. refl) (λ v. refl) ps e
component_is (component.UnixTimestampSecond m) ps e =
    unix_item (reads_component (component.UnixTimestampSecond m)) _ m.sign_is_mandatory ps (λ line. refl) e
component_is (component.UnixTimestampMillisecond m) ps e = absurd (no_parts m.sign_is_mandatory _ _ ps e)
component_is (component.UnixTimestampMicrosecond m) ps e = absurd (no_parts m.sign_is_mandatory _ _ ps e)
component_is (component.UnixTimestampNanosecond m) ps e = absurd (no_parts m.sign_is_mandatory _ _ ps e)
component_is c ps e = absurd cc

-- version 3 reads these components alike
same_v3 : (c : Component) (ps : List Part) (line : List ℕ) → parts_of c ≡ Some ps → reads_component_v3 c line ≡ reads_component c line
unfolding reads_component_v3
same_v3 (component.Ignore m) ps line e = absurd cc
same_v3 c ps line e = refl

-- ---- literals

text_there : (text line rest : List ℕ) (v : Values) → Says (map part.Byte text) line v rest → line ≡ text ++ rest
text_there [] line rest v says = says
text_there (c ∷ cs) line rest v says =
    byte_is c line says.0 (literal_said _ says.0 says.1) ∙ ap (λ (xs : List ℕ). c ∷ xs) (text_there cs says.0 rest v says.2)

text_sets : (text : List ℕ) (v : Values) (r : Record) → set_all (map part.Byte text) v r ≡ Some r
text_sets [] v r = refl
text_sets (c ∷ cs) v r = text_sets cs v r

pub literal_item : (language : Language) (text : List ℕ) → IsItem (reading language (Literal text)) (map part.Byte text)
unfolding reads literally
literal_item language text line v rest r new says sets =
    let e = text_there text line rest v says in
    let there : take (length text) line ≡ text = ap (take (length text)) e ∙ take-append_seam text rest in
    let after : drop (length text) line ≡ rest = ap (drop (length text)) e ∙ drop-append_seam text rest in
    let same : bytes_eq (take (length text) line) text ≡ true = (bytes_eq-Decides (take (length text) line) text).1 there in
    let kept_record : r ≡ new = inside r new (sym (text_sets text v r) ∙ sets) in
    rw (same, after, kept_record) refl

-- ---- in each language

pub component_read : (c : Component) (ps : List Part) → parts_of c ≡ Some ps → IsItem (reading reads_component (tree.Part c)) ps
unfolding reads
component_read c ps e = component_is c ps e

pub component_read_v3 : (c : Component) (ps : List Part) → parts_of c ≡ Some ps → IsItem (reading reads_component_v3 (tree.Part c)) ps
unfolding reads
component_read_v3 c ps e line v rest r new says sets = rw (same_v3 c ps line e) (component_is c ps e line v rest r new says sets)
