-- A text that says a layout from its day on is read by the definition of RFC 2822, and names the moment of its values.
use Rattle.std.proofs.Common.{◌≡◌, ◌≤◌, ◌<◌, ◌∙◌, ℕ, inl, inr, Bool, true, false, List, [], ◌∷◌, length, get_or, drop, leb, Option, Some, None, Ok, refl, sym, ap, arith, lit<, lit≤, ℤ, pos}
use Rattle.std.specs.Prelude.{◌⊎◌, ◌==◌, ◌||◌, ◌&&◌, ◌+◌, ◌*◌, ◌*ℤ◌, IsTrue, if◌then◌else◌, nat_lt}
use Rattle.std.specs.Char.{is_ascii_digit}
use Rattle.std.specs.Option.{unwrap_or}
use Rattle.std.proofs.lemmas.Bool.{cases_lt}
use Rattle.std.proofs.lemmas.Bool.Decides.{nat_tests}
use Rattle.std.proofs.lemmas.List.{drop-drop, drop_all, get_or-drop, take_rest}
use Rattle.base.specs.Bytes.{space, colon, hyphen, plus}
use Rattle.calendar.specs.Time.{time_of}
use Rattle.calendar_count.specs.Month.{month_number}
use Rattle.calendar_count.specs.declared.month.Month.{Month}
use Rattle.parsing_combinator.specs.Pieces.{digits, byte, byte_of, any_byte, skip_of, sign}
use Rattle.parsing_combinator.specs.declared.zone.Zone.{Zone}
use Rattle.parsing_combinator.proofs.AtPlaces.{at_least}
use Rattle.parsing_combinator.proofs.Fixed.{some_if, digits_two, digits_four}
use Rattle.parsing_combinator.proofs.FractionDigits.{digits_read}
use Rattle.parsing_values.specs.Resolution.{permitted_time_of, signed_offset_of}
use Rattle.parsing_values.specs.StandIn.{leap_checked}
use Rattle.parsing_values.specs.declared.fields.Fields.{Fields}
use Rattle.parsing_values.specs.Moment as Moment
use Rattle.parsing_values.specs.Moment.{day_of_fields, time_of_fields}
use Rattle.parsing_values.specs.Numbers.{HaveNumbers}
use Rattle.parsing_values.proofs.lemmas.Moments.{fields_date, fields_time, moment_is}
use Rattle.parsing_layout.specs.Layout.{Values, Says}
use Rattle.parsing_shapes.specs.Named.{SaysNamed}
use Rattle.parsing_layout.specs.declared.parts.Part.{Part}
use Rattle.parsing_layout.specs.declared.parts.Field.TheVariants as field
use Rattle.parsing_layout.specs.declared.parts.Part.TheVariants as part
use Rattle.parsing_layout.proofs.LayoutLemmas.{says_first}
use Rattle.parsing_layout.proofs.PieceLemmas.{inside, literal_said, byte_is, sign_is}
use Rattle.parsing_rfc2822.specs.Skips.{rest_or, optional, byte_where}
use Rattle.parsing_rfc2822.specs.WhiteSpace.{comments_and_white_space, folding_white_space}
use Rattle.parsing_rfc2822.proofs.WhiteSpaceLemmas.{none_at, none_of_nothing, none_there, one_space_there, folding_space_there}
use Rattle.parsing_rfc2822.specs.Names.{month, zone_of, zone_name}
use Rattle.parsing_rfc2822.specs.Reading.{spaced_colon, one_or_two_digits, full_year, short_year, year, month_and_year, hour_and_minute, due_second, second, clock, signed_zone, named_zone, zone, spaced_zone, rfc2822}
use Rattle.parsing_rfc2822.specs.declared.parts.Rfc2822Parts.{Rfc2822Parts}
use Rattle.parsing_rfc2822.specs.Direct.{direct, moment, moment_of}
use Rattle.parsing_rfc2822_shapes.specs.Layout.{name_parts, month_parts, short_month_parts, minute_parts, second_parts, offset_parts, minute_zone_parts, usual_parts, short_from_day, HasZone, SaysDate, SaysFields}
use Rattle.parsing_rfc2822_shapes.specs.Names.{HasMonth}
use Rattle.parsing_rfc2822_shapes.proofs.FrontLemmas.{digits_begin}

-- ---- bytes before which one space is all that is skipped

record Begins (bytes : List ℕ) : Type 0 where
  some : 1 ≤ length bytes
  high : 41 ≤ get_or bytes 0 0

of_digits : (n : ℕ) (bytes rest : List ℕ) (m : ℕ) → 0 < n → digits n bytes ≡ Some (m, rest) → Begins bytes
of_digits n bytes rest m some e = let d = digits_begin n bytes rest m some e in record { some = d.0; high = omega (arith, d.1.low) }

least_sign : (c : ℕ) → ((c == plus) || (c == hyphen)) ≡ true → 41 ≤ c
least_sign c sign = grind (arith, nat_tests)

of_sign : (bytes rest : List ℕ) (mark : ℕ) → sign bytes ≡ Some (mark, rest) → Begins bytes
of_sign bytes rest mark e = let s = sign_is bytes rest mark e in rw s.all (record { some = omega arith; high = least_sign mark s.is })

space_read : (bytes rest : List ℕ) → byte space bytes ≡ Some (tt, rest) → Begins rest → comments_and_white_space bytes ≡ Some rest
space_read bytes rest e b =
    rw (byte_is space bytes rest e) (one_space_there (space ∷ rest) (omega (arith, b.some)) refl (omega (arith, b.high)) ∙ ap (λ (t : List ℕ). Some t) (take_rest (space ∷ rest) 1))

folding_read : (bytes rest : List ℕ) → byte space bytes ≡ Some (tt, rest) → Begins rest → folding_white_space bytes ≡ Some rest
folding_read bytes rest e b =
    rw (byte_is space bytes rest e) (folding_space_there (space ∷ rest) (omega (arith, b.some)) refl (omega (arith, b.high)) ∙ ap (λ (t : List ℕ). Some t) (take_rest (space ∷ rest) 1))

colon_read : (bytes rest : List ℕ) → byte colon bytes ≡ Some (tt, rest) → Begins rest → spaced_colon bytes ≡ Some rest
unfolding spaced_colon byte_where
colon_read bytes rest e b =
    let free = none_there rest b.some (omega (arith, b.high)) in
    rw (byte_is colon bytes rest e, none_at colon rest (lit≤ tt)) (ap (λ o. Some (rest_or o rest)) free)

-- ---- the day

none_two : (a b : Bool) (n : ℕ) (rest : List ℕ) → some_if (a && (b && false)) n rest ≡ None
none_two true true n rest = refl
none_two a b n rest = refl

day_read : (count : ℕ) (bytes rest after : List ℕ) (n : ℕ) → (count ≡ 1) ⊎ (count ≡ 2) → digits count bytes ≡ Some (n, rest) → byte space rest ≡ Some (tt, after) → one_or_two_digits bytes ≡ Some (n, rest)
unfolding one_or_two_digits
day_read count bytes rest after n (inl one) e s =
    let digit : digits 1 bytes ≡ Some (n, rest) = rw one at e in
    let next : get_or bytes 1 0 ≡ space = sym (rw ((digits_read 1 bytes n rest digit).after, byte_is space rest after s) at (get_or-drop 1 bytes 0 0)) in
    let two : digits 2 bytes ≡ None = digits_two bytes ∙ rw next (none_two (leb 2 (length bytes)) (is_ascii_digit (get_or bytes 0 0)) _ _) in
    rw (two, digit) refl
day_read count bytes rest after n (inr two) e s = let digits_there : digits 2 bytes ≡ Some (n, rest) = rw two at e in rw digits_there refl

-- ---- the month and the year

any_is : (bytes rest : List ℕ) → any_byte bytes ≡ Some (tt, rest) → bytes ≡ get_or bytes 0 0 ∷ rest
unfolding skip_of
any_is [] rest e = absurd cc
any_is (x ∷ xs) rest e = ap (λ (t : List ℕ). x ∷ t) (ap (λ (z : Unit {0} × List ℕ). z.1) (inside (tt, xs) (tt, rest) e))

-- the name of a month is read between spaces
record ReadsName (bytes rest : List ℕ) (m : Month) : Type 0 where
  first : List ℕ
  second : List ℕ
  before : comments_and_white_space bytes ≡ Some first
  named : month first ≡ Some (m, second)
  space_there : byte space second ≡ Some (tt, rest)
  rest_is : drop 5 bytes ≡ rest

name_read : (bytes rest : List ℕ) (v : Values) (number : ℕ) (m : HasMonth bytes number) → Says name_parts bytes v rest → ReadsName bytes rest m.month_is
name_read bytes rest v number m says =
    let second = says.2.2 in
    let third = second.2 in
    let after = third.2 in
    let before = literal_said _ _ says.1 in
    let last : byte space third.0 ≡ Some (tt, rest) = rw after.2 at (literal_said _ _ after.1) in
    let all : bytes ≡ space ∷ says.0 = byte_is space bytes says.0 before in
    let letters : says.0 ≡ get_or says.0 0 0 ∷ get_or says.2.0 0 0 ∷ get_or second.0 0 0 ∷ third.0 =
    any_is _ _ (literal_said _ _ says.2.1) ∙ ap (λ (t : List ℕ). get_or says.0 0 0 ∷ t) (any_is _ _ (literal_said _ _ second.1) ∙ ap (λ (t : List ℕ). get_or says.2.0 0 0 ∷ t) (any_is _ _ (literal_said _ _ third.1))) in
    let one : drop 1 bytes ≡ says.0 = ap (drop 1) all in
    let four : drop 4 bytes ≡ third.0 = ap (drop 4) all ∙ ap (drop 3) letters in
    let first : Begins says.0 = record { some = rw letters (omega arith); high = rw all at m.letter } in
    record {
      first = says.0;
      second = third.0;
      before = space_read bytes says.0 before first;
      named = rw (one, four) at m.named;
      space_there = last;
      rest_is = ap (drop 5) all ∙ ap (drop 4) letters ∙ ap (drop 1) (byte_is space third.0 rest last);
    }

month_read : (bytes rest : List ℕ) (v : Values) (number : ℕ) (m : HasMonth bytes number) → Says month_parts bytes v rest → 1900 ≤ v field.Year → Begins rest → month_and_year bytes ≡ Ok ((m.month_is, v field.Year), rest)
unfolding month_and_year year full_year
month_read bytes rest v number m says enough ends =
    let s = says_first name_parts (part.Digits field.Year 4 ∷ part.Byte space ∷ []) bytes rest v says in
    let n = name_read bytes s.0 v number m s.1 in
    let written = s.2 in
    let last = written.2 in
    rw (n.before, n.named, space_read n.second s.0 n.space_there (of_digits 4 s.0 written.0 (v field.Year) (lit< tt) written.1), written.1, at_least 1900 (v field.Year) enough, folding_read written.0 rest (rw last.2 at (literal_said _ _ last.1)) ends) refl

no_four : (bytes after rest : List ℕ) (n : ℕ) → digits 2 bytes ≡ Some (n, after) → byte space after ≡ Some (tt, rest) → digits 4 bytes ≡ None
no_four bytes after rest n e s =
    let two : digits 2 after ≡ None = rw (byte_is space after rest s) (digits_two (space ∷ rest) ∙ none_two (leb 2 (length (space ∷ rest))) true _ _) in
    digits_four bytes ∙ rw (e, two) refl

short_month_read : (bytes rest after : List ℕ) (v : Values) (number y : ℕ) (m : HasMonth bytes number) → Says short_month_parts bytes v rest → digits 2 (drop 5 bytes) ≡ Some (y, after) → Begins rest → month_and_year bytes ≡ Ok ((m.month_is, if nat_lt y 50 then y + 2000 else y + 1900), rest)
unfolding month_and_year year short_year
short_month_read bytes rest after v number y m says two ends =
    let s = says_first name_parts (part.Any ∷ part.Any ∷ part.Byte space ∷ []) bytes rest v says in
    let n = name_read bytes s.0 v number m s.1 in
    let next = s.2.2 in
    let last = next.2 in
    let bytes_are : s.0 ≡ get_or s.0 0 0 ∷ get_or s.2.0 0 0 ∷ next.0 = any_is _ _ (literal_said _ _ s.2.1) ∙ ap (λ (t : List ℕ). get_or s.0 0 0 ∷ t) (any_is _ _ (literal_said _ _ next.1)) in
    let here : digits 2 s.0 ≡ Some (y, after) = rw n.rest_is at two in
    let same : after ≡ next.0 = sym (digits_read 2 s.0 y after here).after ∙ ap (drop 2) bytes_are in
    let pair : digits 2 s.0 ≡ Some (y, next.0) = rw same at here in
    let space_there : byte space next.0 ≡ Some (tt, rest) = rw last.2 at (literal_said _ _ last.1) in
    rw (n.before, n.named, space_read n.second s.0 n.space_there (of_digits 2 s.0 next.0 y (lit< tt) pair), no_four s.0 next.0 rest y pair space_there, pair, space_read next.0 rest space_there ends) refl

-- ---- the time of day and the zone

-- a time of day is read to the minute, with this second, or 0 where none is written, and then a zone with nothing after it
record ReadsTime (bytes : List ℕ) (v : Values) (second : ℕ) (minutes : ℤ) : Type 0 where
  second_is : Option ℕ
  zone_is : Zone
  after : List ℕ
  begins : Begins bytes
  in_clock : clock false bytes ≡ Ok ((v field.Hour, v field.Minute, second_is), after)
  in_zone : spaced_zone false after ≡ Ok (zone_is, [])
  second_or : unwrap_or second_is 0 ≡ second
  minutes_are : signed_offset_of zone_is.is_negative zone_is.hours zone_is.minutes ≡ Ok (pos 60 *ℤ minutes)

clock_read : (bytes rest after : List ℕ) (v : Values) (s : Option ℕ) → Says minute_parts bytes v rest → second false rest ≡ Ok (s, after) → clock false bytes ≡ Ok ((v field.Hour, v field.Minute, s), after)
unfolding clock hour_and_minute
clock_read bytes rest after v s says in_second =
    let between = says.2 in
    let minute = between.2 in
    let colon_there = colon_read says.0 between.0 (literal_said _ _ between.1) (of_digits 2 between.0 minute.0 (v field.Minute) (lit< tt) minute.1) in
    rw (says.1, colon_there, minute.1, minute.2, in_second) refl

second_read : (bytes b1 b2 : List ℕ) (n : ℕ) → byte colon bytes ≡ Some (tt, b1) → digits 2 b1 ≡ Some (n, b2) → second false bytes ≡ Ok (Some n, b2)
unfolding second due_second
second_read bytes b1 b2 n e f = rw (colon_read bytes b1 e (of_digits 2 b1 b2 n (lit< tt) f), f) refl

zone_after : (b0 b1 b2 : List ℕ) (z : Zone) → comments_and_white_space b0 ≡ Some b1 → zone false b1 ≡ Ok (z, b2) → optional comments_and_white_space b2 ≡ [] → spaced_zone false b0 ≡ Ok (z, [])
unfolding spaced_zone
zone_after b0 b1 b2 z e f g = rw (e, f, g) refl

abbrev in_digits : ℕ → ℕ → ℕ → Zone
in_digits mark hours minutes = record { is_named = false; is_negative = mark == hyphen; hours = hours; minutes = minutes }

offset_read : (bytes rest : List ℕ) (v : Values) → Says offset_parts bytes v rest → optional comments_and_white_space rest ≡ [] → spaced_zone false bytes ≡ Ok (in_digits (v field.Sign) (v field.OffsetHour) (v field.OffsetMinute), [])
unfolding zone signed_zone
offset_read bytes rest v says ends =
    let mark = says.2 in
    let hour = mark.2 in
    let minute = hour.2 in
    let z = in_digits (v field.Sign) (v field.OffsetHour) (v field.OffsetMinute) in
    zone_after bytes says.0 rest z (space_read bytes says.0 (literal_said _ _ says.1) (of_sign says.0 mark.0 (v field.Sign) mark.1))
    (rw (mark.1, hour.1, minute.1, minute.2) refl) ends

abbrev by_name : ℕ → Zone
by_name hours = record { is_named = true; is_negative = true; hours = hours; minutes = 0 }

letters_read : (c d e hours : ℕ) → 65 ≤ c → zone_of (c ∷ d ∷ e ∷ []) ≡ Some hours → zone false (c ∷ d ∷ e ∷ []) ≡ Ok (by_name hours, [])
unfolding zone named_zone zone_name byte_of
letters_read c d e hours high is =
    let other : ((c == plus) || (c == hyphen)) ≡ false = grind (arith, nat_tests) in
    let long : leb 3 (length (c ∷ d ∷ e ∷ [])) ≡ true = grind (arith, nat_tests) in
    rw (other, long, is) refl

-- a zone of three letters
pub name_there : (bytes : List ℕ) (hours : ℕ) → length bytes ≡ 4 → get_or bytes 0 0 ≡ space → 65 ≤ get_or bytes 1 0 → zone_of (drop 1 bytes) ≡ Some hours → spaced_zone false bytes ≡ Ok (by_name hours, [])
name_there (a ∷ c ∷ d ∷ e ∷ []) hours long before high is =
    zone_after (a ∷ c ∷ d ∷ e ∷ []) (c ∷ d ∷ e ∷ []) [] (by_name hours) (one_space_there (a ∷ c ∷ d ∷ e ∷ []) (omega arith) before (omega (arith, high)) ∙ ap (λ (t : List ℕ). Some t) (take_rest (a ∷ c ∷ d ∷ e ∷ []) 1)) (letters_read c d e hours high is) (rw none_of_nothing refl)
name_there bytes hours long before high is = absurd (omega arith)

second_time : (bytes rest : List ℕ) (v : Values) (z : Zone) (minutes : ℤ) → Says second_parts bytes v rest → spaced_zone false rest ≡ Ok (z, []) → signed_offset_of z.is_negative z.hours z.minutes ≡ Ok (pos 60 *ℤ minutes) → ReadsTime bytes v (v field.Second) minutes
second_time bytes rest v z minutes says in_zone is =
    let c = says_first minute_parts (part.Byte colon ∷ part.Digits field.Second 2 ∷ []) bytes rest v says in
    let between = c.2 in
    let last = between.2 in
    record {
      second_is = Some (v field.Second);
      zone_is = z;
      after = rest;
      begins = of_digits 2 bytes c.1.0 (v field.Hour) (lit< tt) c.1.1;
      in_clock = clock_read bytes c.0 rest v (Some (v field.Second)) c.1 (second_read c.0 between.0 rest (v field.Second) (literal_said _ _ between.1) (rw last.2 at last.1));
      in_zone = in_zone;
      second_or = refl;
      minutes_are = is;
    }

no_colon : (c : ℕ) → ((c == plus) || (c == hyphen)) ≡ true → (c == colon) ≡ false
no_colon c sign = grind (arith, nat_tests)

no_second : (bytes rest after : List ℕ) (mark : ℕ) → comments_and_white_space bytes ≡ Some rest → sign rest ≡ Some (mark, after) → second false bytes ≡ Ok (None, bytes)
unfolding second spaced_colon byte_where
no_second bytes rest after mark e f = let s = sign_is rest after mark f in let next : rest ≡ mark ∷ after = s.all in rw (e, next, no_colon mark s.is) refl

minute_time : (bytes rest : List ℕ) (v : Values) (minutes : ℤ) → Says minute_zone_parts bytes v rest → optional comments_and_white_space rest ≡ [] → signed_offset_of (v field.Sign == hyphen) (v field.OffsetHour) (v field.OffsetMinute) ≡ Ok (pos 60 *ℤ minutes) → ReadsTime bytes v 0 minutes
minute_time bytes rest v minutes says ends is =
    let c = says_first minute_parts offset_parts bytes rest v says in
    let after = c.2 in
    let mark = after.2 in
    let one_space = space_read c.0 after.0 (literal_said _ _ after.1) (of_sign after.0 mark.0 (v field.Sign) mark.1) in
    record {
      second_is = None;
      zone_is = in_digits (v field.Sign) (v field.OffsetHour) (v field.OffsetMinute);
      after = c.0;
      begins = of_digits 2 bytes c.1.0 (v field.Hour) (lit< tt) c.1.1;
      in_clock = clock_read bytes c.0 c.0 v None c.1 (no_second c.0 after.0 mark.0 (v field.Sign) one_space mark.1);
      in_zone = offset_read c.0 rest v after ends;
      second_or = refl;
      minutes_are = is;
    }

-- ---- the moment

no_leap : (hour minute second nanosecond time : ℕ) → time_of hour minute second nanosecond ≡ Ok time → (second == 60) ≡ false
unfolding time_of
no_leap hour minute second nanosecond time e = grind (arith, nat_tests)

-- the moment of fields that have the numbers of the parts
parts_read : (f : Fields) (input : List ℕ) (w : Rfc2822Parts) (o : ℤ) → rfc2822 false input ≡ Ok (w, []) → signed_offset_of w.zone.is_negative w.zone.hours w.zone.minutes ≡ Ok (pos 60 *ℤ o) → HaveNumbers f w.year (month_number w.month) w.day (w.hour * 60 + w.minute) (unwrap_or w.second 0) 0 o → w.hour ≤ 23 → w.minute ≤ 59 → direct input ≡ Ok (Moment.moment_of f)
unfolding direct moment moment_of permitted_time_of leap_checked
parts_read f input w o read in_zone have low small =
    rw (← moment_is f, have.same_offset) (let in_time = fields_time f _ _ _ _ _ _ _ _ have low small (lit< tt) in rw (read, fields_date f _ _ _ _ _ _ _ have, no_leap w.hour w.minute (unwrap_or w.second 0) 0 (time_of_fields f) in_time, in_time, in_zone) refl)

pub not_before : (before : Bool) (year first : ℕ) → (IsTrue before → year < first) × (year < first → IsTrue before) → before ≡ false → first ≡ 1900 → 1900 ≤ year
not_before before year first tells not is =
    elim (cases_lt year 1900) [ inl lt ↦ let told : before ≡ true = tells.1 (omega arith) in absurd cc | inr le ↦ le ]

-- that of fields with the numbers of what is read in turn
date_read : (f : Fields) (text b1 b2 : List ℕ) (v : Values) (year number second : ℕ) (m : Month) → one_or_two_digits text ≡ Some (v field.Day, b1) → month_and_year b1 ≡ Ok ((m, year), b2) → month_number m ≡ number → ReadsTime b2 v second f.offset
    → HaveNumbers f year number (v field.Day) (v field.Hour * 60 + v field.Minute) second 0 f.offset → v field.Hour ≤ 23 → v field.Minute ≤ 59 → SaysFields text f
unfolding rfc2822
date_read f text b1 b2 v year number second m in_day in_month is t numbers low small = λ input begins.
    let read : rfc2822 false input ≡ Ok (record { weekday = begins.weekday_is; day = v field.Day; month = m; year = year; hour = v field.Hour; minute = v field.Minute; second = t.second_is; zone = t.zone_is }, []) = rw (begins.reads (v field.Day) b1 in_day, in_month, t.in_clock, t.in_zone) refl in
    parts_read f input _ f.offset read t.minutes_are (rw (← is, ← t.second_or) at numbers) low small

-- .. of a date and of a time after it
text_read : (count : ℕ) (time : List Part) (text rest : List ℕ) (date f : Fields) (second : ℕ) → (count ≡ 1) ⊎ (count ≡ 2) → (d : SaysDate count time text rest date) → ((bytes : List ℕ) → Says time bytes d.said.values rest → ReadsTime bytes d.said.values second f.offset)
    → HaveNumbers f (d.said.values field.Year) d.month (d.said.values field.Day) (d.said.values field.Hour * 60 + d.said.values field.Minute) second 0 f.offset → SaysFields text f
text_read count time text rest date f second few d reads numbers =
    let said = d.said in
    let v = said.values in
    let says = said.says in
    let m : HasMonth says.0 d.month = rw (digits_read count text (v field.Day) says.0 says.1).after at d.there in
    let split = says_first month_parts time says.0 rest v says.2 in
    let t = reads split.0 split.2 in
    date_read f text says.0 split.0 v (v field.Year) d.month second m.month_is (day_read count text says.0 split.1.0 (v field.Day) few says.1 (literal_said _ _ split.1.1))
    (month_read says.0 split.0 v d.month m split.1 (omega (arith, d.enough, said.numbers.same_year)) t.begins) m.number_is t numbers said.hour_few said.minute_few

-- a usual time
usual_time : (bytes rest : List ℕ) (v : Values) (minutes : ℤ) → Says usual_parts bytes v rest → optional comments_and_white_space rest ≡ [] → signed_offset_of (v field.Sign == hyphen) (v field.OffsetHour) (v field.OffsetMinute) ≡ Ok (pos 60 *ℤ minutes) → ReadsTime bytes v (v field.Second) minutes
usual_time bytes rest v minutes says ends is =
    let c = says_first second_parts offset_parts bytes rest v says in
    second_time bytes c.0 v (in_digits (v field.Sign) (v field.OffsetHour) (v field.OffsetMinute)) minutes c.1 (offset_read c.0 rest v c.2 ends) is

pub usual_read : (count : ℕ) (text rest : List ℕ) → (count ≡ 1) ⊎ (count ≡ 2) → optional comments_and_white_space rest ≡ [] → (f : Fields) → SaysDate count usual_parts text rest f → SaysFields text f
usual_read count text rest few ends f d = text_read count usual_parts text rest f f (d.said.values field.Second) few d (λ bytes says. usual_time bytes rest d.said.values f.offset says ends d.said.offset_is.1) d.said.numbers

-- a text of at most so many bytes has nothing after them
pub ended : (n : ℕ) (text : List ℕ) → length text ≤ n → optional comments_and_white_space (drop n text) ≡ []
ended n text all = rw (drop_all n text all, none_of_nothing) refl

pub second_zone_read : (count : ℕ) (text rest : List ℕ) (date f : Fields) → (count ≡ 1) ⊎ (count ≡ 2) → SaysDate count second_parts text rest date → HasZone date rest f → SaysFields text f
second_zone_read count text rest date f few d h =
    let v = d.said.values in
    let n = d.said.numbers in
    text_read count second_parts text rest date f (v field.Second) few d
    (λ bytes says. second_time bytes rest v h.zone_is f.offset says h.in_zone h.minutes_are)
    (rw (n.same_year, n.same_month, n.same_day, n.same_minute, n.same_second, n.same_fraction) at h.numbers)

pub minute_zone_read : (count : ℕ) (text rest : List ℕ) (date f : Fields) → (count ≡ 1) ⊎ (count ≡ 2) → optional comments_and_white_space rest ≡ [] → SaysDate count minute_zone_parts text rest date → HaveNumbers f date.year date.month date.day date.minute 0 date.fraction date.offset → SaysFields text f
minute_zone_read count text rest date f few ends d h =
    let v = d.said.values in
    let n = d.said.numbers in
    text_read count minute_zone_parts text rest date f 0 few d
    (λ bytes says. minute_time bytes rest v f.offset says ends (rw h.same_offset d.said.offset_is.1))
    (rw (n.same_year, n.same_month, n.same_day, n.same_minute, n.same_fraction, ← h.same_offset) at h)

pub short_read : (count : ℕ) (text after rest : List ℕ) (year number : ℕ) (date f : Fields) → (count ≡ 1) ⊎ (count ≡ 2) → optional comments_and_white_space rest ≡ [] → SaysNamed (short_from_day count) number text rest date → HasMonth (drop count text) number → digits 2 (drop (count + 5) text) ≡ Some (year, after)
    → HaveNumbers f (if nat_lt year 50 then year + 2000 else year + 1900) date.month date.day date.minute date.second date.fraction date.offset → SaysFields text f
short_read count text after rest year number date f few ends said there two h =
    let v = said.values in
    let n = said.numbers in
    let says = said.says in
    let cut = (digits_read count text (v field.Day) says.0 says.1).after in
    let m : HasMonth says.0 number = rw cut at there in
    let split = says_first short_month_parts usual_parts says.0 rest v says.2 in
    let t = usual_time split.0 rest v f.offset split.2 ends (rw h.same_offset said.offset_is.1) in
    let pair : digits 2 (drop 5 (drop count text)) ≡ Some (year, after) = rw (drop-drop 5 count text) two in
    date_read f text says.0 split.0 v _ number (v field.Second) m.month_is (day_read count text says.0 split.1.0 (v field.Day) few says.1 (literal_said _ _ split.1.1))
    (short_month_read says.0 split.0 after v number year m split.1 (rw cut at pair) t.begins) m.number_is t (rw (n.same_month, n.same_day, n.same_minute, n.same_second, n.same_fraction, ← h.same_offset) at h) said.hour_few said.minute_few
