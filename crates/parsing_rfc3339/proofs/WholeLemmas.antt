-- A text of thirty bytes with `T` and `Z` that says the layout is the text of its numbers.
use Rattle.std.proofs.Common.{◌≡◌, ℕ, zero, suc, ◌+◌, ◌*◌, ◌/◌, ◌%◌, ◌∙◌, true, false, List, [], ◌∷◌, ◌++◌, get_or, length, take, Some, Ok, ℤ, pos, refl, sym, ap, arith}
use Rattle.std.specs.Prelude.{◌*ℤ◌}
use Rattle.std.specs.Str.Parse.{digits_value}
use Rattle.std.proofs.lemmas.List.{take-append-drop, length-take-le, length-drop}
use Rattle.std.proofs.lemmas.List.Sums.{prefix_len-le-length}
use Rattle.std.specs.Char.{is_ascii_digit}
use Rattle.calendar.specs.UtcOffset.{offset_of}
use Rattle.base.specs.Bytes.{hyphen, colon, dot, upper_z}
use Rattle.parsing_combinator.specs.Pieces.{digits, nanoseconds_of}
use Rattle.parsing_combinator.proofs.FractionDigits.{digits_read}
use Rattle.parsing_values.specs.Decimal.{decimal}
use Rattle.parsing_values.specs.DigitsBack.{decimal_of_digits}
use Rattle.parsing_values.specs.declared.fields.Fields.{Fields}
use Rattle.parsing_values.specs.Resolution.{signed_offset_of}
use Rattle.parsing_layout.specs.Layout.{Values, Says, exact_fraction}
use Rattle.parsing_layout.specs.declared.parts.Part.{Part}
use Rattle.parsing_layout.specs.declared.parts.Field.TheVariants as field
use Rattle.parsing_layout.specs.declared.parts.Part.TheVariants as part
use Rattle.parsing_layout.proofs.LayoutLemmas.{says_first}
use Rattle.parsing_layout.proofs.PieceLemmas.{literal_said, exact_said, byte_is, skip_is, sign_is}
use Rattle.parsing_shapes.specs.Moment.{SaysTailed}
use Rattle.parsing_shapes.specs.Tail.{fraction_parts, zone_parts}
use Rattle.parsing_places.specs.Tail.{is_written, is_zulu}
use Rattle.parsing_places.specs.declared.ending.Ending.{Ending}
use Rattle.parsing_places.specs.declared.ending.Ending.TheVariants.{Zulu, Colon, Plain}
use Rattle.parsing_rfc3339.specs.Layout.{date_parts, clock_parts, front_parts}
use Rattle.parsing_values.specs.Moment.{whole_text}
use Rattle.parsing_rfc3339.specs.Whole.{IsLikeWhole}
use Rattle.std.proofs.lemmas.Bool.Decides.{nat_tests}

-- digits are the decimal of the number that they write
digits_text : (n : ℕ) (bytes rest : List ℕ) (v : ℕ) → digits n bytes ≡ Some (v, rest) → bytes ≡ decimal n v ++ rest
digits_text n bytes rest v e = grind (arith, nat_tests, digits_read, take-append-drop, decimal_of_digits)

whole_nanoseconds : (ds : List ℕ) → length ds ≡ 9 → digits_value 10 ds ≡ nanoseconds_of ds
whole_nanoseconds ds long = rw long (let e : digits_value 10 ds ≡ digits_value 10 ds * 1_000_000_000 / 1_000_000_000 = omega arith in e)

-- nine digits of a fraction are the decimal of its nanoseconds
nine_text : (bytes rest : List ℕ) (n : ℕ) → exact_fraction 9 bytes ≡ Some (n, rest) → bytes ≡ decimal 9 n ++ rest
nine_text bytes rest n e =
    let said = exact_said _ bytes rest 9 n refl e in
    let long : length (take 9 bytes) ≡ 9 = length-take-le 9 bytes (omega (arith, said.0, prefix_len-le-length is_ascii_digit bytes)) in
    let value : digits_value 10 (take 9 bytes) ≡ n = whole_nanoseconds (take 9 bytes) long ∙ said.1 in
    sym (take-append-drop 9 bytes) ∙ rw (← decimal_of_digits 9 bytes said.0, value, said.2) refl

-- ---- the date and the time of day

front_text : Values → ℕ → List ℕ → List ℕ
front_text v c rest = decimal 4 (v field.Year) ++ hyphen ∷ (decimal 2 (v field.Month) ++ hyphen ∷ (decimal 2 (v field.Day) ++ c ∷ (decimal 2 (v field.Hour) ++ colon ∷ (decimal 2 (v field.Minute) ++ colon ∷ (decimal 2 (v field.Second) ++ rest)))))

-- its date and its time of day, by the byte between them
date_is : (text rest : List ℕ) (v : Values) → Says date_parts text v rest → text ≡ decimal 4 (v field.Year) ++ hyphen ∷ (decimal 2 (v field.Month) ++ hyphen ∷ (decimal 2 (v field.Day) ++ rest))
date_is text rest v year = grind (arith, nat_tests, digits_text, byte_is)

clock_is : (text rest : List ℕ) (v : Values) → Says clock_parts text v rest → text ≡ decimal 2 (v field.Hour) ++ colon ∷ (decimal 2 (v field.Minute) ++ colon ∷ (decimal 2 (v field.Second) ++ rest))
clock_is text rest v hour = grind (arith, nat_tests, digits_text, byte_is)

front_is : (text rest : List ℕ) (v : Values) → Says front_parts text v rest → (c : ℕ) × (text ≡ front_text v c rest)
unfolding front_text
front_is text rest v says =
    let date = says_first date_parts (part.Any ∷ clock_parts) text rest v says in
    let between = date.2 in
    let any = skip_is (λ _. true) date.0 between.0 (literal_said _ _ between.1) in
    let both : date.0 ≡ any.0 ∷ (decimal 2 (v field.Hour) ++ colon ∷ (decimal 2 (v field.Minute) ++ colon ∷ (decimal 2 (v field.Second) ++ rest))) = any.1 ∙ ap (λ (l : List ℕ). any.0 ∷ l) (clock_is between.0 rest v between.2) in
    (any.0, date_is text date.0 v date.1 ∙ ap (λ (l : List ℕ). decimal 4 (v field.Year) ++ hyphen ∷ (decimal 2 (v field.Month) ++ hyphen ∷ (decimal 2 (v field.Day) ++ l))) both)

-- ---- the fraction and the offset

-- digits after a point, so many, and what stands after them
record HasFraction (rest after : List ℕ) (count n : ℕ) : Type 0 where
  digits_from : List ℕ
  all : rest ≡ dot ∷ digits_from
  read : exact_fraction count digits_from ≡ Some (n, after)
  size : length rest ≡ 1 + count + length after

fraction_is : (rest : List ℕ) (v : Values) (count : ℕ) (zone : List Part) → Says (fraction_parts (suc count) ++ zone) rest v [] → (after : List ℕ) × HasFraction rest after count (v field.Nanosecond) × Says zone after v []
fraction_is rest v count zone says =
    let point = byte_is dot rest says.0 (literal_said _ _ says.1) in
    let fraction = says.2 in
    let said = exact_said _ says.0 fraction.0 count (v field.Nanosecond) refl fraction.1 in
    grind (arith, nat_tests, prefix_len-le-length, length-drop)

-- nine of them before `Z` are those of the nanoseconds
zulu_is : (rest after : List ℕ) (count n : ℕ) → HasFraction rest after count n → after ≡ upper_z ∷ [] → length rest ≡ 11 → rest ≡ dot ∷ (decimal 9 n ++ upper_z ∷ [])
zulu_is rest after count n has zone long =
    let one : length after ≡ 1 = ap length zone in
    let nine : count ≡ 9 = omega (arith, has.size) in
    has.all ∙ ap (λ (l : List ℕ). dot ∷ l) (nine_text has.digits_from after n (rw nine at has.read) ∙ ap (λ (l : List ℕ). decimal 9 n ++ l) zone)

-- an offset of digits ends with a digit
colon_text : ℕ → ℕ → ℕ → List ℕ
colon_text mark hour minute = mark ∷ (decimal 2 hour ++ colon ∷ (decimal 2 minute ++ []))

colon_is : (after : List ℕ) (v : Values) → Says (zone_parts Colon) after v [] → after ≡ colon_text (v field.Sign) (v field.OffsetHour) (v field.OffsetMinute)
unfolding colon_text
colon_is after v says = grind (arith, nat_tests, sign_is, digits_text, byte_is)

colon_last : (mark hour minute : ℕ) → (length (colon_text mark hour minute) ≡ 6) × (get_or (colon_text mark hour minute) 5 0 ≡ 48 + minute % 10)
unfolding colon_text decimal
colon_last mark hour minute = (refl, refl)

colon_ends : (rest after : List ℕ) (mark hour minute count n : ℕ) → HasFraction rest after count n → after ≡ colon_text mark hour minute → length rest ≡ 11 → get_or rest 10 0 ≡ upper_z → ⊥
colon_ends rest after mark hour minute count n has zone long last =
    let six : length after ≡ 6 = ap length zone ∙ (colon_last mark hour minute).0 in
    let four : count ≡ 4 = omega (arith, has.size) in
    let said = exact_said _ has.digits_from after count n refl has.read in
    grind (arith, nat_tests, colon_last)

-- ---- the whole

-- what stands after the time of day in such a text
end_is : (e : Ending) (rest : List ℕ) (v : Values) (bytes : ℕ) → is_written true e ≡ true → Says (fraction_parts bytes ++ zone_parts e) rest v [] → length rest ≡ 11 → get_or rest 10 0 ≡ upper_z → (rest ≡ dot ∷ (decimal 9 (v field.Nanosecond) ++ upper_z ∷ [])) × (is_zulu e ≡ true)
end_is Zulu rest v zero written says long last = absurd (omega (arith, ap length (byte_is upper_z rest says.0 (literal_said _ _ says.1) ∙ ap (λ (l : List ℕ). upper_z ∷ l) says.2)))
end_is Zulu rest v (suc count) written says long last =
    let fraction = fraction_is rest v count (zone_parts Zulu) says in
    let zone = fraction.2 in
    let zone_is : fraction.0 ≡ upper_z ∷ [] = byte_is upper_z fraction.0 zone.0 (literal_said _ _ zone.1) ∙ ap (λ (l : List ℕ). upper_z ∷ l) zone.2 in
    (zulu_is rest fraction.0 count (v field.Nanosecond) fraction.1 zone_is long, refl)
end_is Colon rest v zero written says long last = absurd (omega (arith, ap length (colon_is rest v says), (colon_last (v field.Sign) (v field.OffsetHour) (v field.OffsetMinute)).0))
end_is Colon rest v (suc count) written says long last =
    let fraction = fraction_is rest v count (zone_parts Colon) says in
    absurd (colon_ends rest fraction.0 (v field.Sign) (v field.OffsetHour) (v field.OffsetMinute) count (v field.Nanosecond) fraction.1 (colon_is fraction.0 v fraction.2) long last)
end_is Plain rest v bytes written says long last = absurd cc

utc_offset : (o : ℤ) → signed_offset_of false 0 0 ≡ Ok (pos 60 *ℤ o) → o ≡ pos 0
unfolding signed_offset_of offset_of
utc_offset o e = grind (arith, nat_tests)

pub text_whole : (e : Ending) (text : List ℕ) (f : Fields) → is_written true e ≡ true → SaysTailed front_parts (is_zulu e) (zone_parts e) text f → IsLikeWhole text → (text ≡ whole_text f) × (f.offset ≡ pos 0)
unfolding whole_text front_text decimal
text_whole e text f written m like =
    let said = m.moment in
    let v = said.values in
    let n = said.numbers in
    let parts = says_first front_parts (fraction_parts m.bytes ++ zone_parts e) text [] v said.says in
    let front = front_is text parts.0 v parts.1 in
    grind (arith, nat_tests, end_is, utc_offset)
