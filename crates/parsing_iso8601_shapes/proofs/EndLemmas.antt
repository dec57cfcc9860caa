-- What stands after a date: a time of day, a fraction, and an offset.
use Rattle.std.proofs.Common.{◌≡◌, ℕ, zero, suc, ◌+◌, ◌<◌, ◌≤◌, ◌∙◌, Bool, true, false, leb, List, [], ◌∷◌, length, take, drop, get_or, Some, None, ℤ, refl, ap, arith, lit≤}
use Rattle.std.specs.Prelude.{◌==◌, ◌||◌}
use Rattle.std.proofs.lemmas.Bool.{le-leb, lt-ltb}
use Rattle.std.proofs.lemmas.Bool.Decides.{nat_tests}
use Rattle.std.proofs.lemmas.List.{length-drop, length-take-le, get_or-take}
use Rattle.base.specs.Bytes.{plus, hyphen, colon, dot, upper_z}
use Rattle.parsing_combinator.specs.Pieces.{digits, byte, skip_of, fraction, digit_count}
use Rattle.parsing_combinator.proofs.Decimal.{count_drop, count_prefix, digit_count_within}
use Rattle.parsing_combinator.proofs.FractionDigits.{none_there}
use Rattle.parsing_iso8601.specs.Designators.{time_designator}
use Rattle.parsing_iso8601.specs.Fractions.{rounded_part_of, next_if}
use Rattle.parsing_iso8601.specs.Kinds.{kind_of_time}
use Rattle.parsing_iso8601.specs.Numbers.{decimal_mark}
use Rattle.parsing_iso8601.specs.Offsets.{maybe_colon, offset}
use Rattle.parsing_iso8601.specs.ReadView.{subsecond}
use Rattle.parsing_iso8601.specs.Times.{time, time_of, subsecond_of, designator, from_hour, minutes, from_minute, seconds, basic_seconds, extended_seconds, to_second}
use Rattle.parsing_iso8601.specs.declared.kind.Kind.TheVariants.{Basic, Extended}
use Rattle.parsing_iso8601.proofs.Pieces.{no_byte}
use Rattle.parsing_iso8601.proofs.Rounding.{long_rounded}
use Rattle.parsing_layout.specs.Layout.{Values, Says, exact_fraction}
use Rattle.parsing_shapes.specs.Moment.{HasOffset}
use Rattle.parsing_shapes.specs.Numbers.{second_if}
use Rattle.parsing_shapes.specs.Tail.{fraction_parts, zone_parts}
use Rattle.parsing_layout.specs.declared.parts.Field.TheVariants as field
use Rattle.parsing_layout.proofs.PieceLemmas.{byte_is, literal_said, exact_said, fraction_read, SignIs, sign_is}
use Rattle.parsing_places.specs.Tail.{is_written, is_zulu}
use Rattle.parsing_places.specs.declared.ending.Ending.{Ending}
use Rattle.parsing_places.specs.declared.ending.Ending.TheVariants.{Zulu, Colon, Plain}
use Rattle.parsing_iso8601_shapes.specs.Layout.{clock_parts}
use Rattle.parsing_iso8601_shapes.proofs.DateLemmas.{kind_of}
use Rattle.parsing_iso8601_shapes.proofs.FastOffsets.{IsAllOffset, offset_read, zulu_read}
use Rattle.parsing_iso8601_shapes.proofs.FastTimes.{time_of_pieces, before_colon, before_digits, no_number, number_of, whole_number, of_fraction, short_subsecond, long_subsecond, no_subsecond}

-- ---- the offset

-- no time of day goes on with these bytes
pub record EndTime (bytes : List ℕ) : Type 0 where
  pub no_mark : decimal_mark bytes ≡ None
  pub no_digit : digits 1 bytes ≡ None
  pub no_number : digits 2 bytes ≡ None
  pub no_colon : byte colon bytes ≡ None

zulu_ends : (bytes rest : List ℕ) → bytes ≡ upper_z ∷ rest → EndTime bytes
unfolding decimal_mark skip_of digits
zulu_ends bytes rest e = rw e (record { no_mark = refl; no_digit = refl; no_number = refl; no_colon = refl })

-- a sign is none of these bytes
sign_apart : (mark : ℕ) (rest : List ℕ) → ((mark == plus) || (mark == hyphen)) ≡ true → (decimal_mark (mark ∷ rest) ≡ None) × (digits 1 (mark ∷ rest) ≡ None) × (digits 2 (mark ∷ rest) ≡ None) × (byte colon (mark ∷ rest) ≡ None) × (byte upper_z (mark ∷ rest) ≡ None)
unfolding decimal_mark skip_of digits
sign_apart mark rest marked = grind (arith, nat_tests)

sign_ends : (bytes rest : List ℕ) (mark : ℕ) → SignIs bytes mark rest → EndTime bytes × (byte upper_z bytes ≡ None)
sign_ends bytes rest mark s =
    let a = sign_apart mark rest s.is in
    rw s.all (record { no_mark = a.0; no_digit = a.1; no_number = a.2; no_colon = a.3 }, a.4)

pub zone_ends : (e : Ending) (bytes : List ℕ) (v : Values) → Says (zone_parts e) bytes v [] → EndTime bytes
zone_ends Zulu bytes v says = zulu_ends bytes says.0 (byte_is upper_z bytes says.0 (literal_said _ _ says.1))
zone_ends e bytes v says = (sign_ends bytes says.0 (v field.Sign) (sign_is bytes says.0 (v field.Sign) says.1)).0

-- an offset with a colon ends a text of the extended format alone
abbrev pub may_end : Bool → Ending → Bool
may_end is_extended Colon = is_extended
may_end is_extended other = true

pub may_be : (has_colon is_extended : Bool) → (has_colon ≡ true → is_extended ≡ true) → (e : Ending) → is_written has_colon e ≡ true → may_end is_extended e ≡ true
may_be has_colon is_extended extended e w = grind (arith, nat_tests)

pub colon_there : (bytes rest : List ℕ) → byte colon bytes ≡ Some (tt, rest) → maybe_colon Extended bytes ≡ Some (tt, rest)
colon_there bytes rest e = rw e refl

no_colon_there : (is_extended : Bool) (bytes : List ℕ) → byte colon bytes ≡ None → maybe_colon (kind_of is_extended) bytes ≡ Some (tt, bytes)
no_colon_there is_extended bytes none = grind (arith, nat_tests)

pub zone_read : (is_extended : Bool) (e : Ending) (bytes : List ℕ) (v : Values) (o : ℤ) → may_end is_extended e ≡ true → Says (zone_parts e) bytes v [] → HasOffset (is_zulu e) v o → IsAllOffset (offset (kind_of is_extended) bytes) o
zone_read is_extended Zulu bytes v o may says value = zulu_read (kind_of is_extended) bytes o (rw says.2 at (literal_said _ _ says.1)) value
zone_read true Colon bytes v o may says value =
    let hour = says.2 in
    let minute = hour.2.2 in
    let other = (sign_ends bytes says.0 (v field.Sign) (sign_is bytes says.0 (v field.Sign) says.1)).1 in
    offset_read Extended bytes says.0 hour.0 hour.2.0 (v field.Sign) (v field.OffsetHour) (v field.OffsetMinute) o other says.1 hour.1 (colon_there hour.0 hour.2.0 (literal_said _ _ hour.2.1)) (rw minute.2 at minute.1) value.1
zone_read is_extended Plain bytes v o may says value =
    let hour = says.2 in
    let minute = hour.2 in
    let other = (sign_ends bytes says.0 (v field.Sign) (sign_is bytes says.0 (v field.Sign) says.1)).1 in
    let no_mark = no_colon_there is_extended hour.0 (no_byte colon 2 hour.0 (v field.OffsetMinute, minute.0) refl (lit≤ tt) minute.1) in
    offset_read (kind_of is_extended) bytes says.0 hour.0 hour.0 (v field.Sign) (v field.OffsetHour) (v field.OffsetMinute) o other says.1 hour.1 no_mark (rw minute.2 at minute.1) value.1
zone_read false Colon bytes v o may says value = absurd cc

-- ---- the fraction

dot_there : (bytes after : List ℕ) → bytes ≡ dot ∷ after → decimal_mark bytes ≡ Some (tt, after)
unfolding decimal_mark skip_of
dot_there bytes after e = rw e refl

some_digits : (count : ℕ) → (suc count ≡ 1 → ⊥) → 0 < count
some_digits count more = grind (arith, nat_tests)

short_read : (bytes rest : List ℕ) (count n : ℕ) → 0 < count → count ≤ 9 → exact_fraction count bytes ≡ Some (n, rest) → digits 1 rest ≡ None → (fraction bytes ≡ Some (n, rest)) × (length bytes ≤ length rest + 9)
short_read bytes rest count n some few e none =
    let cut = (exact_said _ bytes rest count n refl e).2 in
    (fraction_read bytes rest count n some e none, let long = length-drop count bytes in let same : length (drop count bytes) ≡ length rest = ap length cut in omega (arith, long, same, few))

-- at most nine digits are the fraction
pub short_fraction_read : (bytes rest : List ℕ) (v : Values) (count : ℕ) → (count ≡ 1 → ⊥) → count ≤ 10 → (count ≡ 0 → v field.Nanosecond ≡ 0) → Says (fraction_parts count) bytes v rest → EndTime rest → subsecond bytes ≡ Some (v field.Nanosecond, rest)
short_fraction_read bytes rest v zero more few none says ends = rw (says, none refl) (no_subsecond rest ends.no_mark)
short_fraction_read bytes rest v (suc count) more few none says ends =
    let after = says.2 in
    let read = short_read says.0 rest count (v field.Nanosecond) (some_digits count more) (omega (arith, few)) (rw after.2 at after.1) ends.no_digit in
    short_subsecond bytes says.0 rest (v field.Nanosecond) (dot_there bytes says.0 (byte_is dot bytes says.0 (literal_said _ _ says.1))) read.0 read.1

rounded_read : (bytes rest : List ℕ) (count n : ℕ) → 9 < count → exact_fraction count bytes ≡ Some (n, rest) → digits 1 rest ≡ None → (digit_count bytes ≡ count) × (drop count bytes ≡ rest) × (rounded_part_of 1_000_000_000 (take count bytes) ≡ next_if (leb 53 (get_or bytes 9 0)) n)
rounded_read bytes rest count n many e none =
    let said = exact_said _ bytes rest count n refl e in
    let left : digit_count (drop count bytes) ≡ 0 = rw said.2 (none_there rest none) in
    grind (arith, nat_tests, count_drop, length-take-le, digit_count_within, get_or-take, long_rounded, count_prefix)

-- of more the tenth rounds it
pub long_fraction_read : (bytes rest : List ℕ) (v : Values) (count : ℕ) → 10 < count → Says (fraction_parts count) bytes v rest → EndTime rest → subsecond bytes ≡ Some (next_if (leb 53 (get_or bytes 10 0)) (v field.Nanosecond), rest)
long_fraction_read bytes rest v zero many says ends = absurd (omega (arith, many))
long_fraction_read bytes rest v (suc count) many says ends =
    let after = says.2 in
    let point = byte_is dot bytes says.0 (literal_said _ _ says.1) in
    let tenth : get_or bytes 10 0 ≡ get_or says.0 9 0 = rw point refl in
    let read = rounded_read says.0 rest count (v field.Nanosecond) (omega (arith, many)) (rw after.2 at after.1) ends.no_digit in
    rw tenth (long_subsecond bytes says.0 rest count _ (dot_there bytes says.0 point) (omega (arith, many)) read.0 read.1 read.2)

-- ---- the time of day

-- after a second these are its nanoseconds, and without one nothing stands here
abbrev pub ReadsFraction : Bool → List ℕ → ℕ → List ℕ → Type 0
ReadsFraction true bytes nanosecond rest = subsecond bytes ≡ Some (nanosecond, rest)
ReadsFraction false bytes nanosecond rest = (bytes ≡ rest) × (nanosecond ≡ 0)

pub clock_read : (is_extended has_second : Bool) (bytes after rest : List ℕ) (v : Values) (nanosecond : ℕ) → Says (clock_parts is_extended has_second) bytes v after → ReadsFraction has_second after nanosecond rest → EndTime rest → v field.Hour ≤ 23 → v field.Minute ≤ 59 → second_if has_second (v field.Second) ≤ 60 → nanosecond < 1_000_000_000
    → time (kind_of is_extended) true bytes ≡ Some ((time_of (v field.Hour) (v field.Minute) (second_if has_second (v field.Second)) nanosecond, kind_of is_extended), rest)
unfolding time designator from_hour kind_of_time minutes from_minute seconds basic_seconds extended_seconds to_second
clock_read true true bytes after rest v n says seconds ends hour_few minute_few second_few few =
    let hour = says.2 in
    let minute = hour.2.2 in
    let second = minute.2.2 in
    of_fraction after rest n seconds (λ run read is.
    rw is at (time_of_pieces bytes says.0 hour.0 hour.2.0 minute.0 minute.2.0 after rest (v field.Hour) (v field.Minute) (v field.Second) run (literal_said _ _ says.1) hour.1 (literal_said _ _ hour.2.1) minute.1 (literal_said _ _ minute.2.1) (rw second.2 at second.1) read hour_few minute_few second_few (rw is few)))
clock_read false true bytes after rest v n says seconds ends hour_few minute_few second_few few =
    let hour = says.2 in
    let minute = hour.2 in
    let second = minute.2 in
    let last = rw second.2 at second.1 in
    of_fraction after rest n seconds (λ run read is.
    let small : subsecond_of run < 1_000_000_000 = rw is few in
    let all : time Basic true bytes ≡ Some ((time_of (v field.Hour) (v field.Minute) (v field.Second) (subsecond_of run), Basic), rest) =
    rw (literal_said _ _ says.1, before_digits says.0 (v field.Hour) hour.0 (v field.Minute, minute.0) hour.1 minute.1, le-leb (v field.Hour) 23 hour_few, no_byte colon 2 hour.0 (v field.Minute, minute.0) refl (lit≤ tt) minute.1, before_digits hour.0 (v field.Minute) minute.0 (v field.Second, after) minute.1 last)
    (rw (le-leb (v field.Minute) 59 minute_few, number_of minute.0 (v field.Second) after run rest last read, le-leb (v field.Second) 60 second_few, lt-ltb (subsecond_of run) 1_000_000_000 small) refl) in
    rw is at all)
clock_read true false bytes after rest v n says seconds ends hour_few minute_few second_few few =
    grind (arith, nat_tests, literal_said, before_colon, whole_number)
clock_read false false bytes after rest v n says seconds ends hour_few minute_few second_few few =
    let hour = says.2 in
    let minute = hour.2 in
    let last = rw (minute.2 ∙ seconds.0) at minute.1 in
    rw (seconds.1, literal_said _ _ says.1, before_digits says.0 (v field.Hour) hour.0 (v field.Minute, rest) hour.1 last, le-leb (v field.Hour) 23 hour_few, no_byte colon 2 hour.0 (v field.Minute, rest) refl (lit≤ tt) last)
    (rw (whole_number hour.0 (v field.Minute) rest last ends.no_mark, le-leb (v field.Minute) 59 minute_few, no_number rest ends.no_number) refl)

-- it begins with a `T`
pub designator_there : (is_extended has_second : Bool) (bytes after : List ℕ) (v : Values) → Says (clock_parts is_extended has_second) bytes v after → (rest : List ℕ) × (bytes ≡ time_designator ∷ rest)
designator_there is_extended has_second bytes after v says = grind (arith, nat_tests, byte_is)
