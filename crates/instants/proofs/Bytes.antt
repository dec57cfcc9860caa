-- The bytes of a line, place by place.
use Rattle.std.proofs.Common.{◌≡◌, ℕ, lit<, ◌+◌, ◌/◌, ◌%◌, ◌<◌, Bool, true, false, List, [], ◌∷◌, ◌++◌, length, drop, refl, sym, ap, ◌∙◌, arith, append_assoc, length-append, ℤ, pos, unsigned_abs, int_lt, int_eq}
use Rattle.std.specs.Prelude.{codes, if◌then◌else◌, ◌==◌}
use Rattle.std.proofs.lemmas.Bool.Decides.{nat_tests}
use Rattle.std.proofs.lemmas.List.{take_at, drop_at}
use Rattle.base.specs.Bytes.{digit_zero, dot, lower_z}
use Rattle.calendar_count.specs.Calendar.{YearMonthDay, day_at}
use Rattle.datetime_wall.specs.Wall.{Shown, day_of, nanosecond_of, second_nanos}
use Rattle.parsing_values.specs.Decimal.{decimal}
use Rattle.instants_answers.specs.Text.{date_text, time_text, offset_text, moment_text}
use Rattle.parsing_values.proofs.lemmas.Decimals.{decimal_length}
use Rattle.parsing_iso8601.specs.Designators.{time_designator}
use Rattle.parsing_iso8601.proofs.Rounding.{none_left}
use Rattle.parsing.specs.TwoFormats.{separator, last_byte, fraction_of, rounds_up, is_of_both, rounded}
use Rattle.parsing.proofs.Places.{byte_at, last_of_rest}
use Rattle.parsing_combinator.specs.Pieces.{digit_count}
use Rattle.parsing_combinator.proofs.Prefixes.{byte_at as byte_read}
use Rattle.instants.proofs.Decimals.{count_with}
use Rattle.instants.proofs.Pieces.{clock_text, zone_text, offset_ends}

-- what follows the second, from the point on
abbrev pub after_second : ℕ → ℤ → List ℕ
after_second n o = dot ∷ (decimal 9 n ++ offset_text o)

-- what follows the date, from the designator on
abbrev pub after_date : ℕ → ℤ → List ℕ
after_date n o = time_designator ∷ (clock_text (n / second_nanos) ++ after_second (n % second_nanos) o)

pub line_parts : (m : Shown) → moment_text m ≡ date_text (day_at (day_of m.wall)) ++ after_date (nanosecond_of m.wall) m.offset
unfolding moment_text time_text
line_parts m = simp append_assoc

-- ---- lengths

date_length : (t : YearMonthDay) → length (date_text t) ≡ 10
unfolding date_text
date_length t = simp (length-append, decimal_length)

-- ---- places

separator_is : (m : Shown) → separator (moment_text m) ≡ time_designator
separator_is m =
    let t = day_at (day_of m.wall) in
    rw (line_parts m) (byte_at 10 (date_text t ++ after_date (nanosecond_of m.wall) m.offset) ∙ rw (drop_at (date_text t) (after_date (nanosecond_of m.wall) m.offset) 10 (date_length t)) refl)

-- the date, the designator and the clock
abbrev prefix : Shown → List ℕ
prefix m = date_text (day_at (day_of m.wall)) ++ (time_designator ∷ clock_text (nanosecond_of m.wall / second_nanos))

prefix_length : (m : Shown) → length (prefix m) ≡ 19
prefix_length m = simp (length-append, date_length, decimal_length)

after_prefix : (m : Shown) → drop 19 (moment_text m) ≡ after_second (nanosecond_of m.wall % second_nanos) m.offset
after_prefix m =
    let n = nanosecond_of m.wall in
    let after = after_second (n % second_nanos) m.offset in
    ap (drop 19) (line_parts m ∙ sym (append_assoc (date_text (day_at (day_of m.wall))) (time_designator ∷ clock_text (n / second_nanos)) after))
    ∙ drop_at (prefix m) after 19 (prefix_length m)

-- nine digits after the point
fraction_is : (m : Shown) → fraction_of (moment_text m) ≡ decimal 9 (nanosecond_of m.wall % second_nanos)
unfolding fraction_of
fraction_is m =
    let n = nanosecond_of m.wall % second_nanos in
    let count : digit_count (decimal 9 n ++ offset_text m.offset) ≡ 9 = count_with 9 n (offset_text m.offset) ∙ rw (offset_ends m.offset) refl in
    rw (after_prefix m, byte_read dot (decimal 9 n ++ offset_text m.offset), count) (take_at (decimal 9 n) (offset_text m.offset) 9 (decimal_length 9 n))

not_up : (n : ℕ) → rounds_up (decimal 9 n) ≡ false
unfolding rounds_up
not_up n = none_left (decimal 9 n) (omega (arith, decimal_length 9 n))

last_append : (a b : List ℕ) → 0 < length b → last_byte (a ++ b) ≡ last_byte b
last_append a b some =
    let after = drop_at a b (length a) refl in
    last_of_rest (length a) (a ++ b) (rw after some) ∙ ap (λ (bytes : List ℕ). last_byte bytes) after

last_digit : (n : ℕ) → last_byte (decimal 2 n) ≡ digit_zero + n % 10
unfolding decimal
last_digit n = last_append (decimal 1 (n / 10)) ((digit_zero + n % 10) ∷ []) (lit< tt)

no_letter : (a : List ℕ) (m : ℕ) → (last_byte (a ++ decimal 2 m) == lower_z) ≡ false
no_letter a m = rw (last_append a (decimal 2 m) (omega (arith, decimal_length 2 m)), last_digit m) (grind (arith, nat_tests))

zone_last : (is_named is_negative : Bool) (h m : ℕ) → (last_byte (zone_text is_named is_negative h m) == lower_z) ≡ false
zone_last true is_negative h m = refl
zone_last false is_negative h m = no_letter ((if is_negative then codes "-" else codes "+") ++ decimal 2 h ++ codes ":") m

zone_some : (is_named is_negative : Bool) (h m : ℕ) → 0 < length (zone_text is_named is_negative h m)
zone_some true is_negative h m = lit< tt
zone_some false true h m = simp (length-append, decimal_length) (lit< tt)
zone_some false false h m = simp (length-append, decimal_length) (lit< tt)

offset_last : (a : List ℕ) (o : ℤ) → (last_byte (a ++ offset_text o) == lower_z) ≡ false
unfolding offset_text
offset_last a o =
    let is_named = int_eq o (pos 0) in
    let is_negative = int_lt o (pos 0) in
    let h = unsigned_abs o / 3600 in
    let m = unsigned_abs o / 60 % 60 in
    rw (last_append a (zone_text is_named is_negative h m) (zone_some is_named is_negative h m)) (zone_last is_named is_negative h m)

line_last : (m : Shown) → (last_byte (moment_text m) == lower_z) ≡ false
unfolding moment_text
line_last m =
    let n = nanosecond_of m.wall in
    offset_last (date_text (day_at (day_of m.wall)) ++ codes "T" ++ time_text (n / second_nanos) (n % second_nanos)) m.offset

-- ISO 8601 reads the line too, as the same moment
pub both : (m : Shown) → is_of_both (moment_text m) ≡ true
both m = rw (separator_is m, line_last m, fraction_is m, not_up (nanosecond_of m.wall % second_nanos)) refl

pub unrounded : (m n : Shown) → rounded (moment_text m) n ≡ n
unrounded m n = rw (fraction_is m, not_up (nanosecond_of m.wall % second_nanos)) refl
