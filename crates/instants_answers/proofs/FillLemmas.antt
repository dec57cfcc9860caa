-- Bytes put into a room one after another.
use Rattle.std.proofs.Common.{◌≡◌, ℕ, lit≤, ◌+◌, ◌*◌, ◌/◌, ◌%◌, ◌≤◌, Bool, true, false, List, ◌++◌, length, take, drop, pos, unsigned_abs, int_lt, int_eq, refl, sym, ap, ◌∙◌, arith, take-take}
use Rattle.std.specs.Prelude.{codes, if◌then◌else◌}
use Rattle.datetime_wall.specs.Wall.{Shown}
use Rattle.calendar.specs.UtcOffset.{IsClockOffset}
use Rattle.parsing_values.specs.Decimal.{decimal}
use Rattle.parsing_values.specs.declared.fields.Fields.{Fields}
use Rattle.parsing_values.specs.Moment.{whole_text}
use Rattle.calendar_count.specs.Calendar.{ymd}
use Rattle.instants_answers.specs.Text.{date_text, time_text, offset_text, parts_text, moment_text}
use Rattle.instants_answers.proofs.MovedLemmas.{second_parts}
use Rattle.std.proofs.lemmas.List.{length-drop, length-take-le, take_all, take-append-drop}
use Rattle.std.proofs.Math.Seq.{take-append-add}

-- more bytes were put than are meant
pub first_of : (at count : ℕ) (old new bytes : List ℕ) → at ≤ length old → count ≤ length bytes → take (at + length bytes) new ≡ take at old ++ bytes → take (at + count) new ≡ take at old ++ take count bytes
first_of at count old new bytes within few put =
    let there : take (length (take at old) + count) (take at old ++ bytes) ≡ take at old ++ take count bytes = take-append-add (take at old) bytes count in
    sym (take-take (at + count) (at + length bytes) new (omega arith)) ∙ ap (take (at + count)) put ∙ (rw (length-take-le at old within) at there)

-- bytes that are a text of so many bytes were put after a text
pub after_text : (at n : ℕ) (old new bytes text prefix : List ℕ) → bytes ≡ text → length text ≡ n → take at old ≡ prefix → take (at + length bytes) new ≡ take at old ++ bytes → take (at + n) new ≡ prefix ++ text
after_text at n old new bytes text prefix is long before put = rw (is, long, before) at put

-- a moment in UTC is written in thirty bytes
pub whole_length : (f : Fields) → length (whole_text f) ≡ 30
unfolding whole_text decimal
whole_length f = refl

-- the text of fields is their line in UTC
pub whole_is_line : (f : Fields) → whole_text f ≡ parts_text (ymd (pos f.year) f.month f.day) (f.minute * 60 + f.second) f.fraction (pos 0)
unfolding whole_text date_text time_text offset_text decimal
whole_is_line f =
    let parts = second_parts f.minute f.second f.within_a_minute in
    rw (parts.0, parts.1, parts.2) refl

pub utc_is_clock : IsClockOffset (pos 0)
utc_is_clock = record { whole_minutes = refl; within_a_day = omega arith }

-- ---- the longest line

zone_length : (is_utc is_negative : Bool) (h m : ℕ) → length (if is_utc then codes "Z" else (if is_negative then codes "-" else codes "+") ++ decimal 2 h ++ codes ":" ++ decimal 2 m) ≤ 6
unfolding decimal
zone_length true is_negative h m = lit≤ tt
zone_length false true h m = lit≤ tt
zone_length false false h m = lit≤ tt

pub at_most_35 : (m : Shown) → length (moment_text m) ≤ 35
unfolding moment_text date_text time_text offset_text decimal
at_most_35 m =
    let offset = zone_length (int_eq m.offset (pos 0)) (int_lt m.offset (pos 0)) (unsigned_abs m.offset / 3600) (unsigned_abs m.offset / 60 % 60) in
    omega (arith, offset)

-- ---- a text that is its line

-- thirty bytes were put as the first fourteen, and the last sixteen
pub two_halves : (text mid new : List ℕ) → length text ≡ 30 → take 14 mid ≡ take 14 (take 16 text) → take (14 + length (take 16 (drop 14 text))) new ≡ take 14 mid ++ take 16 (drop 14 text) → take 30 new ≡ text
two_halves text mid new long first second =
    let size : length (drop 14 text) ≡ 16 = omega (arith, length-drop 14 text, long) in
    let rest : take 16 (drop 14 text) ≡ drop 14 text = take_all 16 (drop 14 text) (omega (arith, size)) in
    let both : take 30 new ≡ take 14 mid ++ drop 14 text = rw (rest, size) at second in
    both ∙ ap (λ (l : List ℕ). l ++ drop 14 text) (first ∙ take-take 14 16 text (omega arith)) ∙ take-append-drop 14 text
