-- Lines that a format can't have written.
use Rattle.std.proofs.Common.{◌≡◌, ℕ, ◌+◌, ◌<◌, ◌≤◌, zero, suc, ◌-◌, ◌*◌, Bool, true, false, cond, eqb, leb, List, [], ◌∷◌, length, get_or, take, drop, Option, Some, None, Ok, Err, nat_le, refl, ◌∙◌, arith}
use Rattle.std.specs.Prelude.{codes, option_map}
use Rattle.std.specs.Result.{result_ok}
use Rattle.std.specs.Char.{is_ascii_digit, to_ascii_lowercase}
use Rattle.std.proofs.lemmas.Bool.{le-leb}
use Rattle.std.proofs.Math.Bool.{and-false}
use Rattle.std.proofs.lemmas.Bool.Decides.{nat_tests}
use Rattle.std.proofs.lemmas.List.{get_or_past}
use Rattle.calendar_count.specs.declared.weekday.Weekday.{Weekday}
use Rattle.base.specs.Bytes.{hyphen, plus}
use Rattle.parsing_combinator.specs.Fault.{Fault, literal, component}
use Rattle.parsing_combinator.specs.Pieces.{digits, digit_count, byte, byte_of, skip_of}
use Rattle.parsing_combinator.proofs.Decimal.{digit_here}
use Rattle.parsing_combinator.proofs.Fixed.{digits_one, digits_two}
use Rattle.parsing_components.specs.declared.fields.Record.{Record}
use Rattle.parsing_parsable.specs.Staged.{reads_iso8601}
use Rattle.parsing_iso8601.specs.declared.kind.Kind.TheVariants.{Unknown}
use Rattle.parsing_iso8601.specs.Reading as iso8601
use Rattle.parsing_iso8601.specs.Dates as iso8601_dates
use Rattle.parsing_iso8601.specs.Times as iso8601_times
use Rattle.parsing_iso8601.specs.Offsets as iso8601_offsets
use Rattle.parsing_iso8601.specs.Numbers as iso8601_numbers
use Rattle.parsing_rfc3339.specs.Reading as rfc3339
use Rattle.parsing_rfc3339.specs.Direct as rfc3339_direct
use Rattle.parsing_rfc2822.specs.Reading as rfc2822
use Rattle.parsing_rfc2822.specs.Names.{weekday, weekday_of}
use Rattle.parsing_rfc2822.specs.Direct as rfc2822_direct
use Rattle.parsing_rfc2822.proofs.WhiteSpaceLemmas.{none_at, none_of_nothing}

-- ---- RFC 3339: a hyphen is due after four digits

no_byte : (wanted : ℕ) (bytes : List ℕ) (n : ℕ) → eqb (get_or bytes n 0) wanted ≡ false → byte wanted (drop n bytes) ≡ None
unfolding skip_of
no_byte wanted [] zero e = refl
no_byte wanted [] (suc n) e = refl
no_byte wanted (c ∷ rest) zero e = rw e refl
no_byte wanted (c ∷ rest) (suc n) e = no_byte wanted rest n e

date_refused : (bytes : List ℕ) → byte hyphen (drop 4 bytes) ≡ None → (fault : Fault) × (rfc3339.date false bytes ≡ Err fault)
unfolding rfc3339.date digits
date_refused bytes e =
    elim (nat_le 4 (digit_count bytes)) as (λ b. nat_le 4 (digit_count bytes) ≡ b → (fault : Fault) × (rfc3339.date false bytes ≡ Err fault)) [
      | true ↦ λ t. (literal, rw (t, e) refl)
      | false ↦ λ t. (component (codes "year"), rw t refl)
    ] refl

pub hyphen_due : (bytes : List ℕ) → eqb (get_or bytes 4 0) hyphen ≡ false → result_ok (rfc3339_direct.direct bytes) ≡ None
unfolding rfc3339_direct.direct rfc3339_direct.moment rfc3339.rfc3339
hyphen_due bytes e = let refused = date_refused bytes (no_byte hyphen bytes 4 e) in rw refused.1 refl

pub five_due : (bytes : List ℕ) → length bytes ≤ 4 → result_ok (rfc3339_direct.direct bytes) ≡ None
five_due bytes h = hyphen_due bytes (rw (get_or_past bytes 4 0 h) refl)

-- ---- RFC 2822: white space or a comment is due after two digits

other_name : (c d e : ℕ) → eqb (to_ascii_lowercase c) 102 ≡ false → eqb (to_ascii_lowercase c) 109 ≡ false → eqb (to_ascii_lowercase c) 115 ≡ false
    → eqb (to_ascii_lowercase c) 116 ≡ false → eqb (to_ascii_lowercase c) 119 ≡ false → weekday_of (c ∷ d ∷ e ∷ []) ≡ None
unfolding weekday_of
other_name c d e f m s t w = rw (m, t, w, f, s) refl

no_name : (c d e : ℕ) → c ≤ 57 → weekday_of (c ∷ d ∷ e ∷ []) ≡ None
no_name c d e le = other_name c d e (grind (arith, nat_tests)) (grind (arith, nat_tests)) (grind (arith, nat_tests)) (grind (arith, nat_tests)) (grind (arith, nat_tests))

no_named : (b : Bool) (o : Option Weekday) (rest : List ℕ) → o ≡ None → cond {A = Option (Weekday × List ℕ)} b (option_map (λ x. (x, rest)) o) None ≡ None
no_named true o rest e = rw e refl
no_named false o rest e = refl

no_weekday : (c d e : ℕ) (rest : List ℕ) → c ≤ 57 → weekday (c ∷ d ∷ e ∷ rest) ≡ None
unfolding weekday
no_weekday c d e rest le = no_named (leb 3 (length (c ∷ d ∷ e ∷ rest))) (weekday_of (c ∷ d ∷ e ∷ [])) rest (no_name c d e le)

unnamed : (c : ℕ) (rest : List ℕ) → ((d e : ℕ) → weekday_of (c ∷ d ∷ e ∷ []) ≡ None) → weekday (c ∷ rest) ≡ None
unfolding weekday
unnamed c (d ∷ e ∷ rest) none = no_named (leb 3 (length (c ∷ d ∷ e ∷ rest))) (weekday_of (c ∷ d ∷ e ∷ [])) rest (none d e)
unnamed c few none = refl

day_read : (c d e : ℕ) (rest : List ℕ) → is_ascii_digit c ≡ true → is_ascii_digit d ≡ true
    → rfc2822.day false (c ∷ d ∷ e ∷ rest) ≡ Ok ((None, (c - 48) * 10 + (d - 48)), e ∷ rest)
unfolding rfc2822.day rfc2822.optional_weekday rfc2822.one_or_two_digits
day_read c d e rest hc hd =
    let bounds = digit_here c hc in
    let none = none_at c (d ∷ e ∷ rest) (omega (arith, bounds.0)) in
    let there : nat_le 2 (length (c ∷ d ∷ e ∷ rest)) ≡ true = le-leb 2 (length (c ∷ d ∷ e ∷ rest)) (omega arith) in
    let two : digits 2 (c ∷ d ∷ e ∷ rest) ≡ Some ((c - 48) * 10 + (d - 48), e ∷ rest) = digits_two (c ∷ d ∷ e ∷ rest) ∙ rw (there, hc, hd) refl in
    rw (none, no_weekday c d e rest bounds.1, two) refl

month_refused : (e : ℕ) (rest : List ℕ) → 41 ≤ e → rfc2822.month_and_year (e ∷ rest) ≡ Err literal
unfolding rfc2822.month_and_year
month_refused e rest h = rw (none_at e rest h) refl

one_day_read : (c d : ℕ) (rest : List ℕ) → is_ascii_digit c ≡ true → is_ascii_digit d ≡ false
    → rfc2822.day false (c ∷ d ∷ rest) ≡ Ok ((None, c - 48), d ∷ rest)
unfolding rfc2822.day rfc2822.optional_weekday rfc2822.one_or_two_digits
one_day_read c d rest hc hd =
    let bounds = digit_here c hc in
    let none = none_at c (d ∷ rest) (omega (arith, bounds.0)) in
    let there : nat_le 1 (length (c ∷ d ∷ rest)) ≡ true = le-leb 1 (length (c ∷ d ∷ rest)) (omega arith) in
    let two : digits 2 (c ∷ d ∷ rest) ≡ None = digits_two (c ∷ d ∷ rest) ∙ rw (hc, hd, and-false (nat_le 2 (length (c ∷ d ∷ rest)))) refl in
    let one : digits 1 (c ∷ d ∷ rest) ≡ Some (c - 48, d ∷ rest) = digits_one (c ∷ d ∷ rest) ∙ rw (there, hc) refl in
    rw (none, unnamed c (d ∷ rest) (λ e f. no_name c e f bounds.1), two, one) refl

pub space_due : (bytes : List ℕ) → 3 ≤ length bytes → is_ascii_digit (get_or bytes 0 0) ≡ true → is_ascii_digit (get_or bytes 1 0) ≡ true → 41 ≤ get_or bytes 2 0
    → result_ok (rfc2822_direct.direct bytes) ≡ None
unfolding rfc2822_direct.direct rfc2822_direct.moment rfc2822.rfc2822
space_due (c ∷ d ∷ e ∷ rest) le hc hd he = rw (day_read c d e rest hc hd, month_refused e rest he) refl
space_due few le hc hd he = absurd (omega (arith, le))

pub space_due_of_one : (bytes : List ℕ) → 3 ≤ length bytes → is_ascii_digit (get_or bytes 0 0) ≡ true → is_ascii_digit (get_or bytes 1 0) ≡ false → 41 ≤ get_or bytes 1 0
    → result_ok (rfc2822_direct.direct bytes) ≡ None
unfolding rfc2822_direct.direct rfc2822_direct.moment rfc2822.rfc2822
space_due_of_one (c ∷ d ∷ rest) le hc hd h = rw (one_day_read c d rest hc hd, month_refused d rest h) refl
space_due_of_one few le hc hd h = absurd (omega (arith, le))

-- ---- a first byte after the digits begins no number

no_digit : (c : ℕ) → 57 < c → is_ascii_digit c ≡ false
no_digit c h = grind (arith, nat_tests)

-- RFC 2822: a comma is due after a weekday, and a number where none stands

no_day : (c : ℕ) (rest : List ℕ) → 57 < c → byte rfc2822.comma (drop 3 (c ∷ rest)) ≡ None → (fault : Fault) × (rfc2822.day false (c ∷ rest) ≡ Err fault)
unfolding rfc2822.day rfc2822.optional_weekday rfc2822.named_day rfc2822.one_or_two_digits digits weekday
no_day c rest h e =
    let none = none_at c rest (omega (arith, h)) in
    elim (nat_le 3 (length (c ∷ rest))) as (λ b. nat_le 3 (length (c ∷ rest)) ≡ b → (fault : Fault) × (rfc2822.day false (c ∷ rest) ≡ Err fault)) [
      | true ↦ λ l. elim (weekday_of (take 3 (c ∷ rest))) as (λ o. weekday_of (take 3 (c ∷ rest)) ≡ o → (fault : Fault) × (rfc2822.day false (c ∷ rest) ≡ Err fault)) [
        | Some w ↦ λ t. (literal, rw (none, l, t, e) refl)
        | None ↦ λ t. (component (codes "day"), rw (none, l, t, no_digit c h) refl)
      ] refl
      | false ↦ λ l. (component (codes "day"), rw (none, l, no_digit c h) refl)
    ] refl

pub day_due : (bytes : List ℕ) → 57 < get_or bytes 0 0 → eqb (get_or bytes 3 0) rfc2822.comma ≡ false → result_ok (rfc2822_direct.direct bytes) ≡ None
unfolding rfc2822_direct.direct rfc2822_direct.moment rfc2822.rfc2822
day_due [] h e = absurd (omega (arith, h))
day_due (c ∷ rest) h e = let refused = no_day c rest h (no_byte rfc2822.comma (c ∷ rest) 3 e) in rw refused.1 refl

pub day_due_of_few : (bytes : List ℕ) → length bytes ≤ 3 → 57 < get_or bytes 0 0 → result_ok (rfc2822_direct.direct bytes) ≡ None
day_due_of_few bytes le h = day_due bytes h (rw (get_or_past bytes 3 0 le) refl)

pub day_due_of_nothing : (bytes : List ℕ) → length bytes < 1 → result_ok (rfc2822_direct.direct bytes) ≡ None
unfolding rfc2822_direct.direct rfc2822_direct.moment rfc2822.rfc2822 rfc2822.day rfc2822.optional_weekday rfc2822.one_or_two_digits digits weekday
day_due_of_nothing [] lt = rw none_of_nothing refl
day_due_of_nothing (c ∷ rest) lt = absurd (omega (arith, lt))

-- ISO 8601: a part begins with a digit, a sign, a `T` or a `Z`

no_sign : (c : ℕ) → 57 < c → (eqb c plus ≡ false) × (eqb c hyphen ≡ false)
no_sign c h = (grind (arith, nat_tests), grind (arith, nat_tests))

no_year : (c : ℕ) (rest : List ℕ) → 57 < c → iso8601_numbers.year (c ∷ rest) ≡ None
unfolding iso8601_numbers.year iso8601_numbers.plain_year byte_of digits
no_year c rest h = let s = no_sign c h in rw (s.0, s.1, no_digit c h) refl

no_date : (c : ℕ) (rest : List ℕ) → 57 < c → iso8601.dated (c ∷ rest) ≡ Ok ((Err (component (codes "year")), Unknown), c ∷ rest)
unfolding iso8601.dated iso8601_dates.year_and_kind
no_date c rest h = rw (no_year c rest h) refl

no_time : (c : ℕ) (rest : List ℕ) → 57 < c → eqb c 84 ≡ false → iso8601_times.time Unknown false (c ∷ rest) ≡ None
unfolding iso8601_times.time iso8601_times.designator iso8601_numbers.number skip_of digits
no_time c rest h t = rw (t, no_digit c h) refl

no_offset : (c : ℕ) (rest : List ℕ) → 57 < c → eqb c 90 ≡ false → iso8601_offsets.offset Unknown (c ∷ rest) ≡ None
unfolding iso8601_offsets.offset iso8601_offsets.signed_offset byte_of skip_of
no_offset c rest h z = let s = no_sign c h in rw (z, s.0, s.1) refl

pub part_due : (bytes : List ℕ) (r : Record) → 1 ≤ length bytes → 57 < get_or bytes 0 0 → eqb (get_or bytes 0 0) 84 ≡ false → eqb (get_or bytes 0 0) 90 ≡ false → result_ok (reads_iso8601 r bytes) ≡ None
unfolding reads_iso8601 iso8601.iso8601
part_due [] r le h t z = absurd (omega (arith, le))
part_due (c ∷ rest) r le h t z = rw (no_date c rest h, no_time c rest h t, no_offset c rest h z) refl

pub part_due_of_nothing : (bytes : List ℕ) (r : Record) → length bytes < 1 → result_ok (reads_iso8601 r bytes) ≡ None
unfolding reads_iso8601 iso8601.iso8601 iso8601.dated iso8601_dates.year_and_kind iso8601_numbers.year iso8601_numbers.plain_year iso8601_times.time iso8601_times.designator iso8601_numbers.number iso8601_offsets.offset iso8601_offsets.signed_offset byte_of skip_of digits
part_due_of_nothing [] r lt = refl
part_due_of_nothing (c ∷ rest) r lt = absurd (omega (arith, lt))
