-- The pieces of a line are read as the numbers that they were written of, whatever follows them.
use Rattle.std.proofs.Common.{◌≡◌, ℕ, ◌/◌, ◌%◌, ◌^◌, ◌<◌, ◌≤◌, ◌⊎◌, inl, inr, Bool, true, false, List, [], ◌∷◌, ◌++◌, Some, Ok, refl, sym, ap, ◌∙◌, arith, append_assoc, ℤ, pos, unsigned_abs, int_lt, int_eq}
use Rattle.std.specs.Prelude.{codes, nat_le, nat_lt, if◌then◌else◌, ◌==◌}
use Rattle.std.proofs.lemmas.Bool.Decides.{nat_tests}
use Rattle.std.proofs.lemmas.Int.{ints}
use Rattle.std.proofs.lemmas.List.{append-nil}
use Rattle.base.specs.Bytes.{plus, hyphen, colon, dot}
use Rattle.calendar_count.specs.Calendar.{YearMonthDay}
use Rattle.calendar.specs.UtcOffset.{IsClockOffset}
use Rattle.parsing_values.specs.Decimal.{decimal}
use Rattle.instants_answers.specs.Text.{date_text, offset_text}
use Rattle.instants_answers.proofs.Lines.{Fits}
use Rattle.parsing_combinator.specs.Pieces.{digit_count, any_byte, byte_of, skip_of}
use Rattle.parsing_combinator.specs.declared.zone.Zone.{Zone}
use Rattle.parsing_rfc3339.specs.Reading.{date, clock, due_fraction, subsecond, zulu, signed_offset, offset}
use Rattle.instants.proofs.Decimals.{decimal_read, fraction_read}

pub date_read : (t : YearMonthDay) (rest : List ℕ) → Fits t → 0 < t.month → date false (date_text t ++ rest) ≡ Ok ((unsigned_abs t.year, t.month, t.day), rest)
unfolding date date_text skip_of
date_read t rest f low =
    let some : nat_lt 0 t.month ≡ true = grind (arith, nat_tests) in
    simp append_assoc (rw (decimal_read 4 (unsigned_abs t.year) _ f.year, decimal_read 2 t.month _ f.month, some, decimal_read 2 t.day rest f.day) refl)

-- hours, minutes and seconds of a second of the day
abbrev pub clock_text : ℕ → List ℕ
clock_text s = decimal 2 (s / 3600) ++ codes ":" ++ decimal 2 (s / 60 % 60) ++ codes ":" ++ decimal 2 (s % 60)

pub clock_read : (s : ℕ) (rest : List ℕ) → s < 86_400 → clock false (clock_text s ++ rest) ≡ Ok ((s / 3600, s / 60 % 60, s % 60), rest)
unfolding clock skip_of
clock_read s rest h =
    simp append_assoc (rw (decimal_read 2 (s / 3600) _ (omega arith), decimal_read 2 (s / 60 % 60) _ (omega arith), decimal_read 2 (s % 60) rest (omega arith)) refl)

pub any_read : (c : ℕ) (rest : List ℕ) → any_byte (c ∷ rest) ≡ Some (tt, rest)
unfolding skip_of
any_read c rest = refl

pub subsecond_read : (n : ℕ) (rest : List ℕ) → n < 10 ^ 9 → digit_count rest ≡ 0 → subsecond (dot ∷ (decimal 9 n ++ rest)) ≡ Ok (Some n, rest)
unfolding subsecond due_fraction skip_of
subsecond_read n rest h end = rw (fraction_read n rest h end) refl

-- ---- offsets

abbrev pub zone_text : Bool → Bool → ℕ → ℕ → List ℕ
zone_text is_named is_negative h m = if is_named then codes "Z" else (if is_negative then codes "-" else codes "+") ++ decimal 2 h ++ codes ":" ++ decimal 2 m

abbrev pub zone_of : Bool → Bool → ℕ → ℕ → Zone
zone_of is_named is_negative h m = record { is_named = is_named; is_negative = is_negative; hours = h; minutes = m }

signed_at : (c h m : ℕ) → ((c ≡ plus) ⊎ (c ≡ hyphen)) → h ≤ 23 → m < 60 → offset false (c ∷ (decimal 2 h ++ (colon ∷ (decimal 2 m ++ [])))) ≡ Ok (zone_of false (c == hyphen) h m, [])
unfolding offset zulu signed_offset byte_of skip_of
signed_at c h m is few low =
    let within : nat_le h 23 ≡ true = grind (arith, nat_tests) in
    elim is [
      | inl east ↦ rw (east, decimal_read 2 h _ (omega arith), within, decimal_read 2 m [] (omega arith)) refl
      | inr west ↦ rw (west, decimal_read 2 h _ (omega arith), within, decimal_read 2 m [] (omega arith)) refl
    ]

hours_minutes : (h m : ℕ) → decimal 2 h ++ codes ":" ++ decimal 2 m ≡ decimal 2 h ++ (colon ∷ (decimal 2 m ++ []))
hours_minutes h m = simp append_assoc (ap (λ (bytes : List ℕ). decimal 2 h ++ (colon ∷ bytes)) (sym (append-nil (decimal 2 m))))

zone_at : (is_named is_negative : Bool) (h m : ℕ) → (is_named ≡ true → (is_negative ≡ false) × (h ≡ 0) × (m ≡ 0)) → h ≤ 23 → m < 60 → offset false (zone_text is_named is_negative h m) ≡ Ok (zone_of is_named is_negative h m, [])
unfolding offset zulu skip_of
zone_at true is_negative h m e few low = let none = e refl in rw (none.0, none.1, none.2) refl
zone_at false true h m e few low = ap (λ (bytes : List ℕ). offset false (hyphen ∷ bytes)) (hours_minutes h m) ∙ signed_at hyphen h m (inr refl) few low
zone_at false false h m e few low = ap (λ (bytes : List ℕ). offset false (plus ∷ bytes)) (hours_minutes h m) ∙ signed_at plus h m (inl refl) few low

no_offset : (o : ℤ) → int_eq o (pos 0) ≡ true → (int_lt o (pos 0) ≡ false) × (unsigned_abs o / 3600 ≡ 0) × (unsigned_abs o / 60 % 60 ≡ 0)
no_offset o e = let zero_is : o ≡ pos 0 = grind (arith, ints) in rw zero_is (refl, refl, refl)

-- the hours and minutes of an offset, and its sign
abbrev pub zone_named : ℤ → Zone
zone_named o = zone_of (int_eq o (pos 0)) (int_lt o (pos 0)) (unsigned_abs o / 3600) (unsigned_abs o / 60 % 60)

pub offset_read : (o : ℤ) → IsClockOffset o → offset false (offset_text o) ≡ Ok (zone_named o, [])
unfolding offset_text
offset_read o h = zone_at (int_eq o (pos 0)) (int_lt o (pos 0)) (unsigned_abs o / 3600) (unsigned_abs o / 60 % 60) (no_offset o) (let k = h.within_a_day in omega arith) (omega arith)

zone_ends : (is_named is_negative : Bool) (h m : ℕ) → digit_count (zone_text is_named is_negative h m) ≡ 0
zone_ends true is_negative h m = refl
zone_ends false true h m = refl
zone_ends false false h m = refl

-- an offset begins with no digit
pub offset_ends : (o : ℤ) → digit_count (offset_text o) ≡ 0
unfolding offset_text
offset_ends o = zone_ends (int_eq o (pos 0)) (int_lt o (pos 0)) (unsigned_abs o / 3600) (unsigned_abs o / 60 % 60)
