-- Keys have no tab and no line feed.
use Rattle.std.proofs.Common.{◌≡◌, ◌+◌, ◌/◌, ◌%◌, ◌==◌, ℕ, zero, suc, Bool, true, false, ◌&&◌, ◌||◌, not, List, [], ◌∷◌, ◌++◌, drop, Option, Some, None, Ok, Err, refl, ap, ◌∙◌, arith, append_assoc, ℤ, pos, unsigned_abs, int_lt, int_eq}
use Rattle.std.specs.Prelude.{codes, if◌then◌else◌}
use Rattle.std.specs.List.{prefix_len}
use Rattle.std.specs.Cmp.Derive.{both_true}
use Rattle.std.proofs.lemmas.Bool.{not-true, or_parts}
use Rattle.std.proofs.lemmas.Bool.Decides.{nat_tests}
use Rattle.std.proofs.lemmas.List.Elements.{All-nil, All-cons, All-append}
use Rattle.std.proofs.lemmas.List.Folds.{list_all-append}
use Rattle.base.specs.Bytes.{tab, line_feed, digit_zero}
use Rattle.calendar_count.specs.Calendar.{YearMonthDay}
use Rattle.datetime_wall.specs.Wall.{Shown, instant, shown_at}
use Rattle.parsing_values.specs.Decimal.{decimal}
use Rattle.instants_answers.specs.Text.{date_text, time_text, offset_text, moment_text, has_written_year}
use Rattle.instants_found.specs.declared.found.Finding.{Finding}
use Rattle.instants_found.specs.declared.found.Finding.TheVariants.{Doubtful, There}
use Rattle.instants_stream.specs.Lines.{HasNoLineFeed}
use Rattle.instants_timeline.specs.Place.{Setting, in_written_years, place_text}
use Rattle.instants_faults.specs.Refusal.{year}
use Rattle.instants_lines.specs.Dates.{key_or, place_of_date}
use Rattle.instants_lines.specs.Fields.{IsLabel, is_field, without_fields, without_key}
use Rattle.instants_lines.specs.Going.{Going, finding_in, key_of_line, label_prefix}

-- ---- keys

digit : (n : ℕ) → not (digit_zero + n % 10 == tab || digit_zero + n % 10 == line_feed) ≡ true
digit n = grind (arith, nat_tests)

field_append : (some others : List ℕ) → is_field some ≡ true → is_field others ≡ true → is_field (some ++ others) ≡ true
field_append some others is is_other = list_all-append (λ byte. not (byte == tab || byte == line_feed)) some others ∙ both_true is is_other

decimals : (width n : ℕ) → is_field (decimal width n) ≡ true
unfolding decimal
decimals zero n = refl
decimals (suc width) n = field_append (decimal width (n / 10)) ((digit_zero + n % 10) ∷ []) (decimals width (n / 10)) (both_true (digit n) refl)

date_field : (d : YearMonthDay) → is_field (date_text d) ≡ true
unfolding date_text
date_field d = simp (list_all-append, decimals)

time_field : (second nanosecond : ℕ) → is_field (time_text second nanosecond) ≡ true
unfolding time_text
time_field second nanosecond = simp (list_all-append, decimals)

zone_field : (is_named is_negative : Bool) (hours minutes : ℕ) → is_field (if is_named then codes "Z" else (if is_negative then codes "-" else codes "+") ++ decimal 2 hours ++ codes ":" ++ decimal 2 minutes) ≡ true
zone_field true is_negative hours minutes = refl
zone_field false true hours minutes = simp (list_all-append, decimals)
zone_field false false hours minutes = simp (list_all-append, decimals)

offset_field : (offset : ℤ) → is_field (offset_text offset) ≡ true
unfolding offset_text
offset_field offset = zone_field (int_eq offset (pos 0)) (int_lt offset (pos 0)) (unsigned_abs offset / 3600) (unsigned_abs offset / 60 % 60)

parts_field : (day : YearMonthDay) (second nanosecond : ℕ) (offset : ℤ) → is_field (date_text day ++ codes "T" ++ time_text second nanosecond ++ offset_text offset) ≡ true
parts_field day second nanosecond offset = simp (list_all-append, date_field, time_field, offset_field)

pub moment_field : (m : Shown) → is_field (moment_text m) ≡ true
unfolding moment_text
moment_field m = parts_field _ _ _ m.offset

place_field : (o : Option Shown) → is_field (place_text (in_written_years o)) ≡ true
place_field None = refl
place_field (Some m) =
    elim (has_written_year m) as (λ b. is_field (place_text (if b then Ok m else Err year)) ≡ true) [
      | true ↦ moment_field m
      | false ↦ refl
    ]

key_field : (setting : Setting) (key : List ℕ) (o : Option Finding) → is_field key ≡ true → is_field (key_or setting key o) ≡ true
unfolding place_of_date
key_field setting key None is = is
key_field setting key (Some (Doubtful place)) is = refl
key_field setting key (Some (There date)) is = place_field (shown_at setting.target (instant date.moment))

-- a line's key is a field, where the key that a line without a date takes is
pub line_field : (going : Going) (line : List ℕ) → is_field going.key ≡ true → is_field (key_of_line going line) ≡ true
line_field going line is = key_field going.search.setting going.key (finding_in going line) is

pub either_field : (above : Bool) (some others : List ℕ) → is_field some ≡ true → is_field others ≡ true → is_field (if above then others else some) ≡ true
either_field true some others is is_other = is_other
either_field false some others is is_other = is

-- ---- what a field is without

and_both : (a b : Bool) → (a && b) ≡ true → (a ≡ true) × (b ≡ true)
and_both true b e = (refl, e)
and_both false b e = absurd cc

first_byte : (byte : ℕ) (bytes : List ℕ) → is_field (byte ∷ bytes) ≡ true → ((byte == tab) ≡ false) × ((byte == line_feed) ≡ false)
first_byte byte bytes is = or_parts (byte == tab) (byte == line_feed) (not-true (byte == tab || byte == line_feed) (and_both (not (byte == tab || byte == line_feed)) (is_field bytes) is).0)

other_bytes : (byte : ℕ) (bytes : List ℕ) → is_field (byte ∷ bytes) ≡ true → is_field bytes ≡ true
other_bytes byte bytes is = (and_both (not (byte == tab || byte == line_feed)) (is_field bytes) is).1

pub field_free : (bytes : List ℕ) → is_field bytes ≡ true → HasNoLineFeed bytes
field_free [] is = All-nil (λ (b : ℕ). (b == 10) ≡ false)
field_free (byte ∷ bytes) is = All-cons (λ (b : ℕ). (b == 10) ≡ false) byte bytes (first_byte byte bytes is).1 (field_free bytes (other_bytes byte bytes is))

one_more : (byte : ℕ) (bytes : List ℕ) → (byte == tab) ≡ false → without_key (byte ∷ bytes) ≡ without_key bytes
one_more byte bytes e =
    let test : not (byte == tab) ≡ true = rw e refl in
    let long : prefix_len (λ b. not (b == tab)) (byte ∷ bytes) + 1 ≡ suc (prefix_len (λ b. not (b == tab)) bytes + 1) = rw test (omega arith) in
    ap (λ (n : ℕ). drop n (byte ∷ bytes)) long

-- what stands after a key and a tab
pub without_field : (key line : List ℕ) → is_field key ≡ true → without_key (key ++ tab ∷ line) ≡ line
without_field [] line is = refl
without_field (byte ∷ key) line is = one_more byte (key ++ tab ∷ line) (first_byte byte key is).0 ∙ without_field key line (other_bytes byte key is)

-- a label has no line feed
pub label_free : (label : Option (List ℕ)) → IsLabel label → HasNoLineFeed (label_prefix label)
label_free None is = All-nil (λ (b : ℕ). (b == 10) ≡ false)
label_free (Some text) is = All-append (λ (b : ℕ). (b == 10) ≡ false) text (tab ∷ []) (field_free text is) (All-cons (λ (b : ℕ). (b == 10) ≡ false) tab [] refl (All-nil (λ (b : ℕ). (b == 10) ≡ false)))

-- what stands after a key and a label
pub without_both : (key : List ℕ) (label : Option (List ℕ)) (line : List ℕ) → is_field key ≡ true → IsLabel label → without_fields label (key ++ tab ∷ (label_prefix label ++ line)) ≡ line
without_both key None line is label_is = without_field key line is
without_both key (Some text) line is label_is =
    ap without_key (without_field key ((text ++ tab ∷ []) ++ line) is ∙ append_assoc text (tab ∷ []) line) ∙ without_field text line label_is
