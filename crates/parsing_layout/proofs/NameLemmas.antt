-- The short names of months and weekdays that tables hold as numbers.
use Rattle.std.proofs.Common.{◌≡◌, ◌≤◌, ◌<◌, ◌+◌, ◌-◌, ◌*◌, ◌/◌, ◌%◌, ◌^◌, ◌∙◌, ◌==◌, ◌&&◌, ℕ, true, List, take, drop, length, get_or, Option, Some, unwrap_or, refl, ap, arith, inl, inr}
use Rattle.std.specs.Prelude.{option_map, nat_lt}
use Rattle.std.specs.Int.{w32, from_le_bytes}
use Rattle.std.proofs.lemmas.Bool.{agree_below_at, and_parts, cases_lt, eqb-true, ltb-true}
use Rattle.std.proofs.lemmas.List.{drop-drop}
use Rattle.calendar_count.specs.Month.{month_number}
use Rattle.parsing_combinator.specs.Names.{named, short_months, short_weekdays}
use Rattle.parsing_combinator.specs.Shape.{taken}
use Rattle.parsing_combinator.proofs.Lanes.{spelled_is}
use Rattle.parsing_combinator.proofs.NameLemmas.{are_even, taken_even}
use Rattle.parsing_layout.specs.Layout.{as_number, name_piece, weekday_number}
use Rattle.parsing_layout.specs.Letters.{letters_of}
use Rattle.parsing_layout.specs.declared.names.TheConstants.{MONTHS, WEEKDAYS, NUMBERS}
use Rattle.parsing_layout.specs.declared.parts.Names.TheVariants as names
use Rattle.std.proofs.lemmas.Bool.Decides.{nat_tests}

-- ---- at a place of a text

pub letters_there : (text : List ℕ) (place four : ℕ) → place + 4 ≤ length text → ((k : ℕ) → get_or text k 0 < 256) → four ≡ from_le_bytes w32 (take 4 (drop place text)) → letters_of (four * 256 % 2 ^ 32) ≡ take 3 (drop place text)
letters_there text place four room fit is =
    let sum : four ≡ get_or text place 0 + get_or text (place + 1) 0 * 256 + get_or text (place + 1 + 1) 0 * 65_536 + get_or text (place + 1 + 1 + 1) 0 * 16_777_216 = omega (arith, rw (spelled_is 4 place text room) at is) in
    let a : four * 256 % 2 ^ 32 / 256 % 256 ≡ get_or text place 0 = omega (arith, fit place) in
    let b : four * 256 % 2 ^ 32 / 65_536 % 256 ≡ get_or text (place + 1) 0 = omega (arith, fit place, fit (place + 1)) in
    let c : four * 256 % 2 ^ 32 / 16_777_216 ≡ get_or text (place + 1 + 1) 0 = omega (arith, fit place, fit (place + 1), fit (place + 1 + 1)) in
    rw (spelled_is 3 place text (omega arith), a, b, c) refl

numbered : {A : Type 0} (f : A → ℕ) (o : Option A) (n : ℕ) (rest : List ℕ) → option_map f o ≡ Some n → option_map {U = ℕ × List ℕ} (λ x. (f x.0, x.1)) (option_map {U = A × List ℕ} (λ x. (x, rest)) o) ≡ Some (n, rest)
numbered f o n rest e = grind (arith, nat_tests)

three_at : {A : Type 0} (f : A → ℕ) (entries : List (List ℕ × A)) → are_even 3 entries ≡ true → (text : List ℕ) (place n : ℕ) → option_map f (named true entries (take 3 (drop place text))) ≡ Some n
    → as_number f (taken (named true entries)) (drop place text) ≡ Some (n, drop (place + 3) text)
three_at {A = A} f entries even text place n is =
    ap (option_map {T = A × List ℕ} {U = ℕ × List ℕ} (λ x. (f x.0, x.1))) (taken_even true 3 entries (drop place text) even) ∙ rw (drop-drop 3 place text) (numbered f (named true entries (take 3 (drop place text))) n (drop (place + 3) text) is)

pub month_at : (text : List ℕ) (place n : ℕ) → option_map month_number (named true short_months (take 3 (drop place text))) ≡ Some n → name_piece names.ShortMonth true (drop place text) ≡ Some (n, drop (place + 3) text)
month_at = three_at month_number short_months refl

pub weekday_at : (text : List ℕ) (place n : ℕ) → option_map weekday_number (named true short_weekdays (take 3 (drop place text))) ≡ Some n → name_piece names.ShortWeekday true (drop place text) ≡ Some (n, drop (place + 3) text)
weekday_at = three_at weekday_number short_weekdays refl

-- ---- the tables

-- the number that letters name, or 0
abbrev month_of : ℕ → ℕ
month_of word = unwrap_or (option_map month_number (named true short_months (letters_of word))) 0

abbrev weekday_of : ℕ → ℕ
weekday_of word = unwrap_or (option_map weekday_number (named true short_weekdays (letters_of word))) 0

said : (o : Option ℕ) (n : ℕ) → 0 < n → unwrap_or o 0 ≡ n → o ≡ Some n
said o n some e = grind (arith, nat_tests)

pub month_in : (place word number : ℕ) → place < 16 → word < 2 ^ 32 → word % 256 ≡ 0 → (get_or MONTHS place 0 + (2 ^ 32 - word)) % 2 ^ 32 ≡ number → 1 ≤ number → number ≤ 12 → option_map month_number (named true short_months (letters_of word)) ≡ Some number
unfolding named
month_in place word number lt fits zero is low high =
    let listed = and_parts _ _ (agree_below_at (λ k. (month_of (get_or MONTHS k 0) == get_or MONTHS k 0 % 256) && nat_lt (get_or MONTHS k 0) (2 ^ 32)) (λ _. true) 16 place refl lt) in
    let small = ltb-true _ _ listed.1 in
    let whole : get_or MONTHS place 0 ≡ word + number = omega (arith, small) in
    let a : (word + number) / 256 % 256 ≡ word / 256 % 256 = omega arith in
    let b : (word + number) / 65_536 % 256 ≡ word / 65_536 % 256 = omega arith in
    let c : (word + number) / 16_777_216 ≡ word / 16_777_216 = omega arith in
    let d : (word + number) % 256 ≡ number = omega arith in
    let named_entry : month_of (get_or MONTHS place 0) ≡ get_or MONTHS place 0 % 256 = eqb-true _ _ listed.0 in
    said _ number low (rw (whole, a, b, c, d) at named_entry)

pub weekday_in : (place word : ℕ) → place < 8 → word % 256 ≡ 0 → get_or WEEKDAYS place 0 ≡ word → option_map weekday_number (named true short_weekdays (letters_of word)) ≡ Some (get_or NUMBERS place 0)
unfolding named
weekday_in place word lt zero is =
    elim (cases_lt place 7) [
      | inl less ↦
          let listed = and_parts _ _ (agree_below_at (λ k. (weekday_of (get_or WEEKDAYS k 0) == get_or NUMBERS k 0) && nat_lt 0 (get_or NUMBERS k 0)) (λ _. true) 7 place refl less) in
          let entry : weekday_of (get_or WEEKDAYS place 0) ≡ get_or NUMBERS place 0 = eqb-true _ _ listed.0 in
          said _ (get_or NUMBERS place 0) (ltb-true _ _ listed.1) (rw is at entry)
      | inr last ↦ absurd (let same : place ≡ 7 = omega arith in let one : 1 ≡ word = rw same at is in omega arith)
    ]
