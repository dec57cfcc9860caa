-- Names that tables hold as numbers of four bytes.
use Rattle.std.proofs.Common.{◌≡◌, ◌≤◌, ◌<◌, ◌+◌, ◌*◌, ◌/◌, ◌%◌, ◌^◌, ◌==◌, ◌∙◌, ◌&&◌, ◌||◌, ℕ, Bool, false, true, List, [], ◌∷◌, length, get_or, leb, eqb, Option, None, Some, refl, arith, lit<}
use Rattle.std.specs.Prelude.{nat_le}
use Rattle.std.specs.Int.Bits.{bit_or}
use Rattle.std.proofs.lemmas.Bool.{agree_below_at, and_parts, eqb-true, leb-true, ne_eqb}
use Rattle.std.proofs.lemmas.Bool.Decides.{nat_tests}
use Rattle.std.proofs.lemmas.Nat.{or_block}
use Rattle.calendar_count.specs.Month.{month_number}
use Rattle.parsing_rfc2822.specs.Names.{lookup, weekday, weekday_of, weekdays, month, month_of, months}
use Rattle.parsing_rfc2822.specs.Words.{small}
use Rattle.parsing_rfc2822_shapes.specs.declared.letters.TheConstants.{WEEKDAYS, MONTHS, NUMBERS}
use Rattle.parsing_rfc2822_shapes.specs.Names.{HasWeekday, HasMonth, number_of_four}
use Rattle.parsing_rfc2822.proofs.WordLemmas.{are_words, by_number, lookup_number, small_is, small_fits}

-- the bits of four bytes in one number
bits_of_four : (a b c d m n o p : ℕ) → a < 256 → b < 256 → c < 256 → m < 256 → n < 256 → o < 256 → bit_or (a + b * 256 + c * 65_536 + d * 16_777_216) (m + n * 256 + o * 65_536 + p * 16_777_216) ≡ bit_or a m + bit_or b n * 256 + bit_or c o * 65_536 + bit_or d p * 16_777_216
bits_of_four a b c d m n o p ha hb hc hm hn ho =
    let left : a + b * 256 + c * 65_536 + d * 16_777_216 ≡ ((d * 2 ^ 8 + c) * 2 ^ 8 + b) * 2 ^ 8 + a = omega arith in
    let right : m + n * 256 + o * 65_536 + p * 16_777_216 ≡ ((p * 2 ^ 8 + o) * 2 ^ 8 + n) * 2 ^ 8 + m = omega arith in
    let first = or_block 8 ((d * 2 ^ 8 + c) * 2 ^ 8 + b) ((p * 2 ^ 8 + o) * 2 ^ 8 + n) a m ha hm in
    let second = or_block 8 (d * 2 ^ 8 + c) (p * 2 ^ 8 + o) b n hb hn in
    let third = or_block 8 d p c o hc ho in
    rw (left, right) (omega (arith, first, second, third))

no_bits : (c : ℕ) → c < 256 → bit_or c 0 ≡ c
no_bits c lt = eqb-true _ _ (agree_below_at (λ n. eqb (bit_or n 0) n) (λ n. true) 256 c refl lt)

-- ---- the tables

-- an entry is there, and has this number
abbrev has_number : {A : Type 0} → (A → ℕ) → Option A → ℕ → Bool
has_number number None n = false
has_number number (Some x) n = number x == n

entry_with : {A : Type 0} (number : A → ℕ) (o : Option A) (n : ℕ) → has_number number o n ≡ true → (x : A) × (o ≡ Some x) × (number x ≡ n)
entry_with number None n e = absurd cc
entry_with number (Some x) n e = (x, refl, eqb-true (number x) n e)

-- three small letters in one number, the first one lowest, name an entry of a table, which has this number
abbrev is_entry : {A : Type 0} → List (List ℕ × A) → (A → ℕ) → ℕ → ℕ → Bool
is_entry names number n k = nat_le 97 (n % 256) && has_number number (lookup_number names (n % 256 * 65_536 + n / 256 % 256 * 256 + n / 65_536 % 256)) k

entry_named : {A : Type 0} (names : List (List ℕ × A)) (number : A → ℕ) (n k a b c : ℕ) → are_words names ≡ true → a < 256 → b < 256 → c < 256 → n ≡ small a + small b * 256 + small c * 65_536 → is_entry names number n k ≡ true → (41 ≤ a) × ((x : A) × (lookup names (a ∷ b ∷ c ∷ []) ≡ Some x) × (number x ≡ k))
entry_named names number n k a b c words ha hb hc e is =
    let word : n % 256 * 65_536 + n / 256 % 256 * 256 + n / 65_536 % 256 ≡ small a * 65_536 + small b * 256 + small c = omega (arith, e, small_fits a ha, small_fits b hb, small_fits c hc) in
    let p = and_parts (nat_le 97 (n % 256)) _ is in
    let x = entry_with number (lookup_number names (n % 256 * 65_536 + n / 256 % 256 * 256 + n / 65_536 % 256)) k p.1 in
    (omega (arith, small_is a ha, leb-true _ _ p.0, e), (x.0, by_number names a b c ha hb hc words ∙ rw (← word) x.1, x.2))

-- ---- weekdays

-- no name, or three small letters that name a weekday, and a comma
abbrev is_day : ℕ → Bool
is_day n = (n == 0) || ((n / 16_777_216 == 44) && is_entry weekdays (λ _. 0) (n % 16_777_216) 0)

-- what a number found in the table says
pub weekday_there : (text : List ℕ) (place : ℕ) → 5 ≤ length text → ((k : ℕ) → get_or text k 0 < 256) → place < 8 → get_or WEEKDAYS place 0 ≡ bit_or (number_of_four text) 2_105_376 → get_or text 4 0 ≡ 32 → HasWeekday text
unfolding weekday weekday_of
weekday_there (a ∷ b ∷ c ∷ rest) place le fit lt e space =
    let n = get_or WEEKDAYS place 0 in
    let last : ℕ = get_or rest 0 0 in
    let low = bits_of_four a b c last 32 32 32 0 (fit 0) (fit 1) (fit 2) (lit< tt) (lit< tt) (lit< tt) in
    let word : n ≡ small a + small b * 256 + small c * 65_536 + last * 16_777_216 = e ∙ rw (no_bits last (fit 3)) at low in
    let fits : (small a < 256) × (small b < 256) × (small c < 256) = (small_fits a (fit 0), small_fits b (fit 1), small_fits c (fit 2)) in
    let some : (n == 0) ≡ false = ne_eqb n 0 (λ z. absurd (omega (arith, small_is a (fit 0), word))) in
    let all = and_parts (n / 16_777_216 == 44) _ (rw some at (agree_below_at (λ k. is_day (get_or WEEKDAYS k 0)) (λ k. true) 8 place refl lt)) in
    let day = entry_named weekdays (λ _. 0) (n % 16_777_216) 0 a b c refl (fit 0) (fit 1) (fit 2) (omega (arith, word, fits)) all.1 in
    let long : leb 3 (length (a ∷ b ∷ c ∷ rest)) ≡ true = grind (arith, nat_tests) in
    record { weekday_is = day.1.0; named = rw (long, day.1.1) refl; letter = day.0; comma_there = omega (arith, eqb-true (n / 16_777_216) 44 all.0, word, fits); space_there = space }
weekday_there text place le fit lt e space = absurd (omega arith)

-- ---- months

-- no name, or a space and three small letters that name the month of a number
abbrev is_month : ℕ → ℕ → Bool
is_month n number = (n == 0) || ((n % 256 == 32) && is_entry months month_number (n / 256) number)

-- what a number found in the table says
pub month_there : (text : List ℕ) (place : ℕ) → 4 ≤ length text → ((k : ℕ) → get_or text k 0 < 256) → place < 16 → get_or MONTHS place 0 ≡ bit_or (number_of_four text) 538_976_256 → HasMonth text (get_or NUMBERS place 0)
unfolding month month_of
month_there (s ∷ a ∷ b ∷ c ∷ rest) place le fit lt e =
    let n = get_or MONTHS place 0 in
    let bits = bits_of_four s a b c 0 32 32 32 (fit 0) (fit 1) (fit 2) (lit< tt) (lit< tt) (lit< tt) in
    let word : n ≡ s + small a * 256 + small b * 65_536 + small c * 16_777_216 = e ∙ omega (arith, bits, no_bits s (fit 0)) in
    let fits : (small a < 256) × (small b < 256) × (small c < 256) = (small_fits a (fit 1), small_fits b (fit 2), small_fits c (fit 3)) in
    let some : (n == 0) ≡ false = ne_eqb n 0 (λ z. absurd (omega (arith, small_is a (fit 1), word))) in
    let all = and_parts (n % 256 == 32) _ (rw some at (agree_below_at (λ k. is_month (get_or MONTHS k 0) (get_or NUMBERS k 0)) (λ k. true) 16 place refl lt)) in
    let m = entry_named months month_number (n / 256) (get_or NUMBERS place 0) a b c refl (fit 1) (fit 2) (fit 3) (omega (arith, word, fits, fit 0)) all.1 in
    let long : leb 3 (length (a ∷ b ∷ c ∷ rest)) ≡ true = grind (arith, nat_tests) in
    record { space_there = omega (arith, eqb-true (n % 256) 32 all.0, word, fits, fit 0); letter = m.0; month_is = m.1.0; named = rw (long, m.1.1) refl; number_is = m.1.2 }
month_there text place le fit lt e = absurd (omega arith)
