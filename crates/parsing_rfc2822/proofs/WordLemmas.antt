-- A name is compared as one number.
use Rattle.std.proofs.Common.{◌≡◌, ℕ, ◌+◌, ◌-◌, ◌*◌, ◌/◌, ◌%◌, ◌<◌, ◌≤◌, ◌&&◌, Bool, true, false, eqb, leb, List, [], ◌∷◌, length, get_or, Option, Some, None, refl, arith}
use Rattle.std.specs.Prelude.{if◌then◌else◌, ◌==◌}
use Rattle.std.specs.Int.Bits.{bit_or}
use Rattle.std.specs.Char.{to_ascii_lowercase}
use Rattle.std.specs.Str.{str_eq_ignore_ascii_case}
use Rattle.std.proofs.lemmas.Bool.{agree_below, agree_below_at, and_parts, eqb-true, leb-true}
use Rattle.std.proofs.lemmas.Bool.Decides.{nat_tests}
use Rattle.parsing_rfc2822.specs.Names.{lookup, weekdays, weekday_of, months, month_of, zones, zone_of}
use Rattle.parsing_rfc2822.specs.Words.{small, word_of}

pub small_is : (c : ℕ) → c < 256 → small c ≡ c / 64 * 64 + 32 + c % 32
small_is c lt = eqb-true _ _ (agree_below_at (λ n. eqb (bit_or n 32) (n / 64 * 64 + 32 + n % 32)) (λ n. true) 256 c refl lt)

pub small_fits : (c : ℕ) → c < 256 → small c < 256
small_fits c lt = omega (arith, small_is c lt)

-- a small letter is the same as a byte in lower case and as a byte with the bit
abbrev in_lower_case : ℕ → ℕ → Bool
in_lower_case c k = eqb (to_ascii_lowercase c) (to_ascii_lowercase (k + 97))

abbrev with_the_bit : ℕ → ℕ → Bool
with_the_bit c k = eqb (small c) (k + 97)

same_letter : (c x : ℕ) → c < 256 → 97 ≤ x → x ≤ 122 → eqb (to_ascii_lowercase c) (to_ascii_lowercase x) ≡ eqb (small c) x
same_letter c x lt low high =
    let all : agree_below (in_lower_case c) (with_the_bit c) 26 ≡ true = agree_below_at (λ d. agree_below (in_lower_case d) (with_the_bit d) 26) (λ d. true) 256 c refl lt in
    let same : x - 97 + 97 ≡ x = omega arith in
    rw same at (agree_below_at (in_lower_case c) (with_the_bit c) 26 (x - 97) all (omega arith))

-- three numbers of a byte each are compared as one
pub three_as_one : (a b c x y z : ℕ) → a < 256 → b < 256 → c < 256 → x < 256 → y < 256 → z < 256 → (eqb a x && (eqb b y && (eqb c z && true))) ≡ eqb (a * 65_536 + b * 256 + c) (x * 65_536 + y * 256 + z)
three_as_one a b c x y z ha hb hc hx hy hz = grind (arith, nat_tests)

abbrev pub are_small : ℕ → ℕ → ℕ → Bool
are_small x y z = (leb 97 x && leb x 122) && ((leb 97 y && leb y 122) && (leb 97 z && leb z 122))

bounds : (x : ℕ) → (leb 97 x && leb x 122) ≡ true → (97 ≤ x) × (x ≤ 122)
bounds x h = let p = and_parts _ _ h in (leb-true _ _ p.0, leb-true _ _ p.1)

-- three bytes against a name in small letters
pub name_as_one : (a b c x y z : ℕ) → a < 256 → b < 256 → c < 256 → are_small x y z ≡ true → str_eq_ignore_ascii_case (a ∷ b ∷ c ∷ []) (x ∷ y ∷ z ∷ []) ≡ eqb (small a * 65_536 + small b * 256 + small c) (x * 65_536 + y * 256 + z)
name_as_one a b c x y z ha hb hc h =
    let p = and_parts _ _ h in
    let q = and_parts _ _ p.1 in
    let bx = bounds x p.0 in
    let by = bounds y q.0 in
    let bz = bounds z q.1 in
    rw (same_letter a x ha bx.0 bx.1, same_letter b y hb by.0 by.1, same_letter c z hc bz.0 bz.1)
    (three_as_one (small a) (small b) (small c) x y z (small_fits a ha) (small_fits b hb) (small_fits c hc) (omega arith) (omega arith) (omega arith))

-- ---- tables of names

-- three small letters as one number
abbrev number_of : List ℕ → ℕ
number_of name = get_or name 0 0 * 65_536 + get_or name 1 0 * 256 + get_or name 2 0

-- the same table by its names as numbers
abbrev pub lookup_number : {A : Type 0} → List (List ℕ × A) → ℕ → Option A
lookup_number [] w = None
lookup_number (entry ∷ entries) w = if w == number_of entry.0 then Some entry.1 else lookup_number entries w

abbrev pub are_words : {A : Type 0} → List (List ℕ × A) → Bool
are_words [] = true
are_words ((x ∷ y ∷ z ∷ [], meaning) ∷ entries) = are_small x y z && are_words entries
are_words (entry ∷ entries) = false

pub by_number : {A : Type 0} (entries : List (List ℕ × A)) (a b c : ℕ) → a < 256 → b < 256 → c < 256 → are_words entries ≡ true → lookup entries (a ∷ b ∷ c ∷ []) ≡ lookup_number entries (small a * 65_536 + small b * 256 + small c)
by_number [] a b c ha hb hc words = refl
by_number ((x ∷ y ∷ z ∷ [], meaning) ∷ entries) a b c ha hb hc words =
    let w = and_parts _ _ words in
    rw (name_as_one a b c x y z ha hb hc w.0, by_number entries a b c ha hb hc w.1) refl
by_number entries a b c ha hb hc words = absurd cc

by_word : {A : Type 0} (entries : List (List ℕ × A)) → are_words entries ≡ true → (text : List ℕ) → length text ≡ 3 → ((k : ℕ) → get_or text k 0 < 256) → lookup entries text ≡ lookup_number entries (word_of text)
unfolding word_of
by_word entries words (a ∷ b ∷ c ∷ []) e fit = by_number entries a b c (fit 0) (fit 1) (fit 2) words
by_word entries words text e fit = absurd (omega arith)

pub weekday_by_word : (text : List ℕ) → length text ≡ 3 → ((k : ℕ) → get_or text k 0 < 256) → weekday_of text ≡ lookup_number weekdays (word_of text)
unfolding weekday_of
weekday_by_word = by_word weekdays refl

pub month_by_word : (text : List ℕ) → length text ≡ 3 → ((k : ℕ) → get_or text k 0 < 256) → month_of text ≡ lookup_number months (word_of text)
unfolding month_of
month_by_word = by_word months refl

pub zone_by_word : (text : List ℕ) → length text ≡ 3 → ((k : ℕ) → get_or text k 0 < 256) → zone_of text ≡ lookup_number zones (word_of text)
unfolding zone_of
zone_by_word = by_word zones refl
