-- What is read at the places of a text.
use Rattle.std.proofs.Common.{◌≡◌, ◌≤◌, ◌<◌, ◌+◌, ◌-◌, ◌*◌, ◌/◌, ◌%◌, ◌^◌, ◌∙◌, ◌==◌, ◌||◌, ℕ, true, List, ◌∷◌, length, get_or, drop, leb, Some, refl, arith}
use Rattle.std.specs.Char.{is_ascii_digit}
pub use Rattle.std.proofs.lemmas.Bool.{le-leb as at_least}
use Rattle.std.proofs.lemmas.Bool.Decides.{nat_tests}
use Rattle.std.proofs.lemmas.List.{drop-drop, drop_more, get_or-drop, length-drop}
use Rattle.base.specs.Bytes.{plus, hyphen}
use Rattle.parsing_combinator.specs.Pieces.{digits, byte, byte_of, sign}
use Rattle.parsing_combinator.specs.Places.{HasPair, AreFour}
use Rattle.parsing_combinator.proofs.Fixed.{digits_two, digits_four}
use Rattle.parsing_combinator.proofs.Prefixes.{byte_at}

pub is_digit : (c : ℕ) → 48 ≤ c → c ≤ 57 → is_ascii_digit c ≡ true
is_digit c low high = grind (arith, nat_tests)

-- the first byte from a place on
pub first_at : (text : List ℕ) (place : ℕ) → get_or (drop place text) 0 0 ≡ get_or text place 0
first_at text place = let same : place + 0 ≡ place = omega arith in rw same at (get_or-drop place text 0 0)

pub two_there : (text : List ℕ) (place : ℕ) → HasPair text place → digits 2 (drop place text) ≡ Some ((get_or text place 0 - 48) * 10 + (get_or text (place + 1) 0 - 48), drop (place + 2) text)
two_there text place h =
    let long : leb 2 (length (drop place text)) ≡ true = at_least 2 (length (drop place text)) (omega (arith, length-drop place text, h.room)) in
    let first = is_digit (get_or text place 0) h.first.low h.first.high in
    let second = is_digit (get_or text (place + 1) 0) h.second.low h.second.high in
    digits_two (drop place text) ∙ rw (long, first_at text place, get_or-drop place text 1 0, first, second, drop-drop 2 place text) refl

-- ---- digits in one number

-- the pairs that a product makes of four digits
product_of : (w x y z t : ℕ) → x ≤ 9 → y ≤ 9 → z ≤ 9 → t ≤ 9 → w ≡ x + y * 256 + z * 65_536 + t * 16_777_216
    → (w * 2561 % 2 ^ 32 / 256 % 256 ≡ x * 10 + y) × (w * 2561 % 2 ^ 32 / 16_777_216 ≡ z * 10 + t)
product_of w x y z t hx hy hz ht is =
    (omega arith, omega arith)

abbrev pub first_two : ℕ → ℕ
first_two w = w % 256 * 10 + w / 256 % 256

abbrev pub last_two : ℕ → ℕ
last_two w = w / 65_536 % 256 * 10 + w / 16_777_216

pub product : (w : ℕ) → AreFour w → (w * 2561 % 2 ^ 32 / 256 % 256 ≡ first_two w) × (w * 2561 % 2 ^ 32 / 16_777_216 ≡ last_two w)
product w are = product_of w (w % 256) (w / 256 % 256) (w / 65_536 % 256) (w / 16_777_216) are.first are.second are.third are.fourth (omega arith)

-- the number of the four bytes at a place
abbrev pub four_bytes : List ℕ → ℕ → ℕ
four_bytes text place = get_or text place 0 + get_or text (place + 1) 0 * 256 + get_or text (place + 2) 0 * 65_536 + get_or text (place + 3) 0 * 16_777_216

-- what it says, without what makes its bytes digits
pub record Pairs (w : ℕ) (text : List ℕ) (place : ℕ) : Type 0 where
  pub are : AreFour w
  pub first : digits 2 (drop place text) ≡ Some (first_two w, drop (place + 2) text)
  pub second : digits 2 (drop (place + 2) text) ≡ Some (last_two w, drop (place + 4) text)

pub places_two_on : (text : List ℕ) (place : ℕ) → HasPair text (place + 2) → digits 2 (drop (place + 2) text) ≡ Some ((get_or text (place + 2) 0 - 48) * 10 + (get_or text (place + 3) 0 - 48), drop (place + 4) text)
places_two_on text place h = grind (arith, nat_tests, two_there)

pub four_bounds : (text : List ℕ) (place : ℕ) → HasPair text place → HasPair text (place + 2) → (808_464_432 ≤ four_bytes text place) × (four_bytes text place < 2 ^ 32)
four_bounds text place h k = grind (arith, nat_tests)

pub pairs_there : (w : ℕ) (text : List ℕ) (place : ℕ) → HasPair text place → HasPair text (place + 2) → w + 808_464_432 ≡ four_bytes text place → Pairs w text place
pairs_there w text place h k is = grind (arith, nat_tests, two_there)

pub four_there : (text : List ℕ) (place high low : ℕ) → digits 2 (drop place text) ≡ Some (high, drop (place + 2) text) → digits 2 (drop (place + 2) text) ≡ Some (low, drop (place + 4) text) → digits 4 (drop place text) ≡ Some (high * 100 + low, drop (place + 4) text)
four_there text place high low first second =
    digits_four (drop place text) ∙ rw (first, second) refl

-- a byte at a place
pub byte_there : (text : List ℕ) (place c : ℕ) → place < length text → get_or text place 0 ≡ c → byte c (drop place text) ≡ Some (tt, drop (place + 1) text)
byte_there text place c lt is = rw (drop_more text place 0 lt, is) (byte_at c (drop (place + 1) text))

sign_of : (c : ℕ) (rest : List ℕ) → ((c == plus) || (c == hyphen)) ≡ true → sign (c ∷ rest) ≡ Some (c, rest)
unfolding byte_of
sign_of c rest e = rw e refl

pub sign_there : (text : List ℕ) (place : ℕ) → place < length text → ((get_or text place 0 == plus) || (get_or text place 0 == hyphen)) ≡ true → sign (drop place text) ≡ Some (get_or text place 0, drop (place + 1) text)
sign_there text place lt e = rw (drop_more text place 0 lt) (sign_of (get_or text place 0) (drop (place + 1) text) e)
