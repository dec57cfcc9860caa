-- What stands at the places of a text whose bytes lie within the bounds of a stride.
use Rattle.std.proofs.Common.{inl, inr, ◌∙◌, leb, ◌≡◌, ◌≤◌, ◌<◌, ◌+◌, ◌-◌, ℕ, true, List, get_or, length, drop, Some, refl, arith}
use Rattle.std.proofs.lemmas.List.{drop_more, drop-drop, length-drop}
use Rattle.parsing_combinator.specs.Pieces.{digits, byte, any_byte, skip_of, sign}
use Rattle.parsing_combinator.specs.Places.{HasDigit, HasPair}
use Rattle.parsing_combinator.specs.Shape.{is_sign}
use Rattle.parsing_combinator.proofs.AtPlaces.{at_least, byte_there, first_at, is_digit, sign_there}
use Rattle.parsing_combinator.proofs.Fixed.{digits_one}
use Rattle.parsing_layout.specs.Layout.{as_number}
use Rattle.parsing_layout.proofs.TestLemmas.{both, one, at_most, same}
use Rattle.parsing_places.specs.Lanes.{above}
use Rattle.parsing_strides.specs.Places.{lets, lets_year}
use Rattle.std.proofs.lemmas.Bool.Decides.{nat_tests}

-- the bytes up to a length lie within the bounds
pub record Lies (low most text : List ℕ) (size : ℕ) : Type 0 where
  pub room : size ≤ length text
  pub small : (k : ℕ) → get_or text k 0 < 256
  pub fits : (k : ℕ) → k < size → above (get_or text k 0) (get_or low k 0) ≤ get_or most k 0

-- what is known of a place at which some bytes alone can stand
pub record LetsAt (lows mosts : List ℕ) (place low most : ℕ) : Type 0 where
  pub low_is : get_or lows place 0 ≡ low
  pub most_is : get_or mosts place 0 ≤ most

pub lets_at : (lows mosts : List ℕ) (place low most : ℕ) → lets lows mosts place low most ≡ true → LetsAt lows mosts place low most
lets_at lows mosts place low most e = grind (arith, nat_tests)

-- ---- single bytes

pub literal_there : (text : List ℕ) (place c : ℕ) → place < length text → get_or text place 0 ≡ c → as_number (λ _. 0) (byte c) (drop place text) ≡ Some (0, drop (place + 1) text)
literal_there text place c lt is = rw (byte_there text place c lt is) refl

pub any_there : (text : List ℕ) (place : ℕ) → place < length text → as_number (λ _. 0) any_byte (drop place text) ≡ Some (0, drop (place + 1) text)
unfolding skip_of
any_there text place lt = rw (drop_more text place 0 lt) refl

pub one_there : (text : List ℕ) (place : ℕ) → place < length text → HasDigit text place → digits 1 (drop place text) ≡ Some (get_or text place 0 - 48, drop (place + 1) text)
one_there text place lt d =
    let long : leb 1 (length (drop place text)) ≡ true = at_least 1 (length (drop place text)) (omega (arith, length-drop place text, lt)) in
    digits_one (drop place text) ∙ rw (long, first_at text place, is_digit (get_or text place 0) d.low d.high, drop-drop 1 place text) refl

pub mark_there : (text : List ℕ) (place mark : ℕ) → place < length text → get_or text place 0 ≡ mark → is_sign mark ≡ true → sign (drop place text) ≡ Some (mark, drop (place + 1) text)
mark_there text place mark lt is e = grind (arith, nat_tests, sign_there)

-- ---- bytes within bounds

pub record DigitAt (text : List ℕ) (place lane : ℕ) : Type 0 where
  pub digit : HasDigit text place
  pub is : lane ≡ get_or text place 0 - 48
  pub few : lane ≤ 9

digit_byte : (byte lane low most : ℕ) → byte < 256 → lane ≡ above byte low → lane ≤ most → low ≡ 48 → most ≤ 9 → (48 ≤ byte) × (byte ≤ 57) × (lane ≡ byte - 48)
digit_byte byte lane low most small is fit low_is few = (omega arith, omega arith, omega arith)

module _ {low most text : List ℕ} {size : ℕ} (h : Lies low most text size) where
  pub byte_at : (place c : ℕ) → place < size → c < 256 → lets low most place c 0 ≡ true → get_or text place 0 ≡ c
  byte_at place c lt small e =
      let l = lets_at low most place c 0 e in
      omega (arith, h.fits place lt, h.small place, l.low_is, l.most_is, small)

  pub digit_at : (place : ℕ) → place < size → lets low most place 48 9 ≡ true → DigitAt text place (above (get_or text place 0) (get_or low place 0))
  digit_at place lt e =
      let l = lets_at low most place 48 9 e in
      let d = digit_byte (get_or text place 0) (above (get_or text place 0) (get_or low place 0)) (get_or low place 0) (get_or most place 0) (h.small place) refl (h.fits place lt) l.low_is l.most_is in
      record { digit = record { low = d.0; high = d.1 }; is = d.2; few = omega (arith, h.fits place lt, l.most_is) }

  pub pair_at : (place : ℕ) → place + 1 < size → lets low most place 48 9 ≡ true → lets low most (place + 1) 48 9 ≡ true → HasPair text place
  pair_at place lt first second = record {
    room = omega (arith, lt, h.room);
    first = (digit_at place (omega (arith, lt)) first).digit;
    second = (digit_at (place + 1) lt second).digit;
  }

  -- the digits of a year
  pub year_pairs : (year : ℕ) → year < 16 → lets_year low most size year ≡ true → HasPair text year × HasPair text (year + 2)
  year_pairs year there e = elim (one _ _ e) [
    | inl nowhere ↦ absurd (omega (arith, there, same year 16 nowhere))
    | inr four ↦
        let a = both _ _ four in
        let b = both _ _ a.1 in
        let c = both _ _ b.1 in
        let d = both _ _ c.1 in
        let room : year + 4 ≤ size = at_most _ _ a.0 in
        let next : year + 3 ≡ year + 2 + 1 = omega arith in
        (pair_at year (omega (arith, room)) b.0 c.0, pair_at (year + 2) (omega (arith, room)) d.0 (rw next at d.1))
  ]
