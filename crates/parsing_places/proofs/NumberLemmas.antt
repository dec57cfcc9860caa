-- The numbers that lanes take of a text, and its bytes, by tests of windows.
use Rattle.std.proofs.Common.{◌≡◌, ◌≤◌, ◌<◌, ◌+◌, ◌-◌, ◌*◌, ◌∙◌, ◌&&◌, ◌==◌, ℕ, Bool, true, false, List, length, get_or, refl, arith, inl, inr, lit<, lit≤}
use Rattle.std.specs.Prelude.{nat_lt, nat_le}
use Rattle.std.proofs.lemmas.Bool.{and_parts, cases_lt, eqb-true, leb-true}
use Rattle.std.proofs.lemmas.Bool.Decides.{nat_tests}
use Rattle.std.proofs.lemmas.List.{get_or_past}
use Rattle.parsing_combinator.specs.Places.{HasDigit}
use Rattle.parsing_places.specs.Lanes.{above}
use Rattle.parsing_places.specs.Last.{HaveWindow}
use Rattle.parsing_places.specs.Numbers.{IsDigitAt, LieIn}
use Rattle.parsing_places.specs.Windows.{Taken, lets, lets_at, spares, spares_one, takes, takes_one, takes_sign}
use Rattle.parsing_places.specs.declared.shape.Window.{Window}
use Rattle.parsing_places.specs.declared.windows.Windows.{Windows}
use Rattle.parsing_places.proofs.ReadLemmas.{or_zero, zero_or, same_lane}

-- a single digit, and a sign with how far it lies above a plus
pub record One (text : List ℕ) (place number : ℕ) : Type 0 where
  pub room : place < length text
  pub digit : HasDigit text place
  pub is : number ≡ get_or text place 0 - 48

pub record SignAt (text : List ℕ) (place sign : ℕ) : Type 0 where
  pub low : 43 ≤ get_or text place 0
  pub high : get_or text place 0 ≤ 45
  pub is : sign ≡ get_or text place 0 - 43

-- ---- one window

-- what a test of a place says
record LetsIn (w : Window) (place low most : ℕ) : Type 0 where
  inside : place < 16
  low_is : get_or w.low place 0 ≡ low
  high_is : get_or w.high place 0 ≤ most

lets_in : (w : Window) (place low most : ℕ) → lets w place low most ≡ true → LetsIn w place low most
lets_in w place low most e = record { inside = grind (arith, nat_tests, e); low_is = grind (arith, nat_tests, e); high_is = grind (arith, nat_tests, e) }

pub in_window : (w : Window) (text : List ℕ) (at place low most : ℕ) → ((k : ℕ) → get_or text k 0 < 256) → LieIn w text at → lets w place low most ≡ true → low + most < 256 → (low ≤ get_or text (at + place) 0) × (get_or text (at + place) 0 ≤ low + most)
in_window w text at place low most small lies e sum = grind (arith, nat_tests)

-- a byte that is no NUL stands within the text
not_past : (text : List ℕ) (place low : ℕ) → 0 < low → low ≤ get_or text place 0 → place < length text
not_past text place low some is = elim (cases_lt place (length text)) [ inl lt ↦ lt | inr le ↦ absurd (omega (arith, some, is, get_or_past text place 0 le)) ]

pub digit_in : (w : Window) (text v : List ℕ) (at lane place most : ℕ) → ((k : ℕ) → get_or text k 0 < 256) → HaveWindow w text at v → lane < 16 → most ≤ 9 → takes w lane place most ≡ true → IsDigitAt v lane text (at + place) most
digit_in w text v at lane place most small h lt few e = grind (arith, nat_tests, not_past)

-- ---- two windows

-- the number of two lanes
abbrev pub PairedAt : List ℕ → List ℕ → ℕ → Type 0
PairedAt v n j = get_or v (2 * j) 0 ≤ 9 → get_or v (2 * j + 1) 0 ≤ 9 → get_or n (2 * j) 0 ≡ get_or v (2 * j) 0 * 10 + get_or v (2 * j + 1) 0

module _ (w : Windows) (text v : List ℕ) (h : Taken w text v) (small : (k : ℕ) → get_or text k 0 < 256) where
  first_lane : (lane : ℕ) → lane < 16 → spares w.back lane ≡ true → get_or v lane 0 ≡ get_or h.front lane 0
  first_lane lane lt free = h.joined lane lt ∙ rw (h.back_there.none lane lt (leb-true _ _ free)) (or_zero (get_or h.front lane 0))

  second_lane : (lane : ℕ) → lane < 16 → spares w.prefix lane ≡ true → get_or v lane 0 ≡ get_or h.back lane 0
  second_lane lane lt free = h.joined lane lt ∙ rw (h.front_there.none lane lt (leb-true _ _ free)) (zero_or (get_or h.back lane 0))

  pub none_taken : (lane : ℕ) → lane < 16 → spares_one w lane ≡ true → get_or v lane 0 ≡ 0
  none_taken lane lt e = let b = and_parts (spares w.prefix lane) (spares w.back lane) e in first_lane lane lt b.1 ∙ h.front_there.none lane lt (leb-true _ _ b.0)

  digit_by : (free : Bool) (lane place most : ℕ) → spares w.prefix lane ≡ free → lane < 16 → most ≤ 9 → takes_one w lane place most ≡ true → IsDigitAt v lane text place most
  digit_by true lane place most is lt few e =
      let there : (nat_le w.back_at place && takes w.back lane (place - w.back_at) most) ≡ true = rw is at e in
      let b = and_parts _ _ there in
      let same : w.back_at + (place - w.back_at) ≡ place = omega (arith, leb-true w.back_at place b.0) in
      same_lane h.back v text lane place most (second_lane lane lt is) (rw same at (digit_in w.back text h.back w.back_at lane (place - w.back_at) most small h.back_there lt few b.1))
  digit_by false lane place most is lt few e =
      let here : (takes w.prefix lane place most && spares w.back lane) ≡ true = rw is at e in
      let b = and_parts _ _ here in
      let same : 0 + place ≡ place = omega arith in
      same_lane h.front v text lane place most (first_lane lane lt b.1) (rw same at (digit_in w.prefix text h.front 0 lane place most small h.front_there lt few b.0))

  pub digit_taken : (lane place most : ℕ) → lane < 16 → most ≤ 9 → takes_one w lane place most ≡ true → IsDigitAt v lane text place most
  digit_taken lane place most lt few e = digit_by (spares w.prefix lane) lane place most refl lt few e

  byte_by : (near : Bool) (place low most : ℕ) → nat_lt place 16 ≡ near → lets_at w place low most ≡ true → low + most < 256 → (low ≤ get_or text place 0) × (get_or text place 0 ≤ low + most)
  byte_by true place low most is e sum =
      let here : lets w.prefix place low most ≡ true = grind (arith, nat_tests, is, e) in
      let same : 0 + place ≡ place = omega arith in
      rw same at (in_window w.prefix text 0 place low most small h.front_there.lies here sum)
  byte_by false place low most is e sum =
      let there : (nat_le w.back_at place && lets w.back (place - w.back_at) low most) ≡ true = rw is at e in
      let b = and_parts _ _ there in
      let same : w.back_at + (place - w.back_at) ≡ place = omega (arith, leb-true w.back_at place b.0) in
      rw same at (in_window w.back text w.back_at (place - w.back_at) low most small h.back_there.lies b.1 sum)

  pub byte_within : (place low most : ℕ) → lets_at w place low most ≡ true → low + most < 256 → (low ≤ get_or text place 0) × (get_or text place 0 ≤ low + most)
  byte_within place low most e sum = byte_by (nat_lt place 16) place low most refl e sum

  module _ (n : List ℕ) where
    pub one_taken : (j place : ℕ) → j < 8 → spares_one w (2 * j) ≡ true → takes_one w (2 * j + 1) place 9 ≡ true → PairedAt v n j → One text place (get_or n (2 * j) 0)
    one_taken j place lt spared takes paired =
        let first = none_taken (2 * j) (omega (arith, lt)) spared in
        let second = digit_taken (2 * j + 1) place 9 (omega (arith, lt)) (lit≤ tt) takes in
        let sum = paired (omega (arith, first)) second.few in
        record { room = second.room; digit = second.digit; is = omega (arith, sum, first, second.value) }

    pub nothing_taken : (j : ℕ) → j < 8 → spares_one w (2 * j) ≡ true → spares_one w (2 * j + 1) ≡ true → PairedAt v n j → get_or n (2 * j) 0 ≡ 0
    nothing_taken j lt spared next paired =
        let first = none_taken (2 * j) (omega (arith, lt)) spared in
        let second = none_taken (2 * j + 1) (omega (arith, lt)) next in
        omega (arith, paired (omega (arith, first)) (omega (arith, second)), first, second)

    pub sign_taken : (place : ℕ) → takes_sign w place ≡ true → PairedAt v n 6 → SignAt text place (get_or n 12 0)
    sign_taken place e paired =
        let is = get_or w.back.taken.lanes 13 0 == place - w.back_at in
        let a = and_parts (nat_le w.back_at place) (lets w.back (place - w.back_at) 43 2 && (spares_one w 12 && (spares w.prefix 13 && is))) e in
        let b = and_parts (lets w.back (place - w.back_at) 43 2) (spares_one w 12 && (spares w.prefix 13 && is)) a.1 in
        let c = and_parts (spares_one w 12) (spares w.prefix 13 && is) b.1 in
        let d = and_parts (spares w.prefix 13) is c.1 in
        let l = lets_in w.back (place - w.back_at) 43 2 b.0 in
        let same : w.back_at + (place - w.back_at) ≡ place = omega (arith, leb-true w.back_at place a.0) in
        let byte = rw same at (in_window w.back text w.back_at (place - w.back_at) 43 2 small h.back_there.lies b.0 (lit< tt)) in
        let twelve = none_taken 12 (lit< tt) c.0 in
        let thirteen : get_or v 13 0 ≡ above (get_or text place 0) 43 = second_lane 13 (lit< tt) d.0 ∙ rw (same, l.low_is) at (h.back_there.taken 13 (place - w.back_at) (lit< tt) l.inside (eqb-true _ _ d.1)) in
        let off : above (get_or text place 0) 43 ≡ get_or text place 0 - 43 = omega (arith, byte.0, byte.1) in
        let sum : get_or n 12 0 ≡ get_or v 12 0 * 10 + get_or v 13 0 = paired (omega (arith, twelve)) (omega (arith, thirteen, off, byte.1)) in
        record { low = byte.0; high = byte.1; is = omega (arith, sum, twelve, thirteen, off) }
