-- The digits that lanes take from a text.
use Rattle.std.proofs.Common.{◌≡◌, ◌≤◌, ◌<◌, ◌+◌, ◌*◌, ◌∙◌, ℕ, List, get_or, arith}
use Rattle.std.specs.Int.Bits.{bit_or}
use Rattle.std.proofs.lemmas.Nat.{or_disjoint, and_le_l, and_le_r}
use Rattle.parsing_combinator.specs.Places.{HasPair}
use Rattle.parsing_combinator.proofs.AtPlaces.{two_there}
use Rattle.parsing_places.specs.Lanes.{above}
use Rattle.parsing_places.specs.Last.{HaveWindow}
use Rattle.parsing_places.specs.Numbers.{IsDigitAt, WritesTwo}
use Rattle.parsing_places.specs.declared.shape.Window.{Window}
use Rattle.std.proofs.lemmas.Bool.Decides.{nat_tests}

pub or_zero : (a : ℕ) → bit_or a 0 ≡ a
or_zero a = or_disjoint a 0 (omega (arith, and_le_r a 0)) ∙ omega arith

pub zero_or : (a : ℕ) → bit_or 0 a ≡ a
zero_or a = or_disjoint 0 a (omega (arith, and_le_l 0 a)) ∙ omega arith

-- what lanes take, where the text lies within the bounds of a window
pub have_window : (w : Window) (text : List ℕ) (at : ℕ) (a t : List ℕ) → ((k : ℕ) → k < 16 → get_or a k 0 ≡ above (get_or text (at + k) 0) (get_or w.low k 0)) → ((k : ℕ) → k < 16 → get_or a k 0 ≤ get_or w.high k 0)
    → ((k : ℕ) → k < 16 → get_or w.taken.lanes k 0 < 16 → get_or t k 0 ≡ get_or a (get_or w.taken.lanes k 0) 0) → ((k : ℕ) → k < 16 → 128 ≤ get_or w.taken.lanes k 0 → get_or t k 0 ≡ 0) → HaveWindow w text at t
have_window w text at a t above_is fits taken none = grind (arith, nat_tests)

pub same_lane : (t v text : List ℕ) (lane place most : ℕ) → get_or v lane 0 ≡ get_or t lane 0 → IsDigitAt t lane text place most → IsDigitAt v lane text place most
same_lane t v text lane place most e d = record { room = d.room; digit = d.digit; value = e ∙ d.value; few = omega (arith, e, d.few) }

pub record Pair (text : List ℕ) (place number most : ℕ) : Type 0 where
  pub pair : HasPair text place
  pub written : WritesTwo text place number
  pub few : number ≤ most * 10 + 9

pub pair_read : (v n text : List ℕ) (lane place most : ℕ) → IsDigitAt v lane text place most → IsDigitAt v (lane + 1) text (place + 1) 9 → get_or n lane 0 ≡ get_or v lane 0 * 10 + get_or v (lane + 1) 0 → Pair text place (get_or n lane 0) most
pair_read v n text lane place most first second is = grind (arith, nat_tests, two_there)

-- the numbers of two digits each
abbrev pub Paired : List ℕ → List ℕ → Type 0
Paired v n = (j : ℕ) → j < 8 → get_or v (2 * j) 0 ≤ 9 → get_or v (2 * j + 1) 0 ≤ 9 → get_or n (2 * j) 0 ≡ get_or v (2 * j) 0 * 10 + get_or v (2 * j + 1) 0
