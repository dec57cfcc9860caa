-- What lanes take of a text and of its end, by the places of a fraction.
use Rattle.std.proofs.Common.{◌≡◌, ◌≤◌, ◌<◌, ◌+◌, ◌-◌, ◌==◌, ◌&&◌, ◌||◌, ℕ, Bool, true, false, not, List, get_or, length, drop, arith, lit<, lit≤, inl, inr}
use Rattle.std.specs.Prelude.{nat_lt, if◌then◌else◌}
use Rattle.std.proofs.lemmas.Bool.{agree_below, agree_below_at, cases_lt, le-ltb, lt-ltb}
use Rattle.std.proofs.lemmas.Bool.Decides.{nat_tests}
use Rattle.base.specs.Bytes.{dot, lower_z}
use Rattle.parsing_combinator.specs.Written.{WriteFraction}
use Rattle.parsing_places.specs.Last.{HaveEnd, HaveFraction, with_moves}
use Rattle.parsing_places.specs.Tail.{is_zulu}
use Rattle.parsing_places.specs.Windows.{lets}
use Rattle.parsing_places.specs.declared.ending.Ending.{Ending}
use Rattle.parsing_places.specs.declared.ending.Ending.TheVariants.{Zulu}
use Rattle.parsing_places.specs.declared.lanes.Moves.{Moves}
use Rattle.parsing_places.specs.declared.shape.Window.{Window}
use Rattle.parsing_places.proofs.NumberLemmas.{digit_in, in_window}
use Rattle.parsing_layout.specs.Layout.{length_of}
use Rattle.parsing_layout.specs.declared.parts.Part.{Part}
use Rattle.parsing_layout.proofs.TestLemmas.{at_most, both, one, less, same, when, otherwise}
use Rattle.parsing_shapes.specs.End.{fits_end, is_end_bounded, spares_clock}
use Rattle.parsing_shapes.specs.Moment.{AreTaken, AreInRange}
use Rattle.parsing_shapes.specs.Tail.{IsEnd, ending_in, is_fraction, is_tail, offset_at, other_end, small_parts, takes_digit, zone_parts}
use Rattle.parsing_shapes.specs.declared.shape.Shape.{Shape}
use Rattle.parsing_shapes.specs.declared.tail.Tail.{Tail}
use Rattle.parsing_shapes.proofs.MomentLemmas.{IsPlaced, in_range}

-- an offset ends at the end of the window
pub zone_length : (e : Ending) → length_of (zone_parts e) + offset_at e ≡ 16
zone_length e = grind (arith, nat_tests)

-- ---- a text and its end

-- what is known of a text whose lanes are taken, with so many bytes of a fraction, which end at a place of its last window, and a zone after them
pub record Whole (s : Shape) (w : Window) (moves : Moves) (zone : List Part) (is_utc : Bool) (text digits : List ℕ) (d m o t at bytes : ℕ) : Type 0 where
  pub tail : s.has_tail ≡ true
  pub ok : is_fraction bytes ≡ true
  pub is_tail : is_tail w moves at bytes zone is_utc ≡ true
  pub taken : AreTaken s w text (length text) d m o t
  pub fraction_taken : HaveEnd (with_moves w moves) text (length text) digits
  pub small : (k : ℕ) → get_or text k 0 < 256
  pub sixteen : 16 ≤ length text

-- a text that has a tail has a fraction of as many bytes as the tail has
possible : (z fraction : Bool) (byte : ℕ) → z ≡ (byte == 90) → (fraction ≡ false → byte ≡ (if z then 48 else 90)) → fraction ≡ true
possible z fraction byte zulu never = grind (arith, nat_tests)

end_small : (z : Bool) → (if z then 48 else 90) + 0 < 256
end_small z = grind (arith, nat_tests)

-- by a tail of the table, whose last byte is that of the text
pub of_tail : (s : Shape) (tail : Tail) (text digits : List ℕ) (d m o t : ℕ) → s.has_tail ≡ true → AreTaken s tail.window text (length text) d m o t → HaveEnd (with_moves tail.window tail.digits) text (length text) digits → ((k : ℕ) → get_or text k 0 < 256) → 16 ≤ length text → is_zulu tail.ending ≡ (get_or text (length text - 1) 0 == 90)
    → Whole s tail.window tail.digits (zone_parts tail.ending) (is_zulu tail.ending) text digits d m o t (offset_at tail.ending) tail.fraction
of_tail s tail text digits d m o t tailed x f small sixteen zulu =
    let last : length text - 16 + 15 ≡ length text - 1 = omega (arith, sixteen) in
    let ok : is_fraction tail.fraction ≡ true = possible (is_zulu tail.ending) (is_fraction tail.fraction) (get_or text (length text - 1) 0) zulu (λ none.
    let never : lets tail.window 15 (other_end tail.ending) 0 ≡ true = otherwise _ _ _ none tail.right in
    let b = in_window tail.window text (length text - 16) 15 (other_end tail.ending) 0 small x.end_taken.lies never (end_small (is_zulu tail.ending)) in
    let byte : get_or text (length text - 16 + 15) 0 ≡ other_end tail.ending = omega (arith, b.0, b.1) in
    rw last at byte) in
    record { tail = tailed; ok = ok; is_tail = (both _ _ (when _ _ _ ok tail.right)).0; taken = x; fraction_taken = f; small = small; sixteen = sixteen }

-- with a small `z` in the place of `Z`
pub of_small : (s : Shape) (tail : Tail) (text digits : List ℕ) (d m o t : ℕ) → s.has_tail ≡ true → tail.ending ≡ Zulu → is_fraction tail.fraction ≡ true → AreTaken s (ending_in lower_z tail.window) text (length text) d m o t → HaveEnd (with_moves (ending_in lower_z tail.window) tail.digits) text (length text) digits → ((k : ℕ) → get_or text k 0 < 256) → 16 ≤ length text
    → Whole s (ending_in lower_z tail.window) tail.digits small_parts true text digits d m o t 15 tail.fraction
of_small s tail text digits d m o t tailed zulu ok x f small sixteen =
    let z = is_tail (ending_in lower_z tail.window) tail.digits 15 tail.fraction small_parts true in
    let e : (not (is_zulu tail.ending) || z) ≡ true = (both _ _ (when _ _ _ ok tail.right)).1 in
    record { tail = tailed; ok = ok; is_tail = rw zulu at e; taken = x; fraction_taken = f; small = small; sixteen = sixteen }

module _ (s : Shape) (w : Window) (moves : Moves) (zone : List Part) (is_utc : Bool) (text digits : List ℕ) (d m o t at bytes : ℕ) (h : Whole s w moves zone is_utc text digits d m o t at bytes) where
  pub ends : (fits_end w zone ≡ true) × ((spares_clock w && is_end_bounded w (not is_utc)) ≡ true)
  ends = both (fits_end w zone) (spares_clock w && is_end_bounded w (not is_utc)) (both _ _ h.is_tail).0

  pub whole_is_end : IsEnd w
  whole_is_end = let b = both (spares_clock w) (is_end_bounded w (not is_utc)) ends.1 in record { has_offset = not is_utc; clock = b.0; offset = b.1 }

  pub whole_spares : is_utc ≡ true → is_end_bounded w false ≡ true
  whole_spares is = rw is at (both (spares_clock w) (is_end_bounded w (not is_utc)) ends.1).1

  pub whole_in_range : s.length ≤ length text → AreInRange text s.year d o t
  whole_in_range long = in_range s w text (length text) d m o t h.tail whole_is_end h.taken h.small long

  -- ---- its fraction

  point : ((nat_lt (bytes - 1) at && ((bytes == 0) || lets w (at - bytes) dot 0)) ≡ true) × (agree_below (takes_digit (with_moves w moves) at (bytes - 1)) (λ _. true) 16 ≡ true)
  point = both _ _ (both _ _ h.is_tail).1

  room : bytes - 1 < at
  room = less (bytes - 1) at (both _ _ point.0).0

  pub few : bytes ≤ 10
  few = let ok = h.ok in grind (arith, nat_tests, ok)

  lane : (k : ℕ) → k < 16 → takes_digit (with_moves w moves) at (bytes - 1) k ≡ true
  lane k lt = agree_below_at (takes_digit (with_moves w moves) at (bytes - 1)) (λ _. true) 16 k point.1 lt

  has : HaveFraction text (length text - 16 + at - (bytes - 1)) (bytes - 1) digits
  has = record {
    few = omega (arith, few);
    each = λ k lt.
        let place : length text - 16 + (at - (bytes - 1) + k) ≡ length text - 16 + at - (bytes - 1) + k = omega (arith, room) in
        let small : k < 16 = omega (arith, lt, few) in
        rw place at (digit_in (with_moves w moves) text digits (length text - 16) k (at - (bytes - 1) + k) 9 h.small h.fraction_taken small (lit≤ tt) (when _ _ _ (lt-ltb k (bytes - 1) lt) (lane k small)));
    zeros = λ k le lt. h.fraction_taken.none k lt (at_most _ _ (otherwise _ _ _ (le-ltb k (bytes - 1) le) (lane k lt)));
  }

  pub all_few : (k : ℕ) → k < 16 → get_or digits k 0 ≤ 9
  all_few k lt = elim (cases_lt k (bytes - 1)) [ inl there ↦ (has.each k there).few | inr past ↦ omega (arith, has.zeros k past lt) ]

  pub none_after : (k : ℕ) → 9 ≤ k → k < 16 → get_or digits k 0 ≡ 0
  none_after k le lt = has.zeros k (omega (arith, le, few)) lt

  -- where the fraction stands, and what it writes
  pub placed : (nanosecond : ℕ) → length_of zone + at ≡ 16 → s.length + bytes + 16 ≡ length text + at → ((place count : ℕ) → HaveFraction text place count digits → WriteFraction (drop place text) count nanosecond) → IsPlaced s zone text bytes nanosecond
  placed nanosecond zone_is all writes =
      let there : length text - 16 + at - (bytes - 1) ≡ length text - length_of zone - (bytes - 1) = omega (arith, zone_is, h.sixteen) in
      let point_at = λ (some : 0 < bytes).
      let place : length text - 16 + (at - bytes) ≡ s.length = omega (arith, all, h.sixteen, some, room) in
      elim (one (bytes == 0) (lets w (at - bytes) dot 0) (both _ _ point.0).1) as (λ _. get_or text s.length 0 ≡ dot) [
        | inl zero ↦ absurd (omega (arith, some, same bytes 0 zero))
        | inr lets_dot ↦
            let b = in_window w text (length text - 16) (at - bytes) dot 0 h.small h.taken.end_taken.lies lets_dot (lit< tt) in
            let byte : get_or text (length text - 16 + (at - bytes)) 0 ≡ dot = omega (arith, b.0, b.1) in
            rw place at byte
      ] in
      record { all = omega (arith, all, zone_is); point = point_at; written = rw there at (writes _ (bytes - 1) has) }

  -- the same with another fraction between, which is read by itself
  pub placed_long : (nanosecond more : ℕ) → s.length + 1 + more + length_of zone ≡ length text → get_or text s.length 0 ≡ dot → WriteFraction (drop (s.length + 1) text) more nanosecond → IsPlaced s zone text (more + 1) nanosecond
  placed_long nanosecond more all point writes =
      let from : length text - length_of zone - (more + 1 - 1) ≡ s.length + 1 = omega (arith, all) in
      let count : more + 1 - 1 ≡ more = omega arith in
      record { all = omega (arith, all); point = λ any. point; written = rw (from, count) writes }
