-- A text that two windows and one over its end take says a layout, a fraction and a zone, and fields are those of its sums.
use Rattle.std.proofs.Common.{◌≡◌, ◌≤◌, ◌<◌, ◌+◌, ◌-◌, ◌*◌, ◌%◌, ◌∙◌, ◌==◌, ℕ, Bool, true, false, not, List, [], ◌++◌, get_or, length, drop, Some, Ok, ℤ, pos, refl, arith, lit<, lit≤, inl, inr}
use Rattle.std.specs.Prelude.{◌⊎◌, ◌*ℤ◌, nat_eq, if◌then◌else◌}
use Rattle.std.proofs.lemmas.Bool.{cases_lt}
use Rattle.std.proofs.lemmas.Bool.Decides.{nat_tests}
use Rattle.std.proofs.lemmas.List.{drop_all}
use Rattle.base.specs.Bytes.{dot, hyphen}
use Rattle.parsing_combinator.specs.Pieces as Pieces
use Rattle.parsing_combinator.specs.Written.{WriteFraction}
use Rattle.parsing_values.specs.Resolution.{signed_offset_of}
use Rattle.parsing_places.specs.Windows.{Taken, is_offset_bounded, spares_one}
use Rattle.parsing_places.specs.declared.shape.Window.{Window}
use Rattle.parsing_places.proofs.NumberLemmas.{none_taken}
use Rattle.parsing_places.proofs.ReadLemmas.{or_zero, zero_or}
use Rattle.parsing_layout.specs.Layout.{Values, Says, length_of}
use Rattle.parsing_layout.specs.declared.parts.Part.{Part}
use Rattle.parsing_layout.proofs.LayoutLemmas.{says_both}
use Rattle.parsing_layout.proofs.TestLemmas.{both}
use Rattle.parsing_shapes.specs.End.{alone, end_of, fits_end, is_end_bounded}
use Rattle.parsing_shapes.specs.Moment.{AreTaken, AreInRange, HasOffset}
use Rattle.parsing_shapes.specs.Shape.{fits, of_clock, lane_values, taker_of}
use Rattle.parsing_shapes.specs.Sums.{AreFew}
use Rattle.parsing_shapes.specs.Tail.{IsEnd, fraction_parts}
use Rattle.parsing_shapes.specs.declared.shape.Shape.{Shape}
use Rattle.parsing_shapes.proofs.TailLemmas.{EndLanes, end_lanes, end_says, end_taken, fraction_says, small_there}
use Rattle.parsing_shapes.proofs.TakenLemmas.{SameLanes, bounds, clock_few, lanes_say, offset_few, offset_none}
use Rattle.parsing_shapes.proofs.WindowLemmas.{all_spared, year_pairs}

clock_lanes : (j : ℕ) → (if of_clock j then true else false) ≡ true → (j < 4) ⊎ (j ≡ 7)
clock_lanes j e = elim (cases_lt j 4) [ inl lt ↦ inl lt | inr le ↦ inr (grind (arith, nat_tests, le, e)) ]

pub same_sign : (t n : ℕ) → t % 4 ≡ n → n ≤ 2 → n % 2 ≡ 0 → nat_eq (t % 4) 2 ≡ (n + 43 == hyphen)
same_sign t n is few even = grind (arith, nat_tests)

-- so many bytes are between a layout and a zone: none, or a point and digits that write a fraction
pub record IsPlaced (s : Shape) (zone : List Part) (text : List ℕ) (bytes nanosecond : ℕ) : Type 0 where
  pub all : s.length + bytes + length_of zone ≡ length text
  pub point : 0 < bytes → get_or text s.length 0 ≡ dot
  pub written : WriteFraction (drop (length text - length_of zone - (bytes - 1)) text) (bytes - 1) nanosecond

-- an offset that lanes say, by its sums
pub signed_said : (n : List ℕ) (o t : ℕ) (minutes : ℤ) → AreFew n → o ≡ 60 * get_or n 8 0 + get_or n 10 0 → t ≡ get_or n 12 0 + 64 * get_or n 14 0 → t % 2 ≡ 0
    → ((hour minute : ℕ) → o ≡ 60 * hour + minute → hour ≤ 23 → minute ≤ 59 → signed_offset_of (nat_eq (t % 4) 2) hour minute ≡ Ok (pos 60 *ℤ minutes))
    → (get_or n 8 0 ≤ 23) × (signed_offset_of (get_or n 12 0 + 43 == hyphen) (get_or n 8 0) (get_or n 10 0) ≡ Ok (pos 60 *ℤ minutes))
signed_said n o t minutes few offsets seconds even value = grind (arith, nat_tests)

pub few_from : (n : List ℕ) → (get_or n 0 0 ≤ 59) × (get_or n 2 0 ≤ 99) × (get_or n 6 0 ≤ 59) × (get_or n 14 0 ≤ 59) → (get_or n 8 0 ≤ 19) × (get_or n 10 0 ≤ 59) × (get_or n 12 0 ≤ 2) → AreFew n
few_from n c o = record { month = c.0; day = c.1; minute = c.2; second = c.3; offset_hour = o.0; offset_minute = o.1; sign = o.2 }

-- sums of numbers within the bounds of their lanes are in the ranges that these give
pub range_of : (s : Shape) (text front n : List ℕ) (d o t : ℕ) → Taken s.windows text front → ((k : ℕ) → get_or text k 0 < 256) → s.length ≤ length text → AreFew n → d < 16_384 → o ≡ 60 * get_or n 8 0 + get_or n 10 0 → t ≡ get_or n 12 0 + 64 * get_or n 14 0 → AreInRange text s.year d o t
range_of s text front n d o t taken small long few days offsets seconds =
    let year = year_pairs s.windows text front s.length s.year taken small s.year_is long in
    grind (arith, nat_tests)

module _ (s : Shape) (w : Window) (text : List ℕ) (at d m o t : ℕ) (tail : s.has_tail ≡ true) (is_end : IsEnd w)
    (x : AreTaken s w text at d m o t) (small : (k : ℕ) → get_or text k 0 < 256) where
  pub end : Taken (alone w) (drop (at - 16) text) x.end
  end = end_taken w text x.end (at - 16) x.end_taken

  first_lane : (k : ℕ) → k < 16 → spares_one (alone w) k ≡ true → get_or x.both k 0 ≡ get_or x.front k 0
  first_lane k lt free = x.joined k lt ∙ rw (none_taken (alone w) (drop (at - 16) text) x.end end (small_there text (at - 16) small) k lt free) (or_zero (get_or x.front k 0))

  clock_lane : (j : ℕ) → (j < 4) ⊎ (j ≡ 7) → (get_or x.both (2 * j) 0 ≡ get_or x.front (2 * j) 0) × (get_or x.both (2 * j + 1) 0 ≡ get_or x.front (2 * j + 1) 0)
  clock_lane j (inl low) =
      let free = λ (k : ℕ) (lt : k < 8). first_lane k (omega (arith, lt)) (all_spared (alone w) 0 8 k (both _ _ is_end.clock).0 (omega arith) (omega (arith, lt))) in
      (free (2 * j) (omega (arith, low)), free (2 * j + 1) (omega (arith, low)))
  clock_lane j (inr is) =
      let free = λ (k : ℕ) (ge : 14 ≤ k) (lt : k < 16). first_lane k lt (all_spared (alone w) 14 2 k (both _ _ is_end.clock).1 ge (omega (arith, lt))) in
      rw is (free 14 (lit≤ tt) (lit< tt), free 15 (lit≤ tt) (lit< tt))

  pub own_lane : SameLanes (taker_of s) x.both x.front
  own_lane j lt mine = clock_lane j (clock_lanes j (rw tail at mine))

  second_lane : (k : ℕ) → 8 ≤ k → k < 14 → get_or x.both k 0 ≡ get_or x.end k 0
  second_lane k low high =
      let offset : is_offset_bounded s.windows true ≡ true = rw tail at (bounds s.windows s.has_tail s.bounded).4 in
      let free = none_taken s.windows text x.front x.front_taken small k (omega (arith, high)) (all_spared s.windows 8 6 k offset low (omega (arith, high))) in
      x.joined k (omega (arith, high)) ∙ rw free (zero_or (get_or x.end k 0))

  pub end_lane : EndLanes x.both x.end
  end_lane j low high = (second_lane (2 * j) (omega (arith, low)) (omega (arith, high)), second_lane (2 * j + 1) (omega (arith, low)) (omega (arith, high)))

  pub are_few : AreFew x.n
  are_few =
      few_from x.n (clock_few (taker_of s) text x.front x.both x.n x.front_taken small own_lane x.paired s.has_tail refl s.bounded)
      (offset_few (end_of w) (drop (at - 16) text) x.end x.both x.n end (small_there text (at - 16) small) (end_lanes w x.both x.end end_lane) x.paired (not is_end.has_offset) refl is_end.offset)

  pub in_range : s.length ≤ length text → AreInRange text s.year d o t
  in_range long =
      let f = are_few in
      range_of s text x.front x.n d o t x.front_taken small long f (omega (arith, x.days_are, f.month, f.day)) x.offsets_are x.seconds_are

-- of a whole text

module _ (s : Shape) (w : Window) (text : List ℕ) (d m o t : ℕ) (tail : s.has_tail ≡ true) (is_end : IsEnd w)
    (x : AreTaken s w text (length text) d m o t) (small : (k : ℕ) → get_or text k 0 < 256) where
  few : AreFew x.n
  few = are_few s w text (length text) d m o t tail is_end x small

  -- what lanes say of a layout, of a fraction that is read beside them, and of a zone
  module _ (year nanosecond bytes : ℕ) (front zone : List Part) (year_is : Pieces.digits 4 (drop s.year text) ≡ Some (year, drop (s.year + 4) text)) (even : t % 2 ≡ 0)
      (fits_front : fits s front ≡ true) (fits_end : fits_end w zone ≡ true) (sixteen : 16 ≤ length text) (p : IsPlaced s zone text bytes nanosecond) where
    abbrev pub values : Values
    values = lane_values year nanosecond x.n

    sign_even : get_or x.n 12 0 % 2 ≡ 0
    sign_even = omega (arith, x.seconds_are, even)

    pub front_said : Says front text values (drop s.length text)
    front_said = lanes_say s text x.front x.both x.n year nanosecond x.front_taken (own_lane s w text (length text) d m o t tail is_end x small) x.paired small (omega (arith, p.all)) year_is sign_even front fits_front

    pub end_said : Says (fraction_parts bytes ++ zone) (drop s.length text) values []
    end_said =
        let from = length text - length_of zone in
        let nothing : drop (length text) text ≡ [] = drop_all (length text) text (omega arith) in
        let fraction = fraction_says text s.length from bytes nanosecond values refl (omega (arith, p.all)) (λ some. (omega (arith, p.all, some))) p.point p.written in
        let offset = rw nothing at (end_says w text (length text) x.end x.both x.n values (refl, refl, refl) x.end_taken (end_lane s w text (length text) d m o t tail is_end x small) x.paired small sixteen (omega arith) sign_even zone fits_end) in
        says_both (fraction_parts bytes) zone (drop s.length text) (drop from text) [] values fraction offset

    pub offset_said : (minutes : ℤ) → ((hour minute : ℕ) → o ≡ 60 * hour + minute → hour ≤ 23 → minute ≤ 59 → signed_offset_of (nat_eq (t % 4) 2) hour minute ≡ Ok (pos 60 *ℤ minutes)) → (is_utc : Bool) → (is_utc ≡ true → is_end_bounded w false ≡ true) → HasOffset is_utc values minutes
    offset_said minutes value true utc =
        let none = offset_none (end_of w) (drop (length text - 16) text) x.end x.both x.n (end s w text (length text) d m o t tail is_end x small) (small_there text (length text - 16) small) (end_lanes w x.both x.end (end_lane s w text (length text) d m o t tail is_end x small)) x.paired refl (utc refl) in
        let plain : nat_eq (t % 4) 2 ≡ false = let zero : t % 4 ≡ 0 = omega (arith, x.seconds_are, none) in rw zero refl in
        rw plain at (value 0 0 (omega (arith, x.offsets_are, none)) (lit≤ tt) (lit≤ tt))
    offset_said minutes value false utc = signed_said x.n o t minutes few x.offsets_are x.seconds_are even value
