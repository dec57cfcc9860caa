-- What lanes take of a text's front, and what is read beside them, the text says.
use Rattle.std.proofs.Common.{◌≡◌, ◌≤◌, ◌<◌, ◌+◌, ◌-◌, ◌*◌, ◌/◌, ◌%◌, ◌∙◌, ◌&&◌, ℕ, Bool, true, false, List, get_or, length, drop, Option, Some, None, refl, sym, ap, arith, lit<, inl, inr, bit_and}
use Rattle.std.specs.Prelude.{nat_le, is_some, ◌⊎◌}
use Rattle.std.specs.Option.{ForSome}
use Rattle.std.proofs.lemmas.Nat.{and_mask}
use Rattle.parsing_combinator.specs.Pieces.{digits}
use Rattle.parsing_combinator.proofs.AtPlaces.{byte_there, two_there}
use Rattle.parsing_combinator.specs.Places.{HasPair}
use Rattle.parsing_places.proofs.NumberLemmas.{one_taken, byte_within}
use Rattle.parsing_shapes.specs.Beside.{AreRead, HasSpaced, ReadAt, is_beside, is_fraction_at, is_ready, has_digits, has_room, stands, takes_ones}
use Rattle.parsing_shapes.specs.Front.{fits_beside, takes_beside}
use Rattle.parsing_layout.specs.Layout.{Values, Says, field_of, piece_of, value_at, value_of, width}
use Rattle.parsing_layout.specs.declared.parts.Field.{Field}
use Rattle.parsing_layout.specs.declared.parts.Part.{Part}
use Rattle.parsing_shapes.specs.Shape.{is_at, lane_values, number_in, pair_of, taker_of}
use Rattle.parsing_shapes.specs.Sums.{AreSums}
use Rattle.parsing_places.specs.Windows.{lets_at, spares_one, takes_one}
use Rattle.parsing_shapes.specs.declared.front.Beside.{Beside}
use Rattle.parsing_layout.specs.declared.parts.Field.TheVariants as field
use Rattle.parsing_layout.specs.declared.parts.Names.TheVariants as names
use Rattle.parsing_layout.specs.declared.parts.Part.TheVariants as part
use Rattle.parsing_shapes.specs.declared.shape.Shape.{Shape}
use Rattle.parsing_shapes.proofs.TakenLemmas.{one_digit, paired_first, shape_part, taken_say}
use Rattle.parsing_layout.proofs.SpacedLemmas.{after_space, without_space}
use Rattle.parsing_layout.proofs.TestLemmas.{at_most, both, otherwise, when}
use Rattle.std.proofs.lemmas.Bool.Decides.{nat_tests}

-- what a text says by its front
abbrev pub front_values : ℕ → ℕ → ℕ → ℕ → ℕ → List ℕ → Values
front_values year month day weekday nanosecond n field.Year = year
front_values year month day weekday nanosecond n field.Month = month
front_values year month day weekday nanosecond n field.Day = day
front_values year month day weekday nanosecond n field.Weekday = weekday
front_values year month day weekday nanosecond n field.Nanosecond = nanosecond
front_values year month day weekday nanosecond n field.Sign = get_or n 12 0 + 43
front_values year month day weekday nanosecond n f = number_in n (pair_of f)

-- ---- what is read at a place, and what is not

not_read : (o : Option ℕ) (p : Part) (text : List ℕ) (other n : ℕ) → is_some o ≡ false → ReadAt o p text other n → n ≡ other
not_read o p text other n e r = grind (arith, nat_tests)

read_there : (o : Option ℕ) (p : Part) (text : List ℕ) (other n at : ℕ) → is_at o at ≡ true → ReadAt o p text other n → piece_of p (drop at text) ≡ Some (n, drop (at + width p) text)
read_there o p text other n at e r = grind (arith, nat_tests)

digits_there : (o : Option (ℕ × ℕ)) (text : List ℕ) (n count at : ℕ) → is_fraction_at o count at ≡ true → ForSome o (λ x. ReadAt (Some x.0) (part.Fraction x.1) text 0 n)
    → piece_of (part.Fraction count) (drop at text) ≡ Some (n, drop (at + count) text)
digits_there o text n count at e r = grind (arith, nat_tests)

-- ---- the front of a text

module _ (s : Shape) (b : Beside) (text : List ℕ) (d m o t : ℕ) (x : AreSums s text d m o t) (small : (k : ℕ) → get_or text k 0 < 256) (long : s.length ≤ length text)
    (year nanosecond month day weekday : ℕ) (year_is : digits 4 (drop s.year text) ≡ Some (year, drop (s.year + 4) text)) (even : get_or x.n 12 0 % 2 ≡ 0)
    (read : AreRead b text d month day weekday) (fraction : ForSome b.fraction (λ y. ReadAt (Some y.0) (part.Fraction y.1) text 0 nanosecond)) where
  abbrev pub values : Values
  values = front_values year month day weekday nanosecond x.n

  high_is : d / 64 ≡ get_or x.n 2 0
  high_is = omega (arith, x.days_are, x.few.month)

  same_lanes : (g : Field) → is_beside b (Some g) ≡ false → lane_values year nanosecond x.n g ≡ values g
  same_lanes field.Month e = sym (not_read b.month (part.Name names.ShortMonth true) text (d % 64) month e read.month_is ∙ omega (arith, x.days_are, x.few.month))
  same_lanes field.Day e = sym (not_read b.day (part.Spaced field.Day) text (d / 64) day e read.day_is ∙ high_is)
  same_lanes field.Weekday e = sym (not_read b.weekday (part.Name names.ShortWeekday true) text (d / 64) weekday e read.weekday_is ∙ high_is)
  same_lanes g e = refl

  same_value : (g : Option Field) → is_beside b g ≡ false → value_at g (lane_values year nanosecond x.n) ≡ value_at g values
  same_value None e = refl
  same_value (Some g) e = same_lanes g e

  stand_at : (p : Part) (at : ℕ) → stands b p at ≡ true → piece_of p (drop at text) ≡ Some (value_of p values, drop (at + width p) text)
  stand_at (part.Name names.ShortMonth true) at e = read_there b.month (part.Name names.ShortMonth true) text (d % 64) month at e read.month_is
  stand_at (part.Spaced field.Day) at e = read_there b.day (part.Spaced field.Day) text (d / 64) day at e read.day_is
  stand_at (part.Name names.ShortWeekday true) at e = read_there b.weekday (part.Name names.ShortWeekday true) text (d / 64) weekday at e read.weekday_is
  stand_at (part.Fraction count) at e = digits_there b.fraction text nanosecond count at e fraction
  stand_at p at e = absurd cc

  by_kind : (beside : Bool) (p : Part) (at : ℕ) → is_beside b (field_of p) ≡ beside → takes_beside (taker_of s) b p at ≡ true → piece_of p (drop at text) ≡ Some (value_of p values, drop (at + width p) text)
  unfolding takes_beside
  by_kind true p at is e = stand_at p at (when _ _ _ is e)
  by_kind false p at is e =
      shape_part s text x.front x.both x.n year nanosecond x.front_taken x.own_lane x.paired small long year_is even p at (otherwise _ _ _ is e)
      ∙ ap (λ (k : ℕ). Some (k, drop (at + width p) text)) (same_value (field_of p) is)

  -- the central lemma of fronts
  pub front_says : (ps : List Part) → fits_beside s b ps ≡ true → Says ps text values (drop s.length text)
  front_says ps e = taken_say (takes_beside (taker_of s) b) text values s.length (λ p at. by_kind (is_beside b (field_of p)) p at refl) ps e

-- ---- a day of two bytes, the first of which may be a space

-- the low half of a byte
low_half : (c : ℕ) → bit_and c 15 ≡ c % 16
low_half c = and_mask c 4

pub day_spaced : (text : List ℕ) (place other : ℕ) → HasSpaced text place → (48 ≤ get_or text place 0) ⊎ (get_or text place 0 ≡ 32)
    → ReadAt (Some place) (part.Spaced field.Day) text other (bit_and (get_or text place 0) 15 * 10 + (get_or text (place + 1) 0 - 48))
day_spaced text place other h (inl low) =
    let tens : bit_and (get_or text place 0) 15 ≡ get_or text place 0 - 48 = omega (arith, low_half (get_or text place 0), low, h.first_high) in
    let pair : HasPair text place = record { room = h.room; first = record { low = low; high = h.first_high }; second = record { low = h.second_low; high = h.second_high } } in
    rw tens (without_space (drop place text) (drop (place + 2) text) _ (two_there text place pair))
day_spaced text place other h (inr is) =
    let tens : bit_and (get_or text place 0) 15 * 10 + (get_or text (place + 1) 0 - 48) ≡ get_or text (place + 1) 0 - 48 = omega (arith, low_half (get_or text place 0), is) in
    let next : place + 1 + 1 ≡ place + 2 = omega arith in
    let one = rw next at (one_digit text (place + 1) (omega (arith, h.room)) (record { low = h.second_low; high = h.second_high })) in
    rw tens (after_space (drop place text) (drop (place + 1) text) (drop (place + 2) text) _ (byte_there text place 32 (omega (arith, h.room)) is) one)

-- ---- what a front has room for

module _ (s : Shape) (b : Beside) (ready : is_ready s b ≡ true) where
  rooms : (has_room s.length b.month ≡ true) × (has_room s.length b.weekday ≡ true) × (takes_ones s.windows b.day ≡ true) × (has_digits s.length b.fraction ≡ true)
  rooms = grind (arith, nat_tests, both)

  name_room : (o : Option ℕ) (place : ℕ) → has_room s.length o ≡ true → o ≡ Some place → place + 4 ≤ s.length
  name_room o place e is = let room : nat_le (place + 4) s.length ≡ true = rw is at e in at_most (place + 4) s.length room

  pub month_room : (place : ℕ) → b.month ≡ Some place → place + 4 ≤ s.length
  month_room place is = name_room b.month place rooms.0 is

  pub weekday_room : (place : ℕ) → b.weekday ≡ Some place → place + 4 ≤ s.length
  weekday_room place is = name_room b.weekday place rooms.1 is

  module _ (text : List ℕ) (d m o t : ℕ) (x : AreSums s text d m o t) (small : (k : ℕ) → get_or text k 0 < 256) (place : ℕ) (is : b.day ≡ Some place) where
    -- a space or a digit stands where a day does, and lanes take the digit after it
    pub spaced_there : HasSpaced text place × (d / 64 ≡ get_or text (place + 1) 0 - 48)
    spaced_there =
        let w = s.windows in
        let a = both (spares_one w 2) (lets_at w place 32 25 && takes_one w 3 (place + 1) 9) (let e = rooms.2 in rw is at e) in
        let e = both (lets_at w place 32 25) (takes_one w 3 (place + 1) 9) a.1 in
        let tens = byte_within w text x.front x.front_taken small place 32 25 e.0 (lit< tt) in
        let ones = one_taken w text x.front x.front_taken small x.n 1 (place + 1) (lit< tt) a.0 e.1 (paired_first (taker_of s) text x.front x.both x.n x.front_taken small x.own_lane x.paired 1 (lit< tt) refl) in
        (record { room = omega (arith, ones.room); first_low = tens.0; first_high = tens.1; second_low = ones.digit.low; second_high = ones.digit.high }, omega (arith, x.days_are, x.few.month, ones.is))
