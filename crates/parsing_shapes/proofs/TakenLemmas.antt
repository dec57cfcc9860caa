-- What windows take of the parts of a layout, a text says.
use Rattle.std.proofs.Common.{leb, ◌≡◌, ◌≤◌, ◌<◌, ◌+◌, ◌-◌, ◌*◌, ◌%◌, ◌&&◌, ◌==◌, ℕ, Bool, true, false, List, [], ◌∷◌, get_or, length, drop, Option, Some, refl, sym, arith, lit<, lit≤, inl, inr, ◌∙◌}
use Rattle.std.specs.Prelude.{nat_lt}
use Rattle.std.proofs.lemmas.Bool.Decides.{nat_tests}
use Rattle.std.proofs.lemmas.List.{drop_more, drop-drop, length-drop}
use Rattle.parsing_combinator.specs.Pieces.{digits, byte, any_byte, skip_of, sign}
use Rattle.parsing_combinator.proofs.AtPlaces.{at_least, byte_there, first_at, is_digit}
use Rattle.parsing_combinator.proofs.AtPlaces as places
use Rattle.parsing_combinator.proofs.Fixed.{digits_one}
use Rattle.parsing_combinator.specs.Places.{HasDigit}
use Rattle.parsing_places.specs.Windows.{Taken, are_bounded, is_bounded, is_lane_bounded, is_offset_bounded, is_sign_bounded, lets_at, source, spares_one, spares_two, takes_one, takes_sign, takes_two}
use Rattle.parsing_places.specs.declared.windows.Windows.{Windows}
use Rattle.parsing_places.proofs.NumberLemmas.{PairedAt, byte_within, digit_taken, none_taken, nothing_taken, one_taken, sign_taken}
use Rattle.parsing_places.proofs.ReadLemmas.{Pair, Paired, pair_read, same_lane}
use Rattle.parsing_layout.specs.Layout.{Values, Says, Fits, piece_of, value_of, width, length_of, as_number}
use Rattle.parsing_layout.specs.declared.parts.Field.{Field}
use Rattle.parsing_layout.specs.declared.parts.Part.{Part}
use Rattle.parsing_layout.specs.declared.parts.Field.TheVariants as field
use Rattle.parsing_layout.specs.declared.parts.Part.TheVariants as part
use Rattle.parsing_layout.proofs.LayoutLemmas.{says_there}
use Rattle.parsing_layout.proofs.TestLemmas.{both, one, less, same}
use Rattle.parsing_shapes.specs.Shape.{fits, is_at, lane_values, most_of, own, pair_of, taker_of, takes_all, takes_digits, takes_one_at, takes_pair_at, takes_part}
use Rattle.parsing_shapes.specs.declared.shape.Shape.{Shape}
use Rattle.parsing_shapes.specs.declared.taker.Taker.{Taker}
use Rattle.parsing_shapes.proofs.WindowLemmas.{all_spared}

pub bounds : (w : Windows) (has_tail : Bool) → are_bounded w has_tail ≡ true → (is_bounded w 0 5 ≡ true) × (is_bounded w 2 9 ≡ true) × (is_bounded w 6 5 ≡ true) × (is_bounded w 14 5 ≡ true) × (is_offset_bounded w has_tail ≡ true)
bounds w has_tail e = grind (arith, nat_tests, both)

few : (f : Field) → most_of f ≤ 9
few f = grind (arith, nat_tests)

-- ---- bytes

pub literal_there : (text : List ℕ) (place c : ℕ) → place < length text → get_or text place 0 ≡ c → as_number (λ _. 0) (byte c) (drop place text) ≡ Some (0, drop (place + 1) text)
literal_there text place c lt is = rw (byte_there text place c lt is) refl

any_there : (text : List ℕ) (place : ℕ) → place < length text → as_number (λ _. 0) any_byte (drop place text) ≡ Some (0, drop (place + 1) text)
unfolding skip_of
any_there text place lt = rw (drop_more text place 0 lt) refl

pub sign_read : (text : List ℕ) (place n : ℕ) → place < length text → 43 ≤ get_or text place 0 → get_or text place 0 ≤ 45 → n ≡ get_or text place 0 - 43 → n % 2 ≡ 0 → sign (drop place text) ≡ Some (n + 43, drop (place + 1) text)
sign_read text place n lt low high is even =
    let same : n + 43 ≡ get_or text place 0 = omega arith in
    rw same (places.sign_there text place lt (grind (arith, nat_tests, low, high, is, even)))

pub one_digit : (text : List ℕ) (place : ℕ) → place < length text → HasDigit text place → digits 1 (drop place text) ≡ Some (get_or text place 0 - 48, drop (place + 1) text)
one_digit text place lt d =
    let long : leb 1 (length (drop place text)) ≡ true = at_least 1 (length (drop place text)) (omega (arith, length-drop place text, lt)) in
    digits_one (drop place text) ∙ rw (long, first_at text place, is_digit (get_or text place 0) d.low d.high, drop-drop 1 place text) refl

-- ---- parts that some machine takes

all_fit : (takes : Part → ℕ → Bool) (ps : List Part) (at : ℕ) → takes_all takes ps at ≡ true → Fits (λ p at. takes p at ≡ true) ps at
all_fit takes [] at e = tt
all_fit takes (p ∷ ps) at e = let b = both (takes p at) (takes_all takes ps (at + width p)) e in (b.0, all_fit takes ps (at + width p) b.1)

pub taken_say : (takes : Part → ℕ → Bool) (text : List ℕ) (v : Values) (size : ℕ) → ((p : Part) (at : ℕ) → takes p at ≡ true → piece_of p (drop at text) ≡ Some (value_of p v, drop (at + width p) text)) → (parts : List Part) → (takes_all takes parts 0 && (length_of parts == size)) ≡ true → Says parts text v (drop size text)
taken_say takes text v size each parts e =
    let b = both (takes_all takes parts 0) (length_of parts == size) e in
    says_there (λ p at. takes p at ≡ true) text v each parts 0 size (omega (arith, same (length_of parts) size b.1)) (all_fit takes parts 0 b.0)

-- ---- two windows

abbrev pub SameLanes : Taker → List ℕ → List ℕ → Type 0
SameLanes t v v1 = (j : ℕ) → j < 8 → own t j ≡ true → (get_or v (2 * j) 0 ≡ get_or v1 (2 * j) 0) × (get_or v (2 * j + 1) 0 ≡ get_or v1 (2 * j + 1) 0)

module _ (t : Taker) (text v1 v n : List ℕ) (h : Taken t.windows text v1) (small : (k : ℕ) → get_or text k 0 < 256) (same_two : SameLanes t v v1) (paired : Paired v n) where
  two : (j place most : ℕ) → j < 8 → most ≤ 9 → own t j ≡ true → takes_two t.windows (2 * j) place most ≡ true → Pair text place (get_or n (2 * j) 0) most
  two j place most lt small_most mine e =
      let lanes = same_two j lt mine in
      let b = both (takes_one t.windows (2 * j) place most) (takes_one t.windows (2 * j + 1) (place + 1) 9) e in
      let first = same_lane v1 v text (2 * j) place most lanes.0 (digit_taken t.windows text v1 h small (2 * j) place most (omega (arith, lt)) small_most b.0) in
      let second = same_lane v1 v text (2 * j + 1) (place + 1) 9 lanes.1 (digit_taken t.windows text v1 h small (2 * j + 1) (place + 1) 9 (omega (arith, lt)) (lit≤ tt) b.1) in
      pair_read v n text (2 * j) place most first second (paired j lt (omega (arith, first.few, small_most)) second.few)

  pub paired_first : (j : ℕ) → j < 8 → own t j ≡ true → PairedAt v1 n j
  paired_first j lt mine = λ a b. let e = same_two j lt mine in (omega (arith, paired j lt (omega (arith, a, e.0)) (omega (arith, b, e.1)), e.0, e.1))

  -- ---- no number is larger than the bounds of its lanes

  lane_few : (lane most : ℕ) → lane < 16 → most ≤ 9 → is_lane_bounded t.windows lane most ≡ true → get_or v1 lane 0 ≤ most
  lane_few lane most lt small_most e = elim (one (spares_one t.windows lane) (takes_one t.windows lane (source t.windows lane) most) e) [
    | inl free ↦ omega (arith, none_taken t.windows text v1 h small lane lt free)
    | inr there ↦ (digit_taken t.windows text v1 h small lane (source t.windows lane) most lt small_most there).few
  ]

  bounded : (j most : ℕ) → j < 8 → most ≤ 9 → own t j ≡ true → is_bounded t.windows (2 * j) most ≡ true → get_or n (2 * j) 0 ≤ most * 10 + 9
  bounded j most lt small_most mine e =
      let b = both (is_lane_bounded t.windows (2 * j) most) (is_lane_bounded t.windows (2 * j + 1) 9) e in
      let first = lane_few (2 * j) most (omega (arith, lt)) small_most b.0 in
      grind (arith, nat_tests, lane_few)

  pub clock_few : (has_tail : Bool) → t.has_clock ≡ true → are_bounded t.windows has_tail ≡ true → (get_or n 0 0 ≤ 59) × (get_or n 2 0 ≤ 99) × (get_or n 6 0 ≤ 59) × (get_or n 14 0 ≤ 59)
  clock_few has_tail mine e =
      let b = bounds t.windows has_tail e in
      (bounded 0 5 (lit< tt) (lit≤ tt) mine b.0, bounded 1 9 (lit< tt) (lit≤ tt) mine b.1, bounded 3 5 (lit< tt) (lit≤ tt) mine b.2, bounded 7 5 (lit< tt) (lit≤ tt) mine b.3)

  spared : (j : ℕ) → j < 8 → own t j ≡ true → spares_one t.windows (2 * j) ≡ true → spares_one t.windows (2 * j + 1) ≡ true → get_or n (2 * j) 0 ≡ 0
  spared j lt mine first second = nothing_taken t.windows text v1 h small n j lt first second (paired_first j lt mine)

  pub offset_none : t.has_offset ≡ true → is_offset_bounded t.windows true ≡ true → (get_or n 8 0 ≡ 0) × (get_or n 10 0 ≡ 0) × (get_or n 12 0 ≡ 0)
  offset_none mine e =
      let free = λ (k : ℕ) (low : 8 ≤ k) (high : k < 14). all_spared t.windows 8 6 k e low high in (
        spared 4 (lit< tt) mine (free 8 (lit≤ tt) (lit< tt)) (free 9 (lit≤ tt) (lit< tt)),
        spared 5 (lit< tt) mine (free 10 (lit≤ tt) (lit< tt)) (free 11 (lit≤ tt) (lit< tt)),
        spared 6 (lit< tt) mine (free 12 (lit≤ tt) (lit< tt)) (free 13 (lit≤ tt) (lit< tt)),
      )

  -- the lanes of a sign have one of three bytes, or none
  sign_few : t.has_offset ≡ true → is_sign_bounded t.windows ≡ true → get_or n 12 0 ≤ 2
  sign_few mine e = elim (one (spares_two t.windows 12) (takes_sign t.windows (source t.windows 13)) e) [
    | inl free ↦ let b = both (spares_one t.windows 12) (spares_one t.windows 13) free in omega (arith, spared 6 (lit< tt) mine b.0 b.1)
    | inr there ↦ let s = sign_taken t.windows text v1 h small n (source t.windows 13) there (paired_first 6 (lit< tt) mine) in omega (arith, s.is, s.high)
  ]

  pub offset_few : (has_tail : Bool) → t.has_offset ≡ true → is_offset_bounded t.windows has_tail ≡ true → (get_or n 8 0 ≤ 19) × (get_or n 10 0 ≤ 59) × (get_or n 12 0 ≤ 2)
  offset_few true mine e = let z = offset_none mine e in (omega (arith, z), omega (arith, z), omega (arith, z))
  offset_few false mine e =
      let a = both (is_bounded t.windows 8 1) (is_bounded t.windows 10 5 && is_sign_bounded t.windows) e in
      let b = both (is_bounded t.windows 10 5) (is_sign_bounded t.windows) a.1 in
      (bounded 4 1 (lit< tt) (lit≤ tt) mine a.0, bounded 5 5 (lit< tt) (lit≤ tt) mine b.0, sign_few mine b.1)

  -- ---- what they take, a text says

  module _ (values : Values) (long : t.length ≤ length text) (even : get_or n 12 0 % 2 ≡ 0) (years : (at : ℕ) → is_at t.year at ≡ true → digits 4 (drop at text) ≡ Some (values field.Year, drop (at + 4) text))
      (numbers : (f : Field) (j : ℕ) → pair_of f ≡ Some j → own t j ≡ true → values f ≡ get_or n (2 * j) 0) (signs : values field.Sign ≡ get_or n 12 0 + 43) where
    pair_by : (f : Field) (o : Option ℕ) (most k at : ℕ) → pair_of f ≡ o → most ≤ 9 → takes_pair_at t o most k at ≡ true → digits k (drop at text) ≡ Some (values f, drop (at + k) text)
    pair_by f o most k at is small_most e = grind (arith, nat_tests, both, two)

    one_by : (f : Field) (j k at : ℕ) → pair_of f ≡ Some j → takes_one_at t j k at ≡ true → digits k (drop at text) ≡ Some (values f, drop (at + k) text)
    one_by f j k at is e =
        let free = spares_one t.windows (2 * j) in
        let digit = takes_one t.windows (2 * j + 1) at 9 in
        let a = both (k == 1) (nat_lt j 8 && (own t j && (free && digit))) e in
        let b = both (nat_lt j 8) (own t j && (free && digit)) a.1 in
        let c = both (own t j) (free && digit) b.1 in
        let d = both free digit c.1 in
        let lt = less j 8 b.0 in
        let there = one_taken t.windows text v1 h small n j at lt d.0 d.1 (paired_first j lt c.0) in
        rw (same k 1 a.0, numbers f j is c.0, there.is) (one_digit text at there.room there.digit)

    digits_at : (f : Field) (k at : ℕ) → takes_digits t f k at ≡ true → digits k (drop at text) ≡ Some (values f, drop (at + k) text)
    digits_at field.Year k at e = let b = both (k == 4) (is_at t.year at) e in rw (same k 4 b.0) (years at b.1)
    digits_at field.Day k at e = elim (one (takes_pair_at t (Some 1) 9 k at) (takes_one_at t 1 k at) e) [ inl pair ↦ pair_by field.Day (Some 1) 9 k at refl (lit≤ tt) pair | inr alone ↦ one_by field.Day 1 k at refl alone ]
    digits_at field.Weekday k at e = one_by field.Weekday 1 k at refl e
    digits_at field.OrdinalOnes k at e = one_by field.OrdinalOnes 1 k at refl e
    digits_at f k at e = pair_by f (pair_of f) (most_of f) k at refl (few f) e

    byte_at : (c at : ℕ) → c < 256 → lets_at t.windows at c 0 ≡ true → get_or text at 0 ≡ c
    byte_at c at lt lets = let b = byte_within t.windows text v1 h small at c 0 lets (omega (arith, lt)) in omega (arith, b.0, b.1)

    pub part_at : (p : Part) (at : ℕ) → takes_part t p at ≡ true → piece_of p (drop at text) ≡ Some (value_of p values, drop (at + width p) text)
    part_at (part.Byte c) at e = grind (arith, nat_tests, literal_there)
    part_at part.Any at e = any_there text at (omega (arith, less at t.length e, long))
    part_at (part.Digits f k) at e = digits_at f k at e
    part_at part.Sign at e =
        let a = both (own t 6) (takes_sign t.windows at && nat_lt at t.length) e in
        let b = both (takes_sign t.windows at) (nat_lt at t.length) a.1 in
        let there = sign_taken t.windows text v1 h small n at b.0 (paired_first 6 (lit< tt) a.0) in
        rw signs (sign_read text at (get_or n 12 0) (omega (arith, less at t.length b.1, long)) there.low there.high there.is even)
    part_at p at e = absurd cc

    pub parts_say : (parts : List Part) (at end : ℕ) → end ≡ at + length_of parts → takes_all (takes_part t) parts at ≡ true → Says parts (drop at text) values (drop end text)
    parts_say parts at end is e = says_there (λ p at. takes_part t p at ≡ true) text values part_at parts at end is (all_fit (takes_part t) parts at e)

-- ---- a shape, over the start of a text

pub lane_number : (year nanosecond : ℕ) (n : List ℕ) (f : Field) (j : ℕ) → pair_of f ≡ Some j → lane_values year nanosecond n f ≡ get_or n (2 * j) 0
lane_number year nanosecond n f j e = grind (arith, nat_tests)

module _ (s : Shape) (text v1 v n : List ℕ) (year nanosecond : ℕ) (h : Taken s.windows text v1) (same_two : SameLanes (taker_of s) v v1) (paired : Paired v n) (small : (k : ℕ) → get_or text k 0 < 256) (long : s.length ≤ length text)
    (year_there : digits 4 (drop s.year text) ≡ Some (year, drop (s.year + 4) text)) (even : get_or n 12 0 % 2 ≡ 0) where
  pub shape_part : (p : Part) (at : ℕ) → takes_part (taker_of s) p at ≡ true → piece_of p (drop at text) ≡ Some (value_of p (lane_values year nanosecond n), drop (at + width p) text)
  shape_part = part_at (taker_of s) text v1 v n h small same_two paired (lane_values year nanosecond n) long even (λ at is. rw (sym (same s.year at is)) year_there) (λ f j is mine. lane_number year nanosecond n f j is) refl

  -- the central lemma
  pub lanes_say : (parts : List Part) → fits s parts ≡ true → Says parts text (lane_values year nanosecond n) (drop s.length text)
  lanes_say parts e = taken_say (takes_part (taker_of s)) text (lane_values year nanosecond n) s.length shape_part parts e
