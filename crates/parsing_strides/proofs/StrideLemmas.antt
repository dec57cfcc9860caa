-- What a stride took of a text, the text says.
use Rattle.std.proofs.Common.{◌≡◌, ◌≤◌, ◌<◌, ◌+◌, ◌-◌, ◌*◌, ◌∙◌, ◌||◌, ◌&&◌, ◌==◌, ℕ, zero, suc, Bool, true, false, List, [], ◌∷◌, get_or, length, drop, Option, Some, refl, ap, arith, lit<, inl, inr}
use Rattle.std.proofs.lemmas.Bool.Decides.{nat_tests}
use Rattle.parsing_combinator.specs.Pieces.{digits}
use Rattle.parsing_combinator.specs.Shape.{is_sign}
use Rattle.parsing_combinator.proofs.AtPlaces.{two_there}
use Rattle.parsing_layout.specs.Layout.{Values, Says, piece_of, value_of, value_at, field_of, width}
use Rattle.parsing_layout.specs.declared.parts.Field.{Field}
use Rattle.parsing_layout.specs.declared.parts.Part.{Part}
use Rattle.parsing_layout.specs.Said.{place_of, fields_of, is_of}
use Rattle.parsing_layout.specs.declared.parts.Field.TheVariants as field
use Rattle.parsing_layout.specs.declared.parts.Part.TheVariants as part
use Rattle.parsing_layout.proofs.TestLemmas.{both, one, less, at_most, same}
use Rattle.parsing_places.specs.Lanes.{above}
use Rattle.parsing_strides.specs.Found.{values_in, SaysAsFound, KeepOthers}
use Rattle.parsing_strides.specs.Strides.{takes_one, takes_lane, takes_digits, takes_part, takes_all, keeps, keep_others, read_fields, fits_stride}
use Rattle.parsing_strides.specs.Places.{lets}
use Rattle.parsing_strides.specs.declared.found.Found.{Found}
use Rattle.parsing_strides.specs.declared.stride.Stride.{Stride}
use Rattle.parsing_strides.proofs.PlaceLemmas.{Lies, literal_there, any_there, one_there, mark_there, byte_at, digit_at, pair_at}

-- ---- the numbers of parts

pub or_right : (a b : Bool) → b ≡ true → (a || b) ≡ true
or_right a b e = grind (arith, nat_tests)

or_left : (a b : Bool) → a ≡ true → (a || b) ≡ true
or_left a b e = grind (arith, nat_tests)

value_same : (o : Option Field) (v w : Values) → ((f : Field) → is_of f o ≡ true → v f ≡ w f) → value_at o v ≡ value_at o w
value_same o v w h = grind (arith, nat_tests)

abbrev pub Agree : List Part → Values → Values → Type 0
Agree ps v w = (f : Field) → fields_of ps f ≡ true → v f ≡ w f

pub first_agrees : (p : Part) (ps : List Part) (v w : Values) → Agree (p ∷ ps) v w → value_of p v ≡ value_of p w
first_agrees p ps v w h = value_same (field_of p) v w (λ f e. h f (or_left (is_of f (field_of p)) (fields_of ps f) e))

later_agree : (p : Part) (ps : List Part) (v w : Values) → Agree (p ∷ ps) v w → Agree ps v w
later_agree p ps v w h = λ f e. h f (or_right (is_of f (field_of p)) (fields_of ps f) e)

-- ---- what was taken

abbrev digit_of : Stride → List ℕ → ℕ → ℕ
digit_of s text place = above (get_or text place 0) (get_or s.low place 0)

-- what is known of what was found after a stride
pub record Took (s : Stride) (text : List ℕ) (old new : Found) : Type 0 where
  pub lies : Lies s.low s.most text s.length
  pub two : (lane at : ℕ) → lane < 16 → at + 1 < s.length → get_or s.tens.lanes lane 0 ≡ at → get_or s.ones.lanes lane 0 ≡ at + 1 → digit_of s text at * 10 + digit_of s text (at + 1) < 256 → get_or new.lanes lane 0 ≡ digit_of s text at * 10 + digit_of s text (at + 1)
  pub one : (lane at : ℕ) → lane < 16 → at < s.length → 128 ≤ get_or s.tens.lanes lane 0 → get_or s.ones.lanes lane 0 ≡ at → get_or new.lanes lane 0 ≡ digit_of s text at
  pub kept : (lane : ℕ) → lane < 16 → 128 ≤ get_or s.ones.lanes lane 0 → get_or new.lanes lane 0 ≡ get_or old.lanes lane 0
  pub year : s.year < 16 → digits 4 (drop s.year text) ≡ Some (new.year, drop (s.year + 4) text)
  pub same_year : 16 ≤ s.year → new.year ≡ old.year
  pub same_fraction : new.fraction ≡ old.fraction
  pub same_unix : new.unix ≡ old.unix

-- what was taken, from what each vector has
module _ (s : Stride) (text bytes a t o n : List ℕ) (old new : Found) (few : s.length ≤ 16) (room : s.length ≤ length text) (small : (k : ℕ) → get_or text k 0 < 256)
    (bytes_are : (k : ℕ) → k < 16 → k < length text → get_or bytes k 0 ≡ get_or text k 0)
    (above_is : (k : ℕ) → k < 16 → get_or a k 0 ≡ above (get_or bytes k 0) (get_or s.low k 0))
    (fits : (k : ℕ) → k < 16 → get_or a k 0 ≤ get_or s.most k 0)
    (tens : (k : ℕ) → k < 16 → get_or s.tens.lanes k 0 < 16 → get_or t k 0 ≡ get_or a (get_or s.tens.lanes k 0) 0)
    (no_tens : (k : ℕ) → k < 16 → 128 ≤ get_or s.tens.lanes k 0 → get_or t k 0 ≡ 0)
    (ones : (k : ℕ) → k < 16 → get_or s.ones.lanes k 0 < 16 → get_or o k 0 ≡ get_or a (get_or s.ones.lanes k 0) 0)
    (sum : (k : ℕ) → k < 16 → get_or t k 0 * 10 + get_or o k 0 < 256 → get_or n k 0 ≡ get_or t k 0 * 10 + get_or o k 0)
    (put : (k : ℕ) → k < 16 → get_or s.ones.lanes k 0 < 128 → get_or new.lanes k 0 ≡ get_or n k 0) where
  above_at : (at : ℕ) → at < s.length → get_or a at 0 ≡ digit_of s text at
  above_at at lt = above_is at (omega (arith, few, lt)) ∙ ap (λ b. above b (get_or s.low at 0)) (bytes_are at (omega (arith, few, lt)) (omega (arith, room, lt)))

  taken_at : (lane at : ℕ) → lane < 16 → at < s.length → get_or s.ones.lanes lane 0 ≡ at → get_or o lane 0 ≡ digit_of s text at
  taken_at lane at lt inside is = ones lane lt (omega (arith, is, inside, few)) ∙ ap (λ k. get_or a k 0) is ∙ above_at at inside

  two_sum : (lane at : ℕ) → lane < 16 → at + 1 < s.length → get_or s.tens.lanes lane 0 ≡ at → get_or s.ones.lanes lane 0 ≡ at + 1 → digit_of s text at * 10 + digit_of s text (at + 1) < 256
      → get_or new.lanes lane 0 ≡ digit_of s text at * 10 + digit_of s text (at + 1)
  two_sum lane at lt inside first second small =
      let ten : get_or t lane 0 ≡ digit_of s text at = tens lane lt (omega (arith, first, inside, few)) ∙ ap (λ k. get_or a k 0) first ∙ above_at at (omega (arith, inside)) in
      let one = taken_at lane (at + 1) lt inside second in
      omega (arith, put lane lt (omega (arith, second, inside, few)), sum lane lt (omega (arith, ten, one, small)), ten, one)

  one_sum : (lane at : ℕ) → lane < 16 → at < s.length → 128 ≤ get_or s.tens.lanes lane 0 → get_or s.ones.lanes lane 0 ≡ at → get_or new.lanes lane 0 ≡ digit_of s text at
  one_sum lane at lt inside free is =
      let ten = no_tens lane lt free in
      let one = taken_at lane at lt inside is in
      omega (arith, put lane lt (omega (arith, is, inside, few)), sum lane lt (omega (arith, ten, one)), ten, one)

  pub took : ((k : ℕ) → k < 16 → 128 ≤ get_or s.ones.lanes k 0 → get_or new.lanes k 0 ≡ get_or old.lanes k 0) → (s.year < 16 → digits 4 (drop s.year text) ≡ Some (new.year, drop (s.year + 4) text)) → (16 ≤ s.year → new.year ≡ old.year)
      → new.fraction ≡ old.fraction → new.unix ≡ old.unix → Took s text old new
  took kept year nowhere fraction unix = record {
    lies = record { room = room; small = small; fits = λ k lt. rw (above_at k lt) at (fits k (omega (arith, few, lt))) };
    two = two_sum;
    one = one_sum;
    kept = kept;
    year = year;
    same_year = nowhere;
    same_fraction = fraction;
    same_unix = unix;
  }

module _ {s : Stride} {text : List ℕ} {old new : Found} (h : Took s text old new) where
  -- ---- parts at their places

  two_at : (lane at : ℕ) → lane < 16 → at + 2 ≤ s.length → lets s.low s.most at 48 9 ≡ true
      → (lets s.low s.most (at + 1) 48 9 && ((get_or s.tens.lanes lane 0 == at) && (get_or s.ones.lanes lane 0 == at + 1))) ≡ true → digits 2 (drop at text) ≡ Some (get_or new.lanes lane 0, drop (at + 2) text)
  two_at lane at lt room ten e =
      let b = both _ _ e in
      let c = both _ _ b.1 in
      let first = digit_at h.lies at (omega (arith, room)) ten in
      let second = digit_at h.lies (at + 1) (omega (arith, room)) b.0 in
      let number = h.two lane at lt (omega (arith, room)) (same _ _ c.0) (same _ _ c.1) (omega (arith, first.few, second.few)) in
      let is : (get_or text at 0 - 48) * 10 + (get_or text (at + 1) 0 - 48) ≡ get_or new.lanes lane 0 = omega (arith, number, first.is, second.is) in
      rw is at (two_there text at (pair_at h.lies at (omega (arith, room)) ten b.0))

  one_at : (lane at : ℕ) → lane < 16 → at + 1 ≤ s.length → lets s.low s.most at 48 9 ≡ true → takes_one s lane at ≡ true → digits 1 (drop at text) ≡ Some (get_or new.lanes lane 0, drop (at + 1) text)
  one_at lane at lt room one e =
      let b = both _ _ e in
      let digit = digit_at h.lies at (omega (arith, room)) one in
      let number = h.one lane at lt (omega (arith, room)) (at_most _ _ b.0) (same _ _ b.1) in
      let is : get_or text at 0 - 48 ≡ get_or new.lanes lane 0 = omega (arith, number, digit.is) in
      rw is at (one_there text at (omega (arith, room, h.lies.room)) digit.digit)

  lane_at : (lane n at : ℕ) → at + n ≤ s.length → takes_lane s lane n at ≡ true → digits n (drop at text) ≡ Some (get_or new.lanes lane 0, drop (at + n) text)
  lane_at lane n at room e =
      let a = both _ _ e in
      let lt : lane < 16 = omega (arith, less lane 14 a.0) in
      let first = both _ _ a.1 in
      elim (one _ _ first.1) [
        | inl two ↦
            let b = both _ _ two in
            let is : n ≡ 2 = same _ _ b.0 in rw is (two_at lane at lt (omega (arith, room, is)) first.0 b.1)
        | inr alone ↦
            let b = both _ _ alone in
            let is : n ≡ 1 = same _ _ b.0 in rw is (one_at lane at lt (omega (arith, room, is)) first.0 b.1)
      ]

  digits_at : (f : Field) (n at : ℕ) → at + n ≤ s.length → s.length ≤ 16 → takes_digits s f n at ≡ true → digits n (drop at text) ≡ Some (values_in new f, drop (at + n) text)
  digits_at field.Year n at room few e =
      let b = both _ _ e in
      let four : n ≡ 4 = same _ _ b.0 in
      let there : at ≡ s.year = same _ _ b.1 in
      rw (four, there) (h.year (omega (arith, room, few, four, there)))
  digits_at field.Nanosecond n at room few e = absurd cc
  digits_at field.Unix n at room few e = absurd cc
  digits_at f n at room few e = lane_at (place_of f) n at room e

  part_at : (p : Part) (at : ℕ) (v : Values) → at + width p ≤ s.length → s.length ≤ 16 → takes_part s p at ≡ true → value_of p v ≡ value_of p (values_in new) → is_sign (v field.Sign) ≡ true
      → piece_of p (drop at text) ≡ Some (value_of p v, drop (at + width p) text)
  part_at (part.Byte c) at v room few e agrees marked =
      let b = both _ _ e in
      literal_there text at c (omega (arith, room, h.lies.room)) (byte_at h.lies at c (omega (arith, room)) (less _ _ b.0) b.1)
  part_at part.Any at v room few e agrees marked = any_there text at (omega (arith, room, h.lies.room))
  part_at (part.Digits f n) at v room few e agrees marked = rw agrees (digits_at f n at room few e)
  part_at part.Sign at v room few e agrees marked =
      let a = both _ _ e in
      let b = both _ _ a.1 in
      let there = h.one 8 at (lit< tt) (omega (arith, room)) (at_most _ _ b.0) (same _ _ b.1) in
      let is : get_or text at 0 ≡ v field.Sign = omega (arith, there, agrees, same (get_or s.low at 0) 0 a.0, h.lies.small at) in
      mark_there text at (v field.Sign) (omega (arith, room, h.lies.room)) is marked
  part_at p at v room few e agrees marked = absurd cc

  -- ---- all of them

  within : (ps : List Part) (at : ℕ) → takes_all s ps at ≡ true → at ≤ s.length
  within [] at e = omega (arith, same at s.length e)
  within (p ∷ ps) at e = let b = both _ _ e in omega (arith, less at s.length b.0)

  all_say : (ps : List Part) (at : ℕ) (v : Values) → s.length ≤ 16 → takes_all s ps at ≡ true → Agree ps v (values_in new) → is_sign (v field.Sign) ≡ true → Says ps (drop at text) v (drop s.length text)
  all_say [] at v few e agree marked = rw (same _ _ e) refl
  all_say (p ∷ ps) at v few e agree marked =
      let a = both _ _ e in
      let b = both _ _ a.1 in
      let c = both _ _ b.1 in
      let first = part_at p at v (within ps (at + width p) c.1) few c.0 (first_agrees p ps v (values_in new) agree) marked in
      (drop (at + width p) text, first, all_say ps (at + width p) v few c.1 (later_agree p ps v (values_in new) agree) marked)

  pub stride_said : (ps : List Part) → s.length ≤ 16 → fits_stride s ps ≡ true → SaysAsFound ps text (drop s.length text) new
  stride_said ps few e = λ v agree marked. let b = both _ _ e in all_say ps 0 v few b.0 agree marked

  -- ---- and the other fields

  keep_at : (ps : List Part) (fs : List Field) (i : ℕ) → i < length fs → keep_others s ps fs ≡ true → fields_of ps (get_or fs i field.Year) ≡ false → keeps s (get_or fs i field.Year) ≡ true
  keep_at ps [] i lt e absent = absurd (omega (arith, lt))
  keep_at ps (f ∷ fs) zero lt e absent = elim (one (fields_of ps f) (keeps s f) (both _ _ e).0) [
    | inl said ↦ absurd (let never : true ≡ false = rw said at absent in cc)
    | inr kept ↦ kept
  ]
  keep_at ps (f ∷ fs) (suc i) lt e absent = keep_at ps fs i (omega (arith, lt)) (both _ _ e).1 absent

  kept_field : (f : Field) → keeps s f ≡ true → values_in new f ≡ values_in old f
  kept_field field.Year e = h.same_year (omega (arith, same _ _ e))
  kept_field field.Nanosecond e = h.same_fraction
  kept_field field.Unix e = h.same_unix
  kept_field f e = h.kept (place_of f) (lit< tt) (at_most _ _ e)

  kept_other : (ps : List Part) (f : Field) → keep_others s ps read_fields ≡ true → fields_of ps f ≡ false → values_in new f ≡ values_in old f
  kept_other ps field.Nanosecond e absent = h.same_fraction
  kept_other ps field.Unix e absent = h.same_unix
  kept_other ps f e absent = kept_field f (keep_at ps read_fields (place_of f) (lit< tt) e absent)

  pub stride_kept : (ps : List Part) → fits_stride s ps ≡ true → KeepOthers ps old new
  stride_kept ps e = λ f absent. kept_other ps f (both _ _ e).1 absent
