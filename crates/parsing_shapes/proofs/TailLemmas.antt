-- What stands after the parts of a shape: a fraction, and what a window over the end of the text takes.
use Rattle.std.proofs.Common.{◌≡◌, ◌≤◌, ◌<◌, ◌+◌, ◌-◌, ◌*◌, ◌%◌, ℕ, zero, suc, true, false, List, [], get_or, length, drop, Option, Some, None, refl, sym, arith}
use Rattle.std.specs.Prelude.{nat_le}
use Rattle.std.proofs.lemmas.Bool.Decides.{nat_tests}
use Rattle.std.proofs.lemmas.List.{drop-drop, get_or-drop, get_or-replicate, length-drop}
use Rattle.base.specs.Bytes.{dot}
use Rattle.parsing_combinator.specs.Written.{WriteFraction}
use Rattle.parsing_places.specs.Last.{HaveEnd, HaveWindow}
use Rattle.parsing_places.specs.Numbers.{LieIn}
use Rattle.parsing_places.specs.Windows.{Taken}
use Rattle.parsing_places.specs.declared.shape.Window.{Window}
use Rattle.parsing_places.proofs.ReadLemmas.{Paired, zero_or}
use Rattle.parsing_layout.specs.Layout.{Values, Says, length_of, exact_fraction}
use Rattle.parsing_layout.specs.declared.parts.Field.{Field}
use Rattle.parsing_layout.specs.declared.parts.Part.{Part}
use Rattle.parsing_layout.specs.declared.parts.Field.TheVariants as field
use Rattle.parsing_layout.proofs.TestLemmas.{at_most, both}
use Rattle.parsing_shapes.specs.End.{alone, end_of, fits_end}
use Rattle.parsing_shapes.specs.Shape.{own, pair_of, takes_all, takes_part}
use Rattle.parsing_shapes.specs.Tail.{fraction_parts, is_fraction}
use Rattle.parsing_shapes.proofs.TakenLemmas.{SameLanes, literal_there, parts_say}

-- ---- the fraction

pub exact_there : (bytes : List ℕ) (count n : ℕ) → WriteFraction bytes count n → exact_fraction count bytes ≡ Some (n, drop count bytes)
unfolding exact_fraction
exact_there bytes count n w = grind (arith, nat_tests)

-- in so many bytes from a place to an end: none, or a point and digits
pub fraction_says : (text : List ℕ) (place end bytes nanosecond : ℕ) (v : Values) → v field.Nanosecond ≡ nanosecond → end ≡ place + bytes → (0 < bytes → place < length text) → (0 < bytes → get_or text place 0 ≡ dot) → WriteFraction (drop (end - (bytes - 1)) text) (bytes - 1) nanosecond → Says (fraction_parts bytes) (drop place text) v (drop end text)
fraction_says text place end zero nanosecond v is all room point w = let same : place ≡ end = omega arith in rw same refl
fraction_says text place end (suc count) nanosecond v is all room point w =
    let one : suc count - 1 ≡ count = omega arith in
    let from : end - count ≡ place + 1 = omega arith in
    let to : place + 1 + count ≡ end = omega arith in
    let written : WriteFraction (drop (place + 1) text) count nanosecond = rw (one, from) at w in
    let rest : drop count (drop (place + 1) text) ≡ drop end text = rw to at (drop-drop count (place + 1) text) in
    (drop (place + 1) text, literal_there text place dot (room (omega arith)) (point (omega arith)), (drop end text, rw (← rest, is) (exact_there (drop (place + 1) text) count nanosecond written), refl))

pub is_some : (bytes : ℕ) → (bytes ≡ 1 → ⊥) → bytes ≤ 10 → is_fraction bytes ≡ true
is_some bytes more few = grind (arith, nat_tests)

-- a point alone is no fraction
pub not_one : (bytes : ℕ) → is_fraction bytes ≡ true → bytes ≡ 1 → ⊥
not_one bytes ok one = let never : false ≡ true = rw one at ok in cc

-- ---- the end of a text, as a text of sixteen bytes

pub end_taken : (w : Window) (text v : List ℕ) (at : ℕ) → HaveWindow w text at v → Taken (alone w) (drop at text) v
end_taken w text v at h =
    let lies : LieIn w (drop at text) 0 = λ k lt. (let same : 0 + k ≡ k = omega arith in rw (same, get_or-drop at text k 0) (h.lies k lt)) in
    record {
      front = [];
      back = v;
      front_there = record { lies = lies; taken = λ lane place lt inside is. absurd (omega (arith, inside, is, get_or-replicate {A = ℕ} 16 lane 128 0 lt)); none = λ lane lt free. refl };
      back_there = record { lies = lies; taken = λ lane place lt inside is. (let same : 0 + place ≡ place = omega arith in rw (same, get_or-drop at text place 0) (h.taken lane place lt inside is)); none = h.none };
      joined = λ k lt. sym (zero_or (get_or v k 0));
    }

pub small_there : (text : List ℕ) (at : ℕ) → ((k : ℕ) → get_or text k 0 < 256) → (k : ℕ) → get_or (drop at text) k 0 < 256
small_there text at small k = rw (get_or-drop at text k 0) (small (at + k))

-- the lanes of an offset are its own
abbrev pub EndLanes : List ℕ → List ℕ → Type 0
EndLanes v v2 = (j : ℕ) → 4 ≤ j → j ≤ 6 → (get_or v (2 * j) 0 ≡ get_or v2 (2 * j) 0) × (get_or v (2 * j + 1) 0 ≡ get_or v2 (2 * j + 1) 0)

pub end_lanes : (w : Window) (v v2 : List ℕ) → EndLanes v v2 → SameLanes (end_of w) v v2
end_lanes w v v2 same j lt mine = same j (grind (arith, nat_tests, mine)) (grind (arith, nat_tests, lt, mine))

abbrev index : Option ℕ → ℕ
index None = 0
index (Some j) = j

module _ (w : Window) (text : List ℕ) (end : ℕ) (v2 v n : List ℕ) (values : Values)
    (are : (values field.OffsetHour ≡ get_or n 8 0) × (values field.OffsetMinute ≡ get_or n 10 0) × (values field.Sign ≡ get_or n 12 0 + 43)) (h : HaveEnd w text end v2)
    (same_two : EndLanes v v2) (paired : Paired v n) (small : (k : ℕ) → get_or text k 0 < 256) (sixteen : 16 ≤ end) (within : end ≤ length text) (even : get_or n 12 0 % 2 ≡ 0) where
  end_number : (f : Field) (j : ℕ) → pair_of f ≡ Some j → own (end_of w) j ≡ true → values f ≡ get_or n (2 * j) 0
  end_number f j e mine = grind (arith, nat_tests)

  pub end_says : (parts : List Part) → fits_end w parts ≡ true → Says parts (drop (end - length_of parts) text) values (drop end text)
  end_says parts fits =
      let b = both (nat_le (length_of parts) 16) (takes_all (takes_part (end_of w)) parts (16 - length_of parts)) fits in
      let few = at_most (length_of parts) 16 b.0 in
      let begins : end - 16 + (16 - length_of parts) ≡ end - length_of parts = omega (arith, sixteen, few) in
      let ends : end - 16 + 16 ≡ end = omega (arith, sixteen) in
      let says = parts_say (end_of w) (drop (end - 16) text) v2 v n (end_taken w text v2 (end - 16) h) (small_there text (end - 16) small) (end_lanes w v v2 same_two) paired values (omega (arith, length-drop (end - 16) text, sixteen, within)) even
      (λ at is. absurd cc) end_number are.2 parts (16 - length_of parts) 16 (omega (arith, few)) b.1 in
      rw (drop-drop (16 - length_of parts) (end - 16) text, drop-drop 16 (end - 16) text, begins, ends) at says
