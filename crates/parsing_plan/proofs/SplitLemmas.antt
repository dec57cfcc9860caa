-- A line that has a fraction of any number of digits among its parts.
use Rattle.std.proofs.Common.{◌≡◌, ◌∙◌, ◌≤◌, ◌<◌, ◌+◌, ◌-◌, ℕ, Bool, min, true, false, List, [], ◌∷◌, ◌++◌, get_or, length, take, drop, Option, Some, None, refl, sym, ap, arith, ℤ}
use Rattle.std.specs.Prelude.{is_some, nat_le}
use Rattle.std.specs.Char.{is_ascii_digit}
use Rattle.std.proofs.lemmas.Bool.Decides.{nat_tests}
use Rattle.std.proofs.lemmas.List.{drop-drop, get_or-drop, get_or_past, drop_more, take-append-drop, take_rest}
use Rattle.parsing_combinator.specs.Pieces.{digits, digit_count, nanoseconds_of}
use Rattle.parsing_combinator.specs.Shape.{taken, fraction_between}
use Rattle.parsing_combinator.proofs.Decimal.{count_drop}
use Rattle.parsing_combinator.proofs.FractionDigits.{none_there}
use Rattle.parsing_combinator.proofs.Longest.{taken_digits}
use Rattle.parsing_combinator.specs.Written.{WriteFraction}
use Rattle.parsing_values.specs.declared.fields.Fields.{Fields}
use Rattle.parsing_layout.specs.Layout.{Says, length_of}
use Rattle.parsing_layout.specs.declared.parts.Part.{Part}
use Rattle.parsing_shapes.specs.End.{begins_apart, fits_end, is_end_bounded, spares_clock}
use Rattle.parsing_shapes.specs.Front.{fits_beside}
use Rattle.parsing_shapes.specs.Moment.{AreTaken}
use Rattle.parsing_shapes.specs.Sums.{AreSums}
use Rattle.parsing_shapes.specs.Tail.{IsEnd}
use Rattle.parsing_shapes.specs.declared.front.Front.{Front}
use Rattle.parsing_layout.specs.declared.parts.Part.TheVariants as part
use Rattle.parsing_shapes.specs.declared.shape.Shape.{Shape}
use Rattle.parsing_shapes.proofs.EndLemmas.{none_at, none_first}
use Rattle.parsing_layout.proofs.LayoutLemmas.{says_both}
use Rattle.parsing_shapes.proofs.MomentLemmas.{are_few, end_lane, own_lane}
use Rattle.parsing_shapes.proofs.TailLemmas.{end_says}
use Rattle.parsing_places.specs.declared.last.LastBytes.{LastBytes}
use Rattle.parsing_places.specs.declared.shape.Window.{Window}
use Rattle.parsing_plan.specs.Fields.{AreFieldsOf}
use Rattle.parsing_plan.specs.Parts.{IsSplit}
use Rattle.parsing_plan.proofs.FieldLemmas as fields

-- ---- all digits of a fraction

count_short : (count m : ℕ) → count ≤ m → min count m ≡ count
count_short count m le = omega (arith, le)

-- so many digits, after which there is none
digits_end : (line : List ℕ) (place count nanosecond : ℕ) → 0 < count → count ≤ 32 → digits 1 (drop (place + count) line) ≡ None → WriteFraction (drop place line) count nanosecond → taken (fraction_between 1 32) (drop place line) ≡ Some (nanosecond, drop (place + count) line)
digits_end line place count nanosecond some few ends w =
    let left : digit_count (drop count (drop place line)) ≡ 0 = rw (drop-drop count place line) (none_there (drop (place + count) line) ends) in
    let is : digit_count (drop place line) ≡ count = omega (arith, count_drop count (drop place line) w.enough, left) in
    let there : nat_le 1 count ≡ true = grind (arith, nat_tests) in
    taken_digits nanoseconds_of 1 32 (drop place line) (omega arith) ∙ rw (is, there, count_short count 32 few, w.value, drop-drop count place line) refl

pub no_digit_there : (line : List ℕ) (place : ℕ) → is_ascii_digit (get_or line place 0) ≡ false → digits 1 (drop place line) ≡ None
no_digit_there line place e =
    let here : place + 0 ≡ place = omega arith in
    let first : get_or (drop place line) 0 0 ≡ get_or line place 0 = rw here at (get_or-drop place line 0 0) in
    none_at (drop place line) (rw first e)

pub no_digit_past : (line : List ℕ) (place : ℕ) → length line ≤ place → digits 1 (drop place line) ≡ None
no_digit_past line place le = no_digit_there line place (rw (get_or_past line place 0 le) refl)

-- ---- the sums of lanes and of a window over the end

pub sums_taken : (s : Shape) (w : Window) (line : List ℕ) (end d m o t : ℕ) → s.has_tail ≡ true → IsEnd w → AreTaken s w line end d m o t → ((k : ℕ) → get_or line k 0 < 256) → AreSums s line d m o t
sums_taken s w line end d m o t tail is_end x small = record {
  front = x.front;
  both = x.both;
  n = x.n;
  front_taken = x.front_taken;
  own_lane = own_lane s w line end d m o t tail is_end x small;
  paired = x.paired;
  days_are = x.days_are;
  minutes_are = x.minutes_are;
  offsets_are = x.offsets_are;
  seconds_are = x.seconds_are;
  few = are_few s w line end d m o t tail is_end x small;
}

-- ---- what the line says

pub no_place : {A : Type 0} (o : Option A) → is_some o ≡ false → o ≡ None
no_place None e = refl
no_place (Some x) e = absurd cc

none_after : (end last : ℕ) (line : List ℕ) (back : List Part) → last ≡ length_of back → (last ≡ 0 → digits 1 (drop end line) ≡ None) → back ≡ [] → digits 1 (drop (end - length_of back) line) ≡ None
none_after end last line back is ends none =
    let zero : length_of back ≡ 0 = rw none refl in
    let same : end - length_of back ≡ end = omega arith in
    rw same (ends (omega arith))

module _ (f : Front) (before : ℕ) (last : LastBytes) (ps : List Part) (split : IsSplit f before last ps) where
  pub is_end : IsEnd last.window
  is_end = record { has_offset = f.beside.has_offset; clock = split.clock; offset = split.offset }

  module _ (line : List ℕ) (end count d m o t nanosecond : ℕ) (small : (k : ℕ) → get_or line k 0 < 256) (x : AreTaken f.shape last.window line end d m o t) where
    pub sums : AreSums f.shape line d m o t
    sums = sums_taken f.shape last.window line end d m o t split.tail is_end x small

    module _ (all : f.shape.length + count + last.length ≡ end) (long : 16 ≤ end) (within : end ≤ length line) (some : 0 < count) (few : count ≤ 9) (ends : last.length ≡ 0 → digits 1 (drop end line) ≡ None)
        (written : WriteFraction (drop (end - last.length - count) line) count nanosecond) (assumed : Option ℤ) (fs : Fields) (y : AreFieldsOf f.shape f.beside line d m o t (Some nanosecond) assumed fs) where
      pub front_long : f.shape.length ≤ length line
      front_long = omega (arith, all, within)

      pub split_said : Says ps line (fields.values f.shape f.beside line d m o t sums small front_long (Some nanosecond) assumed fs y) (drop end line)
      unfolding sums sums_taken
      split_said =
          let v = fields.values f.shape f.beside line d m o t sums small front_long (Some nanosecond) assumed fs y in
          let back = drop (before + 1) ps in
          let after : f.shape.length + count ≡ end - length_of back = omega (arith, all, split.length) in
          let from : end - last.length - count ≡ f.shape.length = omega (arith, all) in
          let front = fields.front_said f.shape f.beside line d m o t sums small front_long (Some nanosecond) assumed fs y (λ n is. no_place f.beside.fraction split.one) (take before ps) split.fits in
          let back_says = end_says last.window line end x.end x.both x.n v (refl, refl, refl) x.end_taken (end_lane f.shape last.window line end d m o t split.tail is_end x small) x.paired small long within (fields.even f.shape f.beside line d m o t sums small front_long (Some nanosecond) assumed fs y) back split.ends in
          let none = none_first back (drop (end - length_of back) line) (drop end line) v split.apart back_says (none_after end last.length line back split.length ends) in
          let fraction = digits_end line f.shape.length count nanosecond some (omega (arith, few)) (rw after none) (rw from at written) in
          let opened : taken (fraction_between 1 32) (drop f.shape.length line) ≡ Some (fs.fraction, drop (end - length_of back) line) = rw (y.fraction_is, ← after) fraction in
          let parts : take before ps ++ part.OpenFraction ∷ back ≡ ps = ap (λ (qs : List Part). take before ps ++ qs) (sym split.fraction) ∙ take-append-drop before ps in
          rw parts at (says_both (take before ps) (part.OpenFraction ∷ back) line (drop f.shape.length line) (drop end line) v front (drop (end - length_of back) line, opened, back_says))

-- a list is cut in two at a fraction of any number of digits
pub split_there : (f : Front) (before : ℕ) (last : LastBytes) (has_offset : Bool) (list ps : List Part) (other : Part) → list ≡ ps → before < length list → get_or list before other ≡ part.OpenFraction → f.beside.has_offset ≡ has_offset → f.shape.has_tail ≡ true → is_some f.beside.fraction ≡ false
    → fits_beside f.shape f.beside (take before list) ≡ true → fits_end last.window (take (length list - (before + 1)) (drop (before + 1) list)) ≡ true → last.length ≡ length_of (take (length list - (before + 1)) (drop (before + 1) list)) → begins_apart (take (length list - (before + 1)) (drop (before + 1) list)) ≡ true
    → spares_clock last.window ≡ true → is_end_bounded last.window has_offset ≡ true → IsSplit f before last ps
split_there f before last has_offset list ps other same lt is written tail one fits ends size apart clock offset =
    let rest = take_rest list (before + 1) in
    record {
      fraction = rw (← same) (drop_more list before other lt ∙ ap (λ (p : Part). p ∷ drop (before + 1) list) is);
      tail = tail;
      one = one;
      fits = rw (← same) fits;
      ends = rw (← same) (rw rest at ends);
      length = rw (← same) (rw rest at size);
      apart = rw (← same) (rw rest at apart);
      clock = clock;
      offset = rw written offset;
    }
