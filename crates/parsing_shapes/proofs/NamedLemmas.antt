-- A text that two windows take says a layout, and fields are those of its sums and of a month.
use Rattle.std.proofs.Common.{◌≡◌, ◌≤◌, ◌<◌, ◌+◌, ◌%◌, ◌∙◌, ℕ, true, false, List, get_or, length, drop, refl, arith, lit<}
use Rattle.parsing_values.specs.Numbers.{HaveNumbers}
use Rattle.parsing_values.specs.declared.fields.Fields.{Fields}
use Rattle.parsing_places.specs.Windows.{Taken, spares_one, spares_two}
use Rattle.parsing_places.proofs.NumberLemmas.{nothing_taken}
use Rattle.parsing_places.proofs.ReadLemmas.{Paired}
use Rattle.parsing_layout.specs.declared.parts.Part.{Part}
use Rattle.parsing_layout.proofs.TestLemmas.{both}
use Rattle.parsing_shapes.specs.Moment.{AreInRange}
use Rattle.parsing_shapes.specs.Named.{SaysNamed}
use Rattle.parsing_shapes.specs.Numbers.{AreOfSums}
use Rattle.parsing_shapes.specs.Shape.{fits, lane_values, taker_of}
use Rattle.parsing_shapes.specs.Sums.{AreFew, AreSums}
use Rattle.parsing_shapes.specs.declared.numbers.Numbers.{Numbers}
use Rattle.parsing_shapes.specs.declared.shape.Shape.{Shape}
use Rattle.parsing_shapes.proofs.MomentLemmas.{range_of, few_from, signed_said}
use Rattle.parsing_shapes.proofs.TakenLemmas.{SameLanes, bounds, clock_few, lanes_say, offset_few, paired_first}

pub whole_few : (s : Shape) (text v1 v n : List ℕ) → s.has_tail ≡ false → Taken s.windows text v1 → SameLanes (taker_of s) v v1 → Paired v n → ((k : ℕ) → get_or text k 0 < 256) → AreFew n
whole_few s text v1 v n whole h same_two paired small =
    few_from n (clock_few (taker_of s) text v1 v n h small same_two paired s.has_tail refl s.bounded)
    (offset_few (taker_of s) text v1 v n h small same_two paired s.has_tail (rw whole refl) (bounds s.windows s.has_tail s.bounded).4)

module _ (s : Shape) (text : List ℕ) (d m o t month : ℕ) (x : AreSums s text d m o t) (whole : s.has_tail ≡ false) (spared : spares_two s.windows 0 ≡ true) (small : (k : ℕ) → get_or text k 0 < 256) (long : s.length ≤ length text) (known : month ≤ 12) where
  -- the lanes of a month have none
  no_month : get_or x.n 0 0 ≡ 0
  no_month =
      let b = both (spares_one s.windows 0) (spares_one s.windows 1) spared in
      nothing_taken s.windows text x.front x.front_taken small x.n 0 (lit< tt) b.0 b.1 (paired_first (taker_of s) text x.front x.both x.n x.front_taken small x.own_lane x.paired 0 (lit< tt) refl)

  pub in_range : AreInRange text s.year (d + month) o t
  in_range = range_of s text x.front x.n (d + month) o t x.front_taken small long x.few (omega (arith, x.days_are, no_month, x.few.day, known)) x.offsets_are x.seconds_are

  -- the central lemma of texts without a tail
  pub named_said : (n : Numbers) (f : Fields) → AreOfSums n true text s.year (d + month) m o t 0 → HaveNumbers f n.year n.high n.low n.minute n.second n.fraction n.offset → (parts : List Part) → fits s parts ≡ true
      → SaysNamed parts month text (drop s.length text) f
  named_said n f y h parts fits_parts =
      let even : get_or x.n 12 0 % 2 ≡ 0 = omega (arith, x.seconds_are, y.even) in
      record {
        values = lane_values n.year 0 x.n;
        says = lanes_say s text x.front x.both x.n n.year 0 x.front_taken x.own_lane x.paired small long y.year_is even parts fits_parts;
        numbers = record {
          same_year = h.same_year;
          same_month = h.same_month ∙ y.high_is ∙ (omega (arith, x.days_are, no_month, known));
          same_day = h.same_day ∙ y.low_is ∙ (omega (arith, x.days_are, no_month, known));
          same_minute = omega (arith, h.same_minute, y.minute_is, x.minutes_are);
          same_second = h.same_second ∙ y.second_is ∙ (omega (arith, x.seconds_are, x.few.sign));
          same_fraction = h.same_fraction ∙ y.fraction_is;
          same_offset = refl;
        };
        hour_few = omega (arith, x.minutes_are, y.minute_is, n.within_a_day);
        minute_few = x.few.minute;
        offset_is = rw h.same_offset (signed_said x.n o t n.offset x.few x.offsets_are x.seconds_are y.even y.value);
      }
