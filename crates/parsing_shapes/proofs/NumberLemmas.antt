-- What lanes take of a text, and of its end, as the numbers of what it says.
use Rattle.std.proofs.Common.{◌≡◌, ◌<◌, ◌-◌, ◌/◌, ◌∙◌, ◌==◌, ℕ, Bool, true, false, List, [], ◌++◌, drop, get_or, length, refl, sym, ap, arith}
use Rattle.parsing_values.specs.Numbers.{HaveNumbers}
use Rattle.parsing_values.specs.declared.fields.Fields.{Fields}
use Rattle.parsing_places.specs.declared.lanes.Moves.{Moves}
use Rattle.parsing_places.specs.declared.shape.Window.{Window}
use Rattle.parsing_layout.specs.Layout.{length_of}
use Rattle.parsing_layout.specs.declared.parts.Part.{Part}
use Rattle.parsing_shapes.specs.Moment.{SaysTailed}
use Rattle.parsing_shapes.specs.Numbers.{AreOfSums, SaysNumbers, second_if}
use Rattle.parsing_shapes.specs.Shape.{fits, taker_of, takes_all, takes_part}
use Rattle.parsing_shapes.specs.Tail.{fraction_parts}
use Rattle.parsing_shapes.specs.declared.numbers.Numbers.{Numbers}
use Rattle.parsing_shapes.specs.declared.shape.Shape.{Shape}
use Rattle.parsing_layout.proofs.LayoutLemmas.{says_both}
use Rattle.parsing_shapes.proofs.MomentLemmas.{IsPlaced, are_few, values, front_said, end_said, offset_said}
use Rattle.parsing_shapes.proofs.TailedLemmas.{Whole, ends, whole_is_end, whole_spares}
use Rattle.parsing_layout.proofs.TestLemmas.{both, same}

-- a shape is as long as its layout
pub long_as : (s : Shape) (front : List Part) → fits s front ≡ true → s.length ≡ length_of front
long_as s front e = sym (same (length_of front) s.length (both (takes_all (takes_part (taker_of s)) front 0) (length_of front == s.length) e).1)

module _ (s : Shape) (w : Window) (moves : Moves) (zone : List Part) (is_utc : Bool) (text digits : List ℕ) (d m o t at taken : ℕ) (h : Whole s w moves zone is_utc text digits d m o t at taken) where
  pub numbers_said : (has_second : Bool) (nanosecond bytes : ℕ) (n : Numbers) (front : List Part) → AreOfSums n has_second text s.year d m o t nanosecond → fits s front ≡ true → IsPlaced s zone text bytes nanosecond → (bytes ≡ 1 → ⊥) → (has_second ≡ false → bytes ≡ 0)
      → nanosecond < 1_000_000_000 → SaysNumbers has_second is_utc front bytes zone text n
  numbers_said has_second nanosecond bytes n front y fits_front p more short bound =
      let x = h.taken in
      let is_end = whole_is_end s w moves zone is_utc text digits d m o t at taken h in
      let fits_end = (ends s w moves zone is_utc text digits d m o t at taken h).0 in
      let few = are_few s w text (length text) d m o t h.tail is_end x h.small in
      let long = long_as s front fits_front in
      let high : n.high ≡ get_or x.n 0 0 = y.high_is ∙ (omega (arith, x.days_are, few.month)) in
      let low : n.low ≡ get_or x.n 2 0 = y.low_is ∙ (omega (arith, x.days_are, few.month)) in
      let seconds : t / 64 ≡ get_or x.n 14 0 = omega (arith, x.seconds_are, few.sign) in
      record {
        values = values s w text d m o t h.tail is_end x h.small n.year nanosecond bytes front zone y.year_is y.even fits_front fits_end h.sixteen p;
        front_says = rw long at (front_said s w text d m o t h.tail is_end x h.small n.year nanosecond bytes front zone y.year_is y.even fits_front fits_end h.sixteen p);
        end_says = rw long at (end_said s w text d m o t h.tail is_end x h.small n.year nanosecond bytes front zone y.year_is y.even fits_front fits_end h.sixteen p);
        more = more;
        none = λ e. y.fraction_is ∙ p.written.value ∙ (let zero : bytes - 1 ≡ 0 = omega (arith, e) in rw zero refl);
        short = short;
        dated = record { year = refl; month = sym high; week = sym high; tens = sym high; day = sym low; weekday = sym low; ones = sym low };
        minutes_are = omega (arith, y.minute_is, x.minutes_are);
        second_is = y.second_is ∙ ap (second_if has_second) seconds;
        fraction_is = sym y.fraction_is;
        hour_few = omega (arith, x.minutes_are, y.minute_is, n.within_a_day);
        minute_few = few.minute;
        fraction_few = omega (arith, y.fraction_is, bound);
        offset_is = offset_said s w text d m o t h.tail is_end x h.small n.year nanosecond bytes front zone y.year_is y.even fits_front fits_end h.sixteen p n.offset y.value is_utc (whole_spares s w moves zone is_utc text digits d m o t at taken h);
      }

-- ---- fields

-- fields on the day of a month that numbers have
pub tailed : (front zone : List Part) (is_utc : Bool) (bytes : ℕ) (text : List ℕ) (n : Numbers) (f : Fields) → SaysNumbers true is_utc front bytes zone text n → HaveNumbers f n.year n.high n.low n.minute n.second n.fraction n.offset → SaysTailed front is_utc zone text f
tailed front zone is_utc bytes text n f x h =
    record {
      bytes = bytes;
      more = x.more;
      moment = record {
        values = x.values;
        says = says_both front (fraction_parts bytes ++ zone) text (drop (length_of front) text) [] x.values x.front_says x.end_says;
        numbers = record {
          same_year = h.same_year ∙ sym x.dated.year;
          same_month = h.same_month ∙ sym x.dated.month;
          same_day = h.same_day ∙ sym x.dated.day;
          same_minute = h.same_minute ∙ x.minutes_are;
          same_second = h.same_second ∙ x.second_is;
          same_fraction = h.same_fraction ∙ sym x.fraction_is;
          same_offset = refl;
        };
        hour_few = x.hour_few;
        minute_few = x.minute_few;
        fraction_few = rw x.fraction_is x.fraction_few;
        offset_is = rw h.same_offset x.offset_is;
      };
      none = λ e. x.fraction_is ∙ x.none e;
    }
