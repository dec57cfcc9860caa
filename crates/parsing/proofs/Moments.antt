-- The moment in both formats.
use Rattle.std.proofs.Common.{◌≡◌, ℕ, ◌+◌, ◌<◌, ◌≤◌, ◌==◌, ◌&&◌, inl, inr, ◌⊎◌, Bool, true, false, cond, List, [], ◌∷◌, length, get_or, take, drop, Some, None, Result, Ok, Err, refl, sym, ap, ◌∙◌, arith, lit<}
use Rattle.std.specs.Prelude.{pos, not, ◌+ℤ◌}
use Rattle.std.specs.Result.{IsErr}
use Rattle.std.specs.Str.Parse.{digits_value}
use Rattle.std.proofs.lemmas.Bool.{cases_Bool}
use Rattle.std.proofs.lemmas.Bool.Decides.{nat_tests}
use Rattle.std.proofs.lemmas.Int.{ints}
use Rattle.base.specs.Bytes.{colon, dot, hyphen}
use Rattle.calendar_count.specs.Month.{month_number}
use Rattle.calendar_count.specs.declared.month.Month.{Month}
use Rattle.calendar_count.specs.declared.component_range.ComponentRange.{ComponentRange}
use Rattle.datetime_wall.specs.Wall.{Shown, wall_clock}
use Rattle.parsing_values.specs.NamedDate.{in_range}
use Rattle.parsing_combinator.specs.Fault.{trailing}
use Rattle.parsing_combinator.specs.Readings.{value_read}
use Rattle.parsing_combinator.specs.Pieces.{byte, byte_of, skip_of, nanoseconds_of}
use Rattle.parsing_values.specs.Resolution.{leap_time_of}
use Rattle.parsing_values.specs.StandIn.{leap_checked}
use Rattle.parsing_iso8601.specs.Designators.{time_designator}
use Rattle.parsing_iso8601.specs.declared.kind.Kind.TheVariants.{Extended}
use Rattle.parsing_iso8601.specs.declared.written.WrittenDate.{WrittenDate}
use Rattle.parsing_iso8601.specs.declared.written.WrittenDate.TheVariants.{OfMonth}
use Rattle.parsing_iso8601.specs.declared.written.WrittenTime.{WrittenTime}
use Rattle.parsing_iso8601.specs.Moment.{IsOfOffset}
use Rattle.parsing_iso8601.specs.Offsets.{offset, signed_offset}
use Rattle.parsing_iso8601.specs.Parts.{all_three}
use Rattle.parsing_iso8601.specs.Reading.{dated, iso8601, whole}
use Rattle.parsing_iso8601.specs.ReadView.{day_named}
use Rattle.parsing_iso8601.specs.Times.{time, time_of, subsecond_of}
use Rattle.parsing_iso8601_shapes.proofs.FastMoments.{whole_of, moment_named}
use Rattle.parsing.specs.TwoFormats.{separator, last_byte, second_of, fraction_of, rounds_up, fills_second, is_of_both, rounded}
use Rattle.parsing.proofs.Places.{digits_place, byte_place, any_place, further, byte_at, last_of_rest}
use Rattle.parsing.proofs.RfcPieces.{ThreePieces, date_pieces, clock_pieces, TextPieces, text_pieces, nanosecond, shown}
use Rattle.parsing.proofs.SameDates.{read_date}
use Rattle.parsing.proofs.SameOffsets.{SameOffset, same_zone}
use Rattle.parsing.proofs.SameTimes.{no_time, designated, run_of, SameFraction, fraction_by, rounded_cut, same_time, refused_time}
use Rattle.parsing.proofs.NearTimes.{same_leap, next_time}
use Rattle.parsing_values.proofs.lemmas.Ranges.{date_ranges, TimeRanges, time_ranges}
use Rattle.parsing_components.proofs.Entries.{month_with}
use Rattle.parsing_parsable.proofs.RoadNumbers.{same_date}

-- a text whose date alone is read has a rest
no_time_trails : (bytes : List ℕ) (d : WrittenDate) (c : ℕ) (cs : List ℕ) → dated bytes ≡ Ok ((Ok d, Extended), c ∷ cs) → time Extended true (c ∷ cs) ≡ None → value_read (whole bytes) ≡ Err trailing
unfolding whole iso8601
no_time_trails bytes d c cs hd ht = rw hd (rw ht refl)

-- and so has one whose offset isn't read
no_offset_trails : (bytes b1 : List ℕ) (d : WrittenDate) (t : WrittenTime) (c : ℕ) (cs : List ℕ) → dated bytes ≡ Ok ((Ok d, Extended), b1) → time Extended true b1 ≡ Some ((t, Extended), c ∷ cs) → offset Extended (c ∷ cs) ≡ None → value_read (whole bytes) ≡ Err trailing
unfolding whole iso8601
no_offset_trails bytes b1 d t c cs hd ht ho = rw hd (rw ht (rw ho refl))

-- what a text has in both formats, with the place of each piece
pub record Placed (bytes : List ℕ) (m : Shown) : Type 0 where
  p : TextPieces bytes m
  month : Month
  named : month_number month ≡ p.d.1
  date : dated bytes ≡ Ok ((Ok (OfMonth (pos p.d.0) month p.d.2), Extended), p.b1)
  day : day_named (OfMonth (pos p.d.0) month p.d.2) ≡ Ok p.day
  first : p.b1 ≡ separator bytes ∷ p.b2
  fraction : SameFraction p.b3 (nanosecond p) p.b4
  run : run_of fraction.run ≡ fraction_of bytes
  ranges : TimeRanges p.t.0 p.t.1 p.t.2
  second : second_of bytes ≡ p.t.2
  at : drop 19 bytes ≡ p.b3

-- where the last of three numbers stands, and what follows it
three_place : (n mark : ℕ) (bytes : List ℕ) (d : ℕ × ℕ × ℕ) (rest : List ℕ) → ThreePieces n mark bytes d rest → (digits_value 10 (take 2 (drop (n + 1 + 2 + 1) bytes)) ≡ d.2) × (drop (n + 1 + 2 + 1 + 2) bytes ≡ rest)
three_place n mark bytes d rest p =
    let one = further n 1 bytes p.b1 p.b2 (digits_place n bytes d.0 p.b1 p.one).1 (byte_place _ p.b1 p.b2 p.first) in
    let two = further (n + 1) 2 bytes p.b2 p.b3 one (digits_place 2 p.b2 d.1 p.b3 p.two).1 in
    let three = further (n + 1 + 2) 1 bytes p.b3 p.b4 two (byte_place _ p.b3 p.b4 p.second) in
    let last = digits_place 2 p.b4 d.2 rest p.three in
    (rw three last.0, further (n + 1 + 2 + 1) 2 bytes p.b4 rest three last.1)

pub placed : (bytes : List ℕ) (m : Shown) → TextPieces bytes m → Placed bytes m
unfolding fraction_of
placed bytes m p =
    let ranges = date_ranges (pos p.d.0) p.d.1 p.d.2 p.day p.date_named in
    let month = month_with p.d.1 ranges.least_month ranges.greatest_month in
    let ten = (three_place 4 hyphen bytes p.d p.b1 (date_pieces bytes p.d p.b1 p.date_read)).1 in
    let split = any_place p.b1 p.b2 p.separated in
    let first : get_or p.b1 0 0 ≡ separator bytes = rw (← ten) (sym (byte_at 10 bytes)) in
    let eleven : drop 11 bytes ≡ p.b2 = further 10 1 bytes p.b1 p.b2 ten (ap (drop 1) split) in
    let clock_at = three_place 2 colon p.b2 p.t p.b3 (clock_pieces p.b2 p.t p.b3 p.clock_read) in
    let nineteen : drop 19 bytes ≡ p.b3 = further 11 8 bytes p.b2 p.b3 eleven clock_at.1 in
    let seventeen : drop 17 bytes ≡ drop 6 p.b2 = further 11 6 bytes p.b2 (drop 6 p.b2) eleven refl in
    let fraction = fraction_by p.b3 p.fraction (nanosecond p) p.b4 p.z [] (byte dot p.b3) refl p.fraction_read refl p.offset_read in
    record {
      p = p;
      month = month.is;
      named = month.number;
      date = read_date bytes p.d p.b1 month.is p.date_read month.number ranges.least_day ranges.greatest_day;
      day = same_date p.d.0 p.d.1 p.d.2 month.is month.number month.in_range ∙ p.date_named;
      first = split ∙ ap (λ (c : ℕ). c ∷ p.b2) first;
      fraction = fraction;
      run = rw nineteen (sym fraction.digits);
      ranges = time_ranges p.t.0 p.t.1 p.t.2 (nanosecond p) p.time p.time_named;
      second = rw seventeen clock_at.0;
      at = nineteen;
    }

-- a moment without a leap second is not tested
plain : (b : Bool) (x : Shown) → b ≡ false → leap_checked b x ≡ Ok x
unfolding leap_checked
plain b x e = rw e refl

next_wall : (day time : ℕ) → wall_clock day (time + 1) ≡ wall_clock day time +ℤ pos 1
unfolding wall_clock
next_wall day time = omega (arith, ints)

all_parts : (a b c : Bool) → (a && (not b && not c)) ≡ true → (a ≡ true) × (b ≡ false) × (c ≡ false)
all_parts a b c e = (grind arith, grind arith, grind arith)

-- ---- by the separator, the fraction and the zone

module _ (bytes : List ℕ) (m : Shown) (q : Placed bytes m) where
  abbrev ds : List ℕ
  ds = fraction_of bytes

  -- the nanoseconds as ISO 8601 rounds them
  abbrev nanos : ℕ
  nanos = subsecond_of q.fraction.run

  cut_nanos : nanoseconds_of ds ≡ nanosecond q.p
  cut_nanos = sym (ap nanoseconds_of q.run) ∙ q.fraction.value

  nanos_is : nanos ≡ cond (rounds_up ds) (nanosecond q.p + 1) (nanosecond q.p)
  nanos_is = rounded_cut q.fraction.run ∙ rw (q.run, cut_nanos) refl

  -- another separator
  other_separator : (separator bytes == 84) ≡ false → value_read (whole bytes) ≡ Err trailing
  other_separator other =
      no_time_trails bytes _ (separator bytes) q.p.b2 (q.date ∙ ap (λ (s : List ℕ). Ok ((Ok (OfMonth (pos q.p.d.0) q.month q.p.d.2), Extended), s)) q.first) (no_time (separator bytes) q.p.b2 other)

  module _ (is_t : (separator bytes == 84) ≡ true) where
    after_t : byte time_designator q.p.b1 ≡ Some (tt, q.p.b2)
    after_t = rw q.first (designated (separator bytes) q.p.b2 is_t)

    -- a fraction that fills its second
    full_second : 1_000_000_000 ≤ nanos → value_read (whole bytes) ≡ Err trailing
    full_second full =
        let refused = refused_time q.p.b1 q.p.b2 q.p.b4 q.p.t q.p.b3 (nanosecond q.p) q.fraction after_t q.p.clock_read q.ranges.hour q.ranges.minute q.ranges.second full in
        no_time_trails bytes _ (separator bytes) q.p.b2 (q.date ∙ ap (λ (s : List ℕ). Ok ((Ok (OfMonth (pos q.p.d.0) q.month q.p.d.2), Extended), s)) q.first) (rw q.first at refused)

    module _ (small : nanos < 1_000_000_000) where
      time_read : time Extended true q.p.b1 ≡ Some ((time_of q.p.t.0 q.p.t.1 q.p.t.2 nanos, Extended), q.p.b4)
      time_read = same_time q.p.b1 q.p.b2 q.p.b4 q.p.t q.p.b3 (nanosecond q.p) q.fraction after_t q.p.clock_read q.ranges.hour q.ranges.minute q.ranges.second small

      -- a small `z`
      small_zone : q.p.b4 ≡ 122 ∷ [] → value_read (whole bytes) ≡ Err trailing
      unfolding offset signed_offset skip_of byte_of
      small_zone is =
          no_offset_trails bytes q.p.b1 _ (time_of q.p.t.0 q.p.t.1 q.p.t.2 nanos) 122 [] q.date (rw is at time_read) refl

      -- the moment that all three parts name
      all_named : (o : SameOffset q.p.b4 q.p.seconds) (nanosecond : ℕ) (x : Shown) → leap_time_of q.p.t.0 q.p.t.1 q.p.t.2 nanos ≡ Ok nanosecond → leap_checked (q.p.t.2 == 60) (shown q.p.day nanosecond q.p.seconds) ≡ Ok x → IsOfOffset bytes x
      all_named o nanosecond x named checked =
          let d = OfMonth (pos q.p.d.0) q.month q.p.d.2 in
          let t = time_of q.p.t.0 q.p.t.1 q.p.t.2 nanos in
          record {
            written = all_three d t o.read;
            read = rw (whole_of bytes q.p.b1 q.p.b4 d Extended Extended t o.read q.date time_read o.is) refl;
            offset = refl;
            named = moment_named d t o.read q.p.day nanosecond q.p.seconds q.day named o.value ∙ ap in_range checked;
          }

  is_small : fills_second ds ≡ false → nanos < 1_000_000_000
  is_small fits = grind (arith, nat_tests, nanos_is, cut_nanos, q.fraction.below)

  is_full : fills_second ds ≡ true → 1_000_000_000 ≤ nanos
  is_full full = grind (arith, nat_tests, nanos_is, cut_nanos)

  last_is : 0 < length q.p.b4 → last_byte bytes ≡ last_byte q.p.b4
  last_is some =
      let place : drop (19 + q.fraction.place) bytes ≡ q.p.b4 = further 19 q.fraction.place bytes q.p.b3 q.p.b4 q.at q.fraction.after in
      last_of_rest (19 + q.fraction.place) bytes (rw place some) ∙ ap last_byte place

  module _ (is_t : (separator bytes == 84) ≡ true) (fits : fills_second ds ≡ false) (o : SameOffset q.p.b4 q.p.seconds) where
    -- the fraction does not change the moment
    unchanged : leap_time_of q.p.t.0 q.p.t.1 q.p.t.2 nanos ≡ Ok q.p.time → IsOfOffset bytes m
    unchanged named = all_named is_t (is_small fits) o q.p.time m named q.p.checked

    both_named : IsOfOffset bytes (rounded bytes m)
    both_named =
        elim (cases_Bool (rounds_up ds)) [
          | inr down ↦
              let is : nanos ≡ nanosecond q.p = nanos_is ∙ rw down refl in
              let same : IsOfOffset bytes m = unchanged (rw is q.p.time_named) in
              rw down same
          | inl up ↦
              elim (cases_Bool (q.p.t.2 == 60)) [
                | inl leap ↦
                    let same : IsOfOffset bytes m = unchanged (same_leap q.p.t.0 q.p.t.1 q.p.t.2 (nanosecond q.p) nanos q.p.time leap q.p.time_named) in
                    rw (up, q.second, leap) same
                | inr other ↦
                    let is : nanos ≡ nanosecond q.p + 1 = nanos_is ∙ rw up refl in
                    let less : nanosecond q.p < 999_999_999 = let small : nanos < 1_000_000_000 = is_small fits in omega (arith, is) in
                    let named : leap_time_of q.p.t.0 q.p.t.1 q.p.t.2 nanos ≡ Ok (q.p.time + 1) = rw is (next_time q.p.t.0 q.p.t.1 q.p.t.2 (nanosecond q.p) q.p.time other less q.p.time_named) in
                    let shown_is : shown q.p.day q.p.time q.p.seconds ≡ m = cc (plain (q.p.t.2 == 60) (shown q.p.day q.p.time q.p.seconds) other, q.p.checked) in
                    let read : IsOfOffset bytes (shown q.p.day (q.p.time + 1) q.p.seconds) = all_named is_t (is_small fits) o (q.p.time + 1) _ named (plain (q.p.t.2 == 60) (shown q.p.day (q.p.time + 1) q.p.seconds) other) in
                    let next : Shown = record { wall = wall_clock q.p.day q.p.time +ℤ pos 1; offset = q.p.seconds } in
                    let later : IsOfOffset bytes next = rw (next_wall q.p.day q.p.time) at read in
                    rw (up, q.second, other) (rw (← shown_is) later)
              ]
        ]

  zone : (q.p.b4 ≡ 122 ∷ []) ⊎ SameOffset q.p.b4 q.p.seconds
  zone = same_zone q.p.b4 q.p.z q.p.seconds q.p.offset_read q.p.offset_named

  pub accepted : is_of_both bytes ≡ true → IsOfOffset bytes (rounded bytes m)
  accepted both =
      let parts = all_parts (separator bytes == 84) (last_byte bytes == 122) (fills_second ds) both in
      elim zone [
        | inl small ↦
            let last : last_byte bytes ≡ 122 = last_is (rw small (lit< tt)) ∙ ap last_byte small in
            let is : (last_byte bytes == 122) ≡ true = grind (arith, nat_tests) in
            absurd (cc (is, parts.1))
        | inr o ↦ both_named parts.0 parts.2 o
      ]

  pub not_accepted : is_of_both bytes ≡ false → IsErr (value_read (whole bytes))
  not_accepted neither =
      elim (cases_Bool (separator bytes == 84)) [
        | inr other ↦ rw (other_separator other) refl
        | inl is_t ↦
            elim (cases_Bool (fills_second ds)) [
              | inl full ↦ rw (full_second is_t (is_full full)) refl
              | inr fits ↦
                  elim zone [
                    | inl small ↦ rw (small_zone is_t (is_small fits) small) refl
                    | inr o ↦
                        let large : (last_byte bytes == 122) ≡ false = rw (last_is o.some) o.large in
                        absurd (let never : true ≡ false = rw (is_t, large, fits) at neither in cc)
                  ]
            ]
      ]
