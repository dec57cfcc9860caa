-- The moment of a date, a time of day and an offset.
use Rattle.std.proofs.Common.{◌≡◌, ℕ, ◌+◌, ◌*◌, ◌<◌, ◌≤◌, ◌==◌, true, false, List, [], Some, Ok, refl, ◌∙◌, ℤ, arith}
use Rattle.std.specs.Prelude.{pos, ◌*ℤ◌}
use Rattle.std.proofs.lemmas.Bool.Decides.{nat_tests}
use Rattle.calendar_count.specs.Calendar.{IsDay}
use Rattle.std.specs.Option.{unwrap_or}
use Rattle.calendar.specs.UtcOffset.{offset_of}
use Rattle.datetime_wall.specs.Wall.{wall_clock}
use Rattle.parsing_values.specs.NamedDate.{named_date, in_range, by_ordinal, by_day, by_iso_week, year_of, split_year}
use Rattle.parsing_values.specs.NamedTime.{named_time, named_offset, hour_of, half_day_hour, finer_parts, seconds_after}
use Rattle.parsing_values.specs.NamedMoment.{named_moment, dated_moment, named_wall}
use Rattle.parsing_values.specs.Resolution.{permitted_time_of, leap_time_of}
use Rattle.parsing_values.specs.StandIn.{leap_checked}
use Rattle.parsing_iso8601.specs.declared.kind.Kind.{Kind}
use Rattle.parsing_iso8601.specs.declared.written.WrittenDate.{WrittenDate}
use Rattle.parsing_iso8601.specs.declared.written.WrittenTime.{WrittenTime}
use Rattle.parsing_iso8601.specs.declared.written.WrittenOffset.{WrittenOffset}
use Rattle.parsing_iso8601.specs.Moment.{IsOfOffset}
use Rattle.parsing_iso8601.specs.Offsets.{offset}
use Rattle.parsing_iso8601.specs.Parts.{date_parts, time_parts, offset_parts, all_three, parts_of, offset_parts_of}
use Rattle.parsing_iso8601.specs.Reading.{dated, iso8601, whole}
use Rattle.parsing_iso8601.specs.ReadView.{day_named}
use Rattle.parsing_iso8601.specs.Times.{time}
use Rattle.parsing_iso8601.specs.Times as Times
use Rattle.parsing_values.specs.declared.fields.Fields.{Fields}
use Rattle.parsing_values.specs.Moment as Moment
use Rattle.parsing_values.specs.Moment.{day_of_fields, time_of_fields}
use Rattle.parsing_values.specs.Numbers.{HaveNumbers}
use Rattle.parsing_iso8601_shapes.proofs.FastDates.{ReadsDay}
use Rattle.parsing_iso8601_shapes.proofs.FastOffsets.{IsAllOffset}
use Rattle.parsing_values.proofs.lemmas.Moments.{fields_time, moment_is}

pub date_named : (d : WrittenDate) → named_date (date_parts (Some d)) ≡ in_range (day_named d)
unfolding named_date by_ordinal by_day by_iso_week year_of split_year
date_named d = grind (arith, nat_tests)

pub time_named : (t : WrittenTime) → named_time true (time_parts (Some t)) ≡ in_range (leap_time_of t.hour t.minute t.second t.subsecond)
unfolding named_time hour_of half_day_hour finer_parts
time_named t = refl

pub offset_named : (o : WrittenOffset) → named_offset (offset_parts (Some o)) ≡ in_range (offset_of o.hour o.minute (unwrap_or o.second (pos 0)))
unfolding named_offset seconds_after
offset_named o = refl

-- the moment of these values, a second 60 being tested
pub moment_named : (d : WrittenDate) (t : WrittenTime) (o : WrittenOffset) (day nanos : ℕ) (seconds : ℤ) → day_named d ≡ Ok day → leap_time_of t.hour t.minute t.second t.subsecond ≡ Ok nanos → offset_of o.hour o.minute (unwrap_or o.second (pos 0)) ≡ Ok seconds
    → named_moment (parts_of (all_three d t o)) (offset_parts_of (all_three d t o)) ≡ in_range (leap_checked (t.second == 60) (record { wall = wall_clock day nanos; offset = seconds }))
unfolding named_moment dated_moment named_wall
moment_named d t o day nanos seconds hd ht ho =
    rw (date_named d) (rw hd (rw (time_named t) (rw ht (rw (offset_named o) (rw ho refl)))))

-- the parts of a text that has all three, and nothing after them
pub whole_of : (bytes b1 b2 : List ℕ) (d : WrittenDate) (k l : Kind) (t : WrittenTime) (o : WrittenOffset) → dated bytes ≡ Ok ((Ok d, k), b1) → time k true b1 ≡ Some ((t, l), b2) → offset l b2 ≡ Some (o, []) → whole bytes ≡ Ok (all_three d t o, [])
unfolding whole iso8601
whole_of bytes b1 b2 d k l t o hd ht ho = rw hd (rw ht (rw ho refl))

-- the moment of fields that have the numbers of such a text
pub fields_named : (f : Fields) (bytes b1 b3 : List ℕ) (k : Kind) (year month day hour minute second fraction : ℕ) (o : ℤ) → ReadsDay bytes year month day k b1 → time k true b1 ≡ Some ((Times.time_of hour minute second fraction, k), b3) → fraction < 1_000_000_000 → IsAllOffset (offset k b3) o → HaveNumbers f year month day (hour * 60 + minute) second fraction o → hour ≤ 23 → minute ≤ 59
    → IsOfOffset bytes (Moment.moment_of f)
unfolding leap_checked permitted_time_of
fields_named f bytes b1 b3 k year month day hour minute second fraction o in_day in_clock bound in_offset numbers low small =
    let date = in_day.0 in
    let t : WrittenTime = Times.time_of hour minute second fraction in
    let zone = in_offset.0 in
    let plain : (second == 60) ≡ false = grind (arith, nat_tests) in
    let there : IsDay (pos year) month day = rw (← numbers.same_year, ← numbers.same_month, ← numbers.same_day) f.day_is_there in
    let named_day : day_named date ≡ Ok (day_of_fields f) = rw (numbers.same_year, numbers.same_month, numbers.same_day) (in_day.2 there) in
    let named_time = fields_time f _ _ _ _ _ _ _ _ numbers low small bound in
    let named : named_moment (parts_of (all_three date t zone)) (offset_parts_of (all_three date t zone)) ≡ Ok (record { wall = wall_clock (day_of_fields f) (time_of_fields f); offset = pos 60 *ℤ o }) =
    moment_named date t zone (day_of_fields f) (time_of_fields f) (pos 60 *ℤ o) named_day (rw plain named_time) in_offset.2 ∙ rw plain refl in
    record { written = all_three date t zone; read = rw (whole_of bytes b1 b3 date k k t zone in_day.1 in_clock in_offset.1) refl; offset = refl; named = rw (← moment_is f, numbers.same_offset) named }
