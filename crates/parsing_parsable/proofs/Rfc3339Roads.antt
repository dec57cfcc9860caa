-- Both ways to read a text of RFC 3339.
use Rattle.std.proofs.Common.{◌≡◌, ℕ, ◌==◌, Bool, true, false, List, [], ◌∷◌, Option, None, Result, Ok, Err, refl, sym, ◌∙◌, ℤ}
use Rattle.std.specs.Prelude.{◌↔◌, pos}
use Rattle.std.specs.Option.{unwrap_or}
use Rattle.std.specs.Result.{result_ok}
use Rattle.calendar_count.specs.declared.component_range.ComponentRange.{ComponentRange}
use Rattle.datetime_wall.specs.Wall.{Shown}
use Rattle.parsing_values.specs.NamedDate.{named_date, by_ordinal, by_day, year_of}
use Rattle.parsing_values.specs.NamedMoment.{named_moment, dated_moment, named_wall}
use Rattle.parsing_values.specs.NamedTime.{named_time, named_offset, hour_of, finer_parts, seconds_after}
use Rattle.parsing_combinator.specs.Fault.{Fault}
use Rattle.parsing_combinator.specs.Readings.{Reading, then_read, resolved, end, value_read}
use Rattle.parsing_record.specs.Whole.{whole, names, all_read, moment_named}
use Rattle.parsing_values.specs.Resolution.{date_of, leap_time_of, signed_offset_of}
use Rattle.parsing_values.proofs.lemmas.Ranges.{date_ranges, time_ranges, offset_ranges}
use Rattle.parsing_rfc3339.specs.declared.parts.Rfc3339Parts.{Rfc3339Parts}
use Rattle.parsing_rfc3339.specs.Direct.{direct, moment, moment_of}
use Rattle.parsing_rfc3339.specs.Range.{AreInRange}
use Rattle.parsing_rfc3339.specs.Reading.{rfc3339}
use Rattle.parsing_parsable.specs.Put.{put_rfc3339}
use Rattle.parsing_parsable.specs.Staged.{reads_rfc3339}
use Rattle.parsing_parsable.specs.TwoRoads.{holding, AgreeOn}
use Rattle.parsing_parsable.proofs.RoadParts.{of_parts, named_parts, offset_first, AreNamed, none_or_named, agree_by}
use Rattle.parsing_components.proofs.Entries.{Numbered, month_with}
use Rattle.parsing_parsable.proofs.RoadNumbers.{not_all, same_date, same_offset, no_more}

abbrev date : Rfc3339Parts → Result ℕ ComponentRange
date w = date_of (pos w.year) w.month w.day

abbrev time : Rfc3339Parts → Result ℕ ComponentRange
time w = leap_time_of w.hour w.minute w.second (unwrap_or w.subsecond 0)

abbrev offset : Rfc3339Parts → Result ℤ ComponentRange
offset w = signed_offset_of w.zone.is_negative w.zone.hours w.zone.minutes

abbrev leaps : Rfc3339Parts → Bool
leaps w = w.second == 60

direct_parts : (w : Rfc3339Parts) → result_ok (value_read (moment_of w [])) ≡ of_parts (leaps w) (date w) (time w) (offset w)
unfolding moment_of
direct_parts w = offset_first (leaps w) (date w) (time w) (offset w)

trailing_by : (o : Result ℤ ComponentRange) (c : ℕ) (cs : List ℕ) (f : ℤ → Unit {0} → Reading Shown) → result_ok (value_read (then_read (resolved o (c ∷ cs)) (λ offset rest. then_read (end rest) (f offset)))) ≡ None
trailing_by (Ok x) c cs f = refl
trailing_by (Err e) c cs f = refl

direct_rest : (w : Rfc3339Parts) (c : ℕ) (cs : List ℕ) → result_ok (value_read (moment_of w (c ∷ cs))) ≡ None
unfolding moment_of
direct_rest w c cs = trailing_by (offset w) c cs _

staged_parts : (w : Rfc3339Parts) (hour minute : Option ℤ) → Numbered w.month → result_ok (moment_named (put_rfc3339 w (holding hour minute))) ≡ of_parts (leaps w) (date w) (time w) (offset w)
unfolding named_moment dated_moment named_wall named_date by_ordinal by_day year_of named_time named_offset hour_of finer_parts seconds_after
staged_parts w hour minute m =
    rw (m.counted, same_date w.year w.month w.day m.is m.number m.in_range, no_more w.subsecond, same_offset w.zone.is_named w.zone.is_negative w.zone.hours w.zone.minutes) (named_parts (leaps w) (date w) (time w) (offset w))

in_range : (w : Rfc3339Parts) → AreNamed (date w) (time w) (offset w) → AreInRange w
in_range w named =
    let d = date_ranges (pos w.year) w.month w.day named.date.value named.date.is in
    let t = time_ranges w.hour w.minute w.second (unwrap_or w.subsecond 0) named.time.value named.time.is in
    let o = offset_ranges w.zone.is_negative w.zone.hours w.zone.minutes named.offset.value named.offset.is in
    record { month = (d.least_month, d.greatest_month); day = (d.least_day, d.greatest_day); hour = t.hour; minute = t.minute; second = t.second; zone_hours = o.hours; zone_minutes = o.minutes }

refused : (w : Rfc3339Parts) (rest : List ℕ) → ¬ AreInRange w → result_ok (value_read (moment_of w rest)) ≡ None
refused w [] outside = none_or_named (leaps w) (date w) (time w) (offset w) (λ none. direct_parts w ∙ none) (λ named. absurd (outside (in_range w named)))
refused w (c ∷ cs) outside = direct_rest w c cs

read_alike : (w : Rfc3339Parts) (rest : List ℕ) (hour minute : Option ℤ) → AreInRange w → result_ok (value_read (moment_of w rest)) ≡ result_ok (names moment_named (all_read (Ok (put_rfc3339 w (holding hour minute), rest))))
read_alike w [] hour minute range = direct_parts w ∙ sym (staged_parts w hour minute (month_with w.month range.month.0 range.month.1))
read_alike w (c ∷ cs) hour minute range = rw (not_all c cs) (direct_rest w c cs)

-- what the strict reading has to do with the other one decides it
pub agree : (bytes : List ℕ) → ((w : Rfc3339Parts) (rest : List ℕ) → (rfc3339 true bytes ≡ Ok (w, rest)) ↔ ((rfc3339 false bytes ≡ Ok (w, rest)) × AreInRange w)) → AgreeOn direct reads_rfc3339 bytes
unfolding direct moment whole reads_rfc3339
agree bytes iff hour minute = agree_by moment_of (λ w. put_rfc3339 w (holding hour minute)) AreInRange refused (λ w rest. read_alike w rest hour minute) (rfc3339 true bytes) (rfc3339 false bytes) iff
