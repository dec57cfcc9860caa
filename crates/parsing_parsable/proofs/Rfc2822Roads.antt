-- Both ways to read a text of RFC 2822.
use Rattle.std.proofs.Common.{◌≡◌, ℕ, ◌≤◌, ◌==◌, Bool, true, false, List, [], ◌∷◌, Option, Some, None, Result, Ok, Err, refl, sym, ◌∙◌, ℤ}
use Rattle.std.specs.Prelude.{◌↔◌, IfSome, pos}
use Rattle.std.specs.Option.{unwrap_or}
use Rattle.std.specs.Result.{result_ok}
use Rattle.calendar_count.specs.Month.{month_number}
use Rattle.calendar_count.specs.declared.component_range.ComponentRange.{ComponentRange}
use Rattle.parsing_values.specs.NamedDate.{in_range, named_date, by_ordinal, by_day, year_of}
use Rattle.parsing_values.specs.NamedMoment.{named_moment, dated_moment, named_wall}
use Rattle.parsing_values.specs.NamedTime.{named_time, named_offset, hour_of, finer_parts, seconds_after}
use Rattle.parsing_combinator.specs.Fault.{Fault}
use Rattle.parsing_combinator.specs.Readings.{then_read, value_read}
use Rattle.parsing_record.specs.Whole.{whole, names, all_read, moment_named}
use Rattle.parsing_values.specs.Resolution.{date_of, leap_time_of, signed_offset_of}
use Rattle.parsing_values.proofs.lemmas.Ranges.{date_ranges, time_ranges, offset_ranges}
use Rattle.parsing_rfc2822.specs.declared.parts.Rfc2822Parts.{Rfc2822Parts}
use Rattle.parsing_rfc2822.specs.Direct.{direct, moment, moment_of}
use Rattle.parsing_rfc2822.specs.Range.{AreInRange}
use Rattle.parsing_rfc2822.specs.Reading.{rfc2822}
use Rattle.parsing_parsable.specs.Put.{put_rfc2822}
use Rattle.parsing_parsable.specs.Staged.{reads_rfc2822}
use Rattle.parsing_parsable.specs.TwoRoads.{holding, AgreeOn}
use Rattle.parsing_parsable.proofs.RoadParts.{of_parts, named_parts, offset_last, AreNamed, none_or_named, agree_by}
use Rattle.parsing_parsable.proofs.RoadNumbers.{not_all, month_in_range, same_date, same_offset, no_more}

abbrev date : Rfc2822Parts → Result ℕ ComponentRange
date w = date_of (pos w.year) (month_number w.month) w.day

abbrev time : Rfc2822Parts → Result ℕ ComponentRange
time w = leap_time_of w.hour w.minute (unwrap_or w.second 0) 0

abbrev offset : Rfc2822Parts → Result ℤ ComponentRange
offset w = signed_offset_of w.zone.is_negative w.zone.hours w.zone.minutes

abbrev leaps : Rfc2822Parts → Bool
leaps w = unwrap_or w.second 0 == 60

direct_parts : (w : Rfc2822Parts) → result_ok (value_read (moment_of w [])) ≡ of_parts (leaps w) (date w) (time w) (offset w)
unfolding moment_of
direct_parts w = offset_last (leaps w) (date w) (time w) (offset w)

direct_rest : (w : Rfc2822Parts) (c : ℕ) (cs : List ℕ) → result_ok (value_read (moment_of w (c ∷ cs))) ≡ None
unfolding moment_of
direct_rest w c cs = refl

-- a time of day whose second may be missing
time_named : (h m : ℕ) (s : Option ℕ) → named_time true (record { hour_24 = Some h; hour_12 = None; hour_12_is_pm = None; minute = Some m; second = s; subsecond = None }) ≡ in_range (leap_time_of h m (unwrap_or s 0) 0)
unfolding named_time hour_of finer_parts
time_named h m None = refl
time_named h m (Some n) = refl

staged_parts : (w : Rfc2822Parts) (hour minute : Option ℤ) → result_ok (moment_named (put_rfc2822 w (holding hour minute))) ≡ of_parts (leaps w) (date w) (time w) (offset w)
unfolding named_moment dated_moment named_wall named_date by_ordinal by_day year_of named_offset seconds_after
staged_parts w hour minute =
    rw (no_more w.second, time_named w.hour w.minute w.second, same_date w.year (month_number w.month) w.day w.month refl (month_in_range w.month), same_offset w.zone.is_named w.zone.is_negative w.zone.hours w.zone.minutes) (named_parts (leaps w) (date w) (time w) (offset w))

within_minute : (s : Option ℕ) → unwrap_or s 0 ≤ 60 → IfSome s (λ n. n ≤ 60)
within_minute None h = tt
within_minute (Some n) h = h

are_in_range : (w : Rfc2822Parts) → AreNamed (date w) (time w) (offset w) → AreInRange w
are_in_range w named =
    let d = date_ranges (pos w.year) (month_number w.month) w.day named.date.value named.date.is in
    let t = time_ranges w.hour w.minute (unwrap_or w.second 0) 0 named.time.value named.time.is in
    let o = offset_ranges w.zone.is_negative w.zone.hours w.zone.minutes named.offset.value named.offset.is in
    record { day = (d.least_day, d.greatest_day); hour = t.hour; minute = t.minute; second = within_minute w.second t.second; zone_hours = o.hours; zone_minutes = o.minutes }

refused : (w : Rfc2822Parts) (rest : List ℕ) → ¬ AreInRange w → result_ok (value_read (moment_of w rest)) ≡ None
refused w [] outside = none_or_named (leaps w) (date w) (time w) (offset w) (λ none. direct_parts w ∙ none) (λ named. absurd (outside (are_in_range w named)))
refused w (c ∷ cs) outside = direct_rest w c cs

read_alike : (w : Rfc2822Parts) (rest : List ℕ) (hour minute : Option ℤ) → AreInRange w → result_ok (value_read (moment_of w rest)) ≡ result_ok (names moment_named (all_read (Ok (put_rfc2822 w (holding hour minute), rest))))
read_alike w [] hour minute range = direct_parts w ∙ sym (staged_parts w hour minute)
read_alike w (c ∷ cs) hour minute range = rw (not_all c cs) (direct_rest w c cs)

-- what the strict reading has to do with the other one decides it
pub agree : (bytes : List ℕ) → ((w : Rfc2822Parts) (rest : List ℕ) → (rfc2822 true bytes ≡ Ok (w, rest)) ↔ ((rfc2822 false bytes ≡ Ok (w, rest)) × AreInRange w)) → AgreeOn direct reads_rfc2822 bytes
unfolding direct moment whole reads_rfc2822
agree bytes iff hour minute = agree_by moment_of (λ w. put_rfc2822 w (holding hour minute)) AreInRange refused (λ w rest. read_alike w rest hour minute) (rfc2822 true bytes) (rfc2822 false bytes) iff
