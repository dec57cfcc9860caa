-- The three kinds of instants of one date, one time of day and one offset.
use Rattle.std.proofs.Common.{◌≡◌, ℕ, Bool, cond, Option, Ok, Err, refl, ◌∙◌, ap, ℤ}
use Rattle.std.specs.Prelude.{◌&&◌, not}
use Rattle.calendar_count.specs.ComponentRange.{out_of_conditional_range}
use Rattle.calendar_count.specs.declared.component_range.ComponentName.TheVariants.{Second}
use Rattle.datetime_wall.specs.Wall.{Shown, instant, IsWallClock, wall_clock}
use Rattle.datetime_wall.proofs.lemmas.WallClocks.{is_wall_clock_yes}
use Rattle.parsing_values.specs.StandIn.{leap_checked, is_stand_in}
use Rattle.parsing_values.specs.NamedDate.{in_range}
use Rattle.parsing_values.specs.declared.parts.OffsetParts.{OffsetParts}
use Rattle.parsing_values.specs.declared.parts.MomentParts.{MomentParts}
use Rattle.parsing_values.specs.NamedTime.{named_offset}
use Rattle.parsing_values.specs.NamedMoment.{◌>>=◌, named_wall, is_leap, in_calendar, dated_moment, offset_or_utc, dated_utc, or_insufficient, dated_timestamp, timestamp_by, moment_by, named_moment, named_utc, named_timestamp}
use Rattle.parsing_values.specs.Laws.{IsWhole, IsOneInstant}
use Rattle.std.proofs.Common.{arith}
use Rattle.std.proofs.lemmas.Bool.Decides.{nat_tests}

abbrev shown_of : ℕ → ℕ → ℤ → Shown
shown_of date time offset = record { wall = wall_clock date time; offset = offset }

wall_is : (p : MomentParts) (o : OffsetParts) (date time : ℕ) (offset : ℤ) → IsWhole p o date time offset → named_wall p.leap_second_is_permitted p.date p.time ≡ Ok (wall_clock date time)
unfolding named_wall
wall_is p o date time offset h = rw (h.date_is, h.time_is) refl

hour_of_offset : (p : OffsetParts) (hour : Option ℤ) (offset : ℤ) → p.hour ≡ hour → named_offset p ≡ Ok offset → offset_or_utc p hour ≡ Ok offset
unfolding named_offset offset_or_utc
hour_of_offset p hour offset e h = grind (arith, nat_tests)

dated_is : (p : MomentParts) (o : OffsetParts) (date time : ℕ) (offset : ℤ) → IsWhole p o date time offset → dated_moment p o ≡ in_range (leap_checked (is_leap p) (shown_of date time offset))
unfolding dated_moment
dated_is p o date time offset h = rw (wall_is p o date time offset h, h.offset_is) refl

moment_is : (p : MomentParts) (o : OffsetParts) (date time : ℕ) (offset : ℤ) → IsWhole p o date time offset → named_moment p o ≡ in_range (leap_checked (is_leap p) (shown_of date time offset))
unfolding named_moment
moment_is p o date time offset h = ap (λ u. moment_by u p o) h.unix_is ∙ dated_is p o date time offset h

utc_is : (p : MomentParts) (o : OffsetParts) (date time : ℕ) (offset : ℤ) → IsWhole p o date time offset → named_utc p o ≡ (in_range (leap_checked (is_leap p) (shown_of date time offset)) >>= (λ m. Ok (instant (shown_of date time offset))))
unfolding named_utc dated_utc
utc_is p o date time offset h =
    rw (h.unix_is, wall_is p o date time offset h, hour_of_offset o o.hour offset refl h.offset_is, is_wall_clock_yes _ h.in_utc) refl

timestamp_is : (p : MomentParts) (o : OffsetParts) (date time : ℕ) (offset : ℤ) → IsWhole p o date time offset → named_timestamp p o ≡ or_insufficient (in_range (leap_checked (is_leap p) (shown_of date time offset)) >>= (λ m. in_range (in_calendar (instant m))))
unfolding named_timestamp dated_timestamp
timestamp_is p o date time offset h =
    ap (λ u. timestamp_by u p o) h.unix_is ∙ ap (λ r. or_insufficient (r >>= (λ m. in_range (in_calendar (instant m))))) (dated_is p o date time offset h)

choice : (m : Shown) (refusal : Bool) → IsWallClock (instant m) → IsOneInstant (in_range (cond refusal (Err (out_of_conditional_range Second)) (Ok m))) (in_range (cond refusal (Err (out_of_conditional_range Second)) (Ok m)) >>= (λ n. Ok (instant m))) (or_insufficient (in_range (cond refusal (Err (out_of_conditional_range Second)) (Ok m)) >>= (λ n. in_range (in_calendar (instant n)))))
choice m refusal h = grind (arith, nat_tests)

pub one_instant : (p : MomentParts) (o : OffsetParts) (date time : ℕ) (offset : ℤ) → IsWhole p o date time offset → IsOneInstant (named_moment p o) (named_utc p o) (named_timestamp p o)
unfolding leap_checked
one_instant p o date time offset h =
    rw (moment_is p o date time offset h, utc_is p o date time offset h, timestamp_is p o date time offset h)
    (choice (shown_of date time offset) (is_leap p && not (is_stand_in (shown_of date time offset))) h.in_utc)
