-- A text whose pieces are read one after another, with numbers in range and no leap second, names their moment.
use Rattle.std.proofs.Common.{◌≡◌, ℕ, ◌+◌, ◌*◌, ◌<◌, ◌≤◌, false, List, [], Option, Some, None, Ok, Err, ℤ, pos, refl, arith}
use Rattle.std.specs.Option.{unwrap_or}
use Rattle.std.proofs.lemmas.Bool.Decides.{nat_tests}
use Rattle.std.specs.Prelude.{◌==◌, codes, ◌*ℤ◌}
use Rattle.calendar.specs.Time.{time_of}
use Rattle.datetime_wall.specs.Wall.{wall_clock}
use Rattle.parsing_combinator.specs.Fault.{component}
use Rattle.parsing_combinator.specs.Pieces.{any_byte, digits}
use Rattle.parsing_combinator.specs.declared.zone.Zone.{Zone}
use Rattle.parsing_values.specs.Resolution.{date_of, permitted_time_of, signed_offset_of}
use Rattle.parsing_values.specs.StandIn.{leap_checked}
use Rattle.parsing_rfc3339.specs.Reading.{date, clock, subsecond, offset, rfc3339}
use Rattle.parsing_rfc3339.specs.Direct.{direct, moment, moment_of}
use Rattle.parsing_values.specs.declared.fields.Fields.{Fields}
use Rattle.parsing_values.specs.Moment as Moment
use Rattle.parsing_values.specs.Moment.{day_of_fields, time_of_fields}
use Rattle.parsing_values.specs.Numbers.{HaveNumbers}
use Rattle.parsing_values.proofs.lemmas.Moments.{fields_date, fields_time, moment_is}

no_leap : (hour minute second nanosecond time : ℕ) → time_of hour minute second nanosecond ≡ Ok time → (second == 60) ≡ false
unfolding time_of
no_leap hour minute second nanosecond time e = grind (arith, nat_tests)

-- what a function returns that reads the pieces one after another
pub moment_read : (b0 b1 b2 b3 b4 : List ℕ) (d t : ℕ × ℕ × ℕ) (nanosecond : ℕ) (o : ℤ) (day time : ℕ) → date false b0 ≡ Ok (d, b1) → any_byte b1 ≡ Some (tt, b2) → clock false b2 ≡ Ok (t, b3) → ((n : Option ℕ) × (subsecond b3 ≡ Ok (n, b4)) × (unwrap_or n 0 ≡ nanosecond)) → ((z : Zone) × (offset false b4 ≡ Ok (z, [])) × (signed_offset_of z.is_negative z.hours z.minutes ≡ Ok o)) → date_of (pos d.0) d.1 d.2 ≡ Ok day → time_of t.0 t.1 t.2 nanosecond ≡ Ok time → direct b0 ≡ Ok (record { wall = wall_clock day time; offset = o })
unfolding direct moment moment_of permitted_time_of leap_checked rfc3339
moment_read b0 b1 b2 b3 b4 d t nanosecond o day time in_date between in_clock in_subsecond in_offset in_day in_time =
    rw (in_date, between, in_clock, in_subsecond.1, in_offset.1, in_offset.2, in_day, in_subsecond.2, no_leap t.0 t.1 t.2 nanosecond time in_time, in_time) refl

-- the same of fields that have the numbers of the pieces
pub fields_read : (f : Fields) (b0 b1 b2 b3 b4 : List ℕ) (d t : ℕ × ℕ × ℕ) (fraction : ℕ) (o : ℤ) → date false b0 ≡ Ok (d, b1) → any_byte b1 ≡ Some (tt, b2) → clock false b2 ≡ Ok (t, b3) → ((n : Option ℕ) × (subsecond b3 ≡ Ok (n, b4)) × (unwrap_or n 0 ≡ fraction)) → ((z : Zone) × (offset false b4 ≡ Ok (z, [])) × (signed_offset_of z.is_negative z.hours z.minutes ≡ Ok (pos 60 *ℤ o))) → HaveNumbers f d.0 d.1 d.2 (t.0 * 60 + t.1) t.2 fraction o → t.0 ≤ 23 → t.1 ≤ 59 → fraction < 1_000_000_000 → direct b0 ≡ Ok (Moment.moment_of f)
fields_read f b0 b1 b2 b3 b4 d t fraction o in_date between in_clock in_subsecond in_offset numbers hour minute bound =
    rw (← moment_is f, numbers.same_offset) (moment_read b0 b1 b2 b3 b4 d t fraction (pos 60 *ℤ o) (day_of_fields f) (time_of_fields f) in_date between in_clock in_subsecond in_offset (fields_date f _ _ _ _ _ _ _ numbers) (fields_time f _ _ _ _ _ _ _ _ numbers hour minute bound))

-- a text without four digits before has no year
pub no_year : (bytes : List ℕ) → digits 4 bytes ≡ None → direct bytes ≡ Err (component (codes "year"))
unfolding direct moment rfc3339 date
no_year bytes e = rw e refl
