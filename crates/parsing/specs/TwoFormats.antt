-- Texts of RFC 3339 as ISO 8601 reads them, with an assumed offset or none. The date has ten bytes, the time to the second ends after byte 18, and the zone is last.
use Rattle.std.specs.Prelude.{◌≡◌, ℕ, ◌-◌, ◌*◌, ◌%◌, ◌^◌, ◌==◌, ◌&&◌, Bool, true, false, not, List, [], length, get_or, take, drop, Option, Some, None, nat_le, if◌then◌else◌, Ok, pos, ◌+ℤ◌}
use Rattle.std.specs.Result.{IsErr}
use Rattle.std.specs.Str.Parse.{digits_value}
use Rattle.base.specs.Bytes.{dot, lower_z}
use Rattle.datetime_wall.specs.Wall.{Shown}
use Rattle.parsing_combinator.specs.Pieces.{byte, digit_count, nanoseconds_of}
use Rattle.parsing_iso8601.specs.Designators.{time_designator}
use Rattle.parsing_components.specs.declared.fields.Record.{Record}
use Rattle.parsing_record.specs.Whole.{whole, names, moment_named}
use Rattle.parsing_parsable.specs.Staged.{reads_iso8601}

-- the byte between date and time
abbrev pub separator : List ℕ → ℕ
separator bytes = get_or bytes 10 0

abbrev pub last_byte : List ℕ → ℕ
last_byte bytes = get_or bytes (length bytes - 1) 0

-- the number of the second
abbrev pub second_of : List ℕ → ℕ
second_of bytes = digits_value 10 (take 2 (drop 17 bytes))

abbrev pub digits_after : Option (Unit {0} × List ℕ) → List ℕ
digits_after None = []
digits_after (Some x) = take (digit_count x.1) x.1

-- the digits of the fraction, after a point that may follow the second
unfoldable pub fraction_of : List ℕ → List ℕ
fraction_of bytes = digits_after (byte dot (drop 19 bytes))

-- what is left of the last whole nanosecond is at least its half
unfoldable pub rounds_up : List ℕ → Bool
rounds_up ds = nat_le (10 ^ length ds) (2 * (digits_value 10 ds * 10 ^ 9 % 10 ^ length ds))

-- the nearest nanosecond is that of the next second
abbrev pub fills_second : List ℕ → Bool
fills_second ds = rounds_up ds && (nanoseconds_of ds == 999_999_999)

-- `T` and no small `z`, and a fraction that stays within its second
abbrev pub is_of_both : List ℕ → Bool
is_of_both bytes =
    (separator bytes == time_designator) && (not (last_byte bytes == lower_z) && not (fills_second (fraction_of bytes)))

-- the next nanosecond where the fraction rounds up; a leap second stands for the same one, whatever its fraction
abbrev pub rounded : List ℕ → Shown → Shown
rounded bytes m =
    if rounds_up (fraction_of bytes) && not (second_of bytes == 60) then record { wall = m.wall +ℤ pos 1; offset = m.offset } else m

-- what ISO 8601 makes of a text for which RFC 3339 names a moment, with the same defaults
pub record IsReadAlike (defaults : Option Record) (bytes : List ℕ) (m : Shown) : Type 0 where
  pub named : is_of_both bytes ≡ true → names moment_named (whole reads_iso8601 defaults bytes) ≡ Ok (rounded bytes m)
  pub refused : is_of_both bytes ≡ false → IsErr (names moment_named (whole reads_iso8601 defaults bytes))
