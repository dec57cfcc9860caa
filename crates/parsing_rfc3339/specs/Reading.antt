-- RFC 3339, section 5.6: a full date, any one byte, a full time with its offset.
--
-- A strict reading refuses each number out of range where it stands; one that is not strict leaves most of them to what resolves the numbers.
use Rattle.std.specs.Prelude.{ℕ, ◌||◌, ◌&&◌, Bool, true, false, Option, Some, None, codes, nat_le, nat_lt, ◌==◌}
use Rattle.base.specs.Bytes.{hyphen, colon, dot, upper_z, lower_z}
use Rattle.parsing_combinator.specs.Fault.{literal, component}
use Rattle.parsing_combinator.specs.Pieces.{Piece, digits, fraction, byte, skip_of, any_byte, sign}
use Rattle.parsing_combinator.specs.Readings.{Reading, ◌or◌, ◌>>=◌, ◌>>◌, give, if_there, require, within}
use Rattle.parsing_combinator.specs.declared.zone.Zone.{Zone}
use Rattle.parsing_rfc3339.specs.declared.parts.Rfc3339Parts.{Rfc3339Parts}

-- `1985-04-12`; there is no month 00
unfoldable pub date : Bool → Reading (ℕ × ℕ × ℕ)
date is_strict = do
  year ← digits 4 or component (codes "year")
  byte hyphen or literal
  month ← digits 2 or component (codes "month")
  require (within is_strict 1 12 month && nat_lt 0 month) (component (codes "month"))
  byte hyphen or literal
  day ← digits 2 or component (codes "day")
  require (within is_strict 1 31 day) (component (codes "day"))
  give (year, month, day)

-- `23:20:50`
unfoldable pub clock : Bool → Reading (ℕ × ℕ × ℕ)
clock is_strict = do
  hour ← digits 2 or component (codes "hour")
  require (within is_strict 0 23 hour) (component (codes "hour"))
  byte colon or literal
  minute ← digits 2 or component (codes "minute")
  require (within is_strict 0 59 minute) (component (codes "minute"))
  byte colon or literal
  second ← digits 2 or component (codes "second")
  require (within is_strict 0 60 second) (component (codes "second"))
  give (hour, minute, second)

-- after a point at least one digit is due
unfoldable pub due_fraction : Reading (Option ℕ)
due_fraction = do
  nanosecond ← fraction or component (codes "subsecond")
  give (Some nanosecond)

-- `.52`, or nothing
unfoldable pub subsecond : Reading (Option ℕ)
subsecond = if_there (byte dot) (λ _. due_fraction) (give None)

-- `Z` or `z`
unfoldable pub zulu : Piece (Unit {0})
zulu = skip_of (λ c. (c == upper_z) || (c == lower_z))

-- a sign, hours of at most 23 and minutes, all under the sign
unfoldable pub signed_offset : Bool → Reading Zone
signed_offset is_strict = do
  s ← sign or component (codes "offset hour")
  hour ← digits 2 or component (codes "offset hour")
  require (nat_le hour 23) (component (codes "offset hour"))
  byte colon or literal
  minute ← digits 2 or component (codes "offset minute")
  require (within is_strict 0 59 minute) (component (codes "offset minute"))
  give (record { is_named = false; is_negative = s == hyphen; hours = hour; minutes = minute })

unfoldable pub offset : Bool → Reading Zone
offset is_strict = if_there zulu (λ _. give (record { is_named = true; is_negative = false; hours = 0; minutes = 0 })) (signed_offset is_strict)

-- `1985-04-12T23:20:50.52Z`
unfoldable pub rfc3339 : Bool → Reading Rfc3339Parts
rfc3339 is_strict = do
  d ← date is_strict
  any_byte or component (codes "separator")
  t ← clock is_strict
  n ← subsecond
  z ← offset is_strict
  give (record { year = d.0; month = d.1; day = d.2; hour = t.0; minute = t.1; second = t.2; subsecond = n; zone = z })
