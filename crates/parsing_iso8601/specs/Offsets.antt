-- An offset from UTC under the kind (ISO 8601-1:2019, 4.3.13).
use Rattle.std.specs.Prelude.{ℕ, ◌==◌, Bool, Some, None, nat_le, pos}
use Rattle.base.specs.Bytes.{hyphen, colon, upper_z}
use Rattle.parsing_combinator.specs.Pieces.{Piece, byte, digits, sign}
use Rattle.parsing_iso8601.specs.declared.kind.Kind.{Kind}
use Rattle.parsing_iso8601.specs.declared.written.WrittenOffset.{WrittenOffset}
use Rattle.parsing_iso8601.specs.AllOrNothing.{◌>>=◌, ◌>>◌, give, if_there, require}
use Rattle.parsing_iso8601.specs.Kinds.{by_kind}
use Rattle.parsing_iso8601.specs.Numbers.{signed}

-- `Z` is an offset of 0 hours, minutes and seconds
abbrev pub zulu : WrittenOffset
zulu = record { hour = pos 0; minute = pos 0; second = Some (pos 0) }

-- hours and minutes under one sign; seconds aren't written
abbrev pub offset_of : Bool → ℕ → ℕ → WrittenOffset
offset_of is_negative hour minute = record { hour = signed is_negative hour; minute = signed is_negative minute; second = None }

-- it may be missing
abbrev pub if_colon : Piece (Unit {0})
if_colon = if_there (byte colon) (λ _. give tt) (give tt)

-- a colon, which the basic kind has not
abbrev pub maybe_colon : Kind → Piece (Unit {0})
maybe_colon kind = by_kind kind if_colon (give tt) if_colon

-- two digits, or nothing
unfoldable pub offset_minute : Piece ℕ
offset_minute =
    if_there (digits 2)
    (λ minute. do
      require (nat_le minute 59)
      give minute)
    (give 0)

unfoldable pub signed_offset : Kind → Piece WrittenOffset
signed_offset kind = do
  mark ← sign
  hour ← digits 2
  require (nat_le hour 25)
  maybe_colon kind
  minute ← offset_minute
  give (offset_of (mark == hyphen) hour minute)

unfoldable pub offset : Kind → Piece WrittenOffset
offset kind = if_there (byte upper_z) (λ _. give zulu) (signed_offset kind)
