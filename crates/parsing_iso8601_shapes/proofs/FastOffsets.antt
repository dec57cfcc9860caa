-- An offset that is all that is there.
use Rattle.std.proofs.Common.{◌≡◌, ℕ, ◌≤◌, ◌==◌, Bool, false, List, [], Option, Some, None, Ok, refl, ◌∙◌, ℤ}
use Rattle.std.specs.Option.{unwrap_or}
use Rattle.std.specs.Prelude.{pos, ◌*ℤ◌}
use Rattle.std.proofs.lemmas.Bool.{le-leb}
use Rattle.base.specs.Bytes.{hyphen, upper_z}
use Rattle.calendar.specs.UtcOffset.{offset_of}
use Rattle.parsing_combinator.specs.Pieces.{byte, digits, sign}
use Rattle.parsing_values.specs.Resolution.{signed_offset_of}
use Rattle.parsing_values.proofs.lemmas.Ranges.{offset_ranges}
use Rattle.parsing_iso8601.specs.Numbers.{signed}
use Rattle.parsing_iso8601.specs.Offsets as Offsets
use Rattle.parsing_iso8601.specs.Offsets.{maybe_colon, offset_minute, signed_offset, offset, zulu}
use Rattle.parsing_iso8601.specs.declared.kind.Kind.{Kind}
use Rattle.parsing_iso8601.specs.declared.written.WrittenOffset.{WrittenOffset}
use Rattle.std.proofs.Common.{arith}
use Rattle.std.proofs.lemmas.Bool.Decides.{nat_tests}

pub signed_there : (kind : Kind) (bytes b1 b2 b3 : List ℕ) (mark hour minute : ℕ) → sign bytes ≡ Some (mark, b1) → digits 2 b1 ≡ Some (hour, b2) → hour ≤ 25 → maybe_colon kind b2 ≡ Some (tt, b3) → offset_minute b3 ≡ Some (minute, []) → signed_offset kind bytes ≡ Some (Offsets.offset_of (mark == hyphen) hour minute, [])
unfolding signed_offset
signed_there kind bytes b1 b2 b3 mark hour minute e0 e1 few e2 e3 = rw (e0, e1, le-leb hour 25 few, e2, e3) refl

pub seconds_of : (is_negative : Bool) (hour minute : ℕ) → offset_of (signed is_negative hour) (signed is_negative minute) (pos 0) ≡ signed_offset_of is_negative hour minute
unfolding signed_offset_of
seconds_of is_negative hour minute = grind (arith, nat_tests)

-- an offset is all that was there, and these are its minutes
abbrev pub IsAllOffset : Option (WrittenOffset × List ℕ) → ℤ → Type 0
IsAllOffset read minutes =
    (o : WrittenOffset) × (read ≡ Some (o, [])) × (offset_of o.hour o.minute (unwrap_or o.second (pos 0)) ≡ Ok (pos 60 *ℤ minutes))

pub minute_there : (bytes : List ℕ) (minute : ℕ) → digits 2 bytes ≡ Some (minute, []) → minute ≤ 59 → offset_minute bytes ≡ Some (minute, [])
unfolding offset_minute
minute_there bytes minute e few = rw (e, le-leb minute 59 few) refl

-- one with a sign
pub offset_read : (kind : Kind) (bytes b1 b2 b3 : List ℕ) (mark hour minute : ℕ) (m : ℤ) → byte upper_z bytes ≡ None → sign bytes ≡ Some (mark, b1) → digits 2 b1 ≡ Some (hour, b2) → maybe_colon kind b2 ≡ Some (tt, b3) → digits 2 b3 ≡ Some (minute, []) → signed_offset_of (mark == hyphen) hour minute ≡ Ok (pos 60 *ℤ m) → IsAllOffset (offset kind bytes) m
unfolding offset
offset_read kind bytes b1 b2 b3 mark hour minute m other e0 e1 e2 e3 value =
    let few = offset_ranges (mark == hyphen) hour minute (pos 60 *ℤ m) value in
    let read : offset kind bytes ≡ Some (Offsets.offset_of (mark == hyphen) hour minute, []) = rw other (signed_there kind bytes b1 b2 b3 mark hour minute e0 e1 few.hours e2 (minute_there b3 minute e3 few.minutes)) in
    (Offsets.offset_of (mark == hyphen) hour minute, read, seconds_of (mark == hyphen) hour minute ∙ value)

pub zulu_read : (kind : Kind) (bytes : List ℕ) (m : ℤ) → byte upper_z bytes ≡ Some (tt, []) → signed_offset_of false 0 0 ≡ Ok (pos 60 *ℤ m) → IsAllOffset (offset kind bytes) m
unfolding offset
zulu_read kind bytes m e value = (zulu, rw e refl, seconds_of false 0 0 ∙ value)
