-- Offsets from UTC, each its whole seconds, above 0 where local time is ahead of UTC.
use Rattle.std.specs.Prelude.{◌≡◌, ℕ, zero, suc, ◌/◌, ◌%◌, ◌≤◌, nat_lt, if◌then◌else◌, Result, Ok, Err, List, ◌∷◌, ◌++◌, ℤ, pos, negsuc, neg_ℤ, ◌+ℤ◌, ◌*ℤ◌, ◌≤ℤ◌, unsigned_abs, int_lt}
use Rattle.base.specs.Bytes.{plus, hyphen, colon}
use Rattle.calendar_count.specs.declared.component_range.ComponentName.TheVariants.{Hours, Minutes, Seconds}
use Rattle.calendar_count.specs.declared.component_range.ComponentRange.{ComponentRange}
use Rattle.calendar_count.specs.ComponentRange.{out_of_range}
use Rattle.calendar_count.specs.Digits.{two_digits}

-- 25:59:59
abbrev pub greatest_offset : ℕ
greatest_offset = 93_599

abbrev pub IsOffset : ℤ → Type 0
IsOffset offset = (neg_ℤ (pos greatest_offset) ≤ℤ offset) × (offset ≤ℤ pos greatest_offset)

-- hours and minutes of a clock write the offset: whole minutes within 23:59, as RFC 3339, section 5.6, has it
pub record IsClockOffset (offset : ℤ) : Type 0 where
  pub whole_minutes : unsigned_abs offset % 60 ≡ 0
  pub within_a_day : unsigned_abs offset ≤ 86_340

-- a finer part has the sign of the coarser one, unless that one is 0
abbrev pub with_sign_of : ℤ → ℤ → ℤ
with_sign_of (pos zero) finer = finer
with_sign_of (pos (suc _)) finer = pos (unsigned_abs finer)
with_sign_of (negsuc _) finer = neg_ℤ (pos (unsigned_abs finer))

-- the seconds of an offset of these parts
abbrev pub offset_seconds : ℤ → ℤ → ℤ → ℤ
offset_seconds hours minutes seconds =
    hours *ℤ pos 3600 +ℤ with_sign_of hours minutes *ℤ pos 60 +ℤ with_sign_of hours (with_sign_of minutes seconds)

-- the offset with these parts: the coarsest one that is out of range is refused
unfoldable pub offset_of : ℤ → ℤ → ℤ → Result ℤ ComponentRange
offset_of hours minutes seconds =
    if nat_lt 25 (unsigned_abs hours) then Err (out_of_range Hours)
    else (if nat_lt 59 (unsigned_abs minutes) then Err (out_of_range Minutes)
    else (if nat_lt 59 (unsigned_abs seconds) then Err (out_of_range Seconds)
    else Ok (offset_seconds hours minutes seconds)))

-- the offset of so many seconds
unfoldable pub offset_of_seconds : ℤ → Result ℤ ComponentRange
offset_of_seconds seconds =
    if nat_lt greatest_offset (unsigned_abs seconds) then Err (out_of_range Seconds) else Ok seconds

-- `+05:30:00`, `-00:00:01`
abbrev pub offset_text : ℤ → List ℕ
offset_text offset =
    let seconds = unsigned_abs offset in
    (if int_lt offset (pos 0) then hyphen else plus) ∷ two_digits (seconds / 3600) ++ colon ∷ two_digits (seconds / 60 % 60) ++ colon ∷ two_digits (seconds % 60)
