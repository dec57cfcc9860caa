-- Offsets of hours and minutes within their range.
use Rattle.std.proofs.Common.{◌≡◌, ℕ, ◌≤◌, true, false, Ok, pos, neg_ℤ, ◌+ℤ◌, ◌*ℤ◌, ap, arith}
use Rattle.std.specs.Prelude.{nat_lt}
use Rattle.std.proofs.lemmas.Bool.Decides.{nat_tests}
use Rattle.calendar.specs.UtcOffset.{offset_of, offset_seconds}
use Rattle.parsing_values.specs.Resolution.{signed_offset_of}

not_above : (most n : ℕ) → n ≤ most → nat_lt most n ≡ false
not_above most n le = grind (arith, nat_tests)

seconds_ahead : (hours minutes : ℕ) → offset_seconds (pos hours) (pos minutes) (pos 0) ≡ pos 60 *ℤ (pos hours *ℤ pos 60 +ℤ pos minutes)
seconds_ahead hours minutes = grind (arith, nat_tests)

pub offset_ahead : (hours minutes : ℕ) → hours ≤ 25 → minutes ≤ 59 → signed_offset_of false hours minutes ≡ Ok (pos 60 *ℤ (pos hours *ℤ pos 60 +ℤ pos minutes))
unfolding signed_offset_of offset_of
offset_ahead hours minutes few_hours few_minutes =
    rw (not_above 25 hours few_hours, not_above 59 minutes few_minutes) (ap Ok (seconds_ahead hours minutes))

pub offset_behind : (hours minutes : ℕ) → hours ≤ 25 → minutes ≤ 59 → signed_offset_of true hours minutes ≡ Ok (pos 60 *ℤ neg_ℤ (pos hours *ℤ pos 60 +ℤ pos minutes))
unfolding signed_offset_of offset_of
offset_behind hours minutes few_hours few_minutes = grind (arith, nat_tests)
