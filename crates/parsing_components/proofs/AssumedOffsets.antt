-- The offset of a record that holds hours and minutes under one sign, or an assumed offset.
use Rattle.std.proofs.Common.{◌≡◌, ◌≤◌, ℕ, zero, suc, Bool, true, false, Some, None, Ok, refl, arith, pos, negsuc, ℤ}
use Rattle.std.specs.Prelude.{unsigned_abs, nat_lt, int_div, int_rem, ◌*ℤ◌, ◌+ℤ◌, ◌<ℤ◌, ◌≤ℤ◌}
use Rattle.std.proofs.lemmas.Bool.Decides.{nat_tests}
use Rattle.std.proofs.lemmas.Int.{ints}
use Rattle.calendar_count.proofs.lemmas.Signed.{signed, one_sided}
use Rattle.calendar.specs.UtcOffset.{offset_of, with_sign_of}
use Rattle.parsing_components.specs.Ranged.{under}
use Rattle.parsing_components.specs.Parts.{under_sign}
use Rattle.parsing_components.specs.Prefix.{beginning}
use Rattle.parsing_components.specs.Whole.{offset_named}
use Rattle.parsing_values.specs.NamedTime.{named_offset, seconds_after}
use Rattle.parsing_values.specs.Resolution.{signed_offset_of}

-- ---- written

pub sign_named : (b : Bool) (hours minutes : ℕ) (offset : ℤ) → signed_offset_of b hours minutes ≡ Ok offset → named_offset (record { hour = Some (under b hours); minute = under_sign b (Some (pos minutes)); second = under_sign b None }) ≡ Ok offset
unfolding named_offset seconds_after signed_offset_of
sign_named true hours minutes offset e = rw e refl
sign_named false hours minutes offset e = rw e refl

-- ---- assumed

no_sign : (z : ℤ) → with_sign_of z (pos 0) ≡ pos 0
no_sign (pos zero) = refl
no_sign (pos (suc n)) = refl
no_sign (negsuc n) = refl

same_sign : (h m : ℤ) → (pos 0 <ℤ h → pos 0 ≤ℤ m) → (h <ℤ pos 0 → m ≤ℤ pos 0) → with_sign_of h m ≡ m
same_sign (pos zero) m above below = refl
same_sign (pos (suc n)) m above below = let high : pos 0 ≤ℤ m = above (omega (arith, ints)) in omega (arith, ints)
same_sign (negsuc n) m above below = let low : m ≤ℤ pos 0 = below (omega (arith, ints)) in omega (arith, ints)

nested : (offset : ℤ) → int_div offset (pos 3600) ≡ int_div (int_div offset (pos 60)) (pos 60)
nested offset = omega (arith, signed, one_sided offset)

-- whole hours and the minutes past them are the whole minutes
whole_named : (whole : ℤ) → unsigned_abs whole ≤ 1559 → offset_of (int_div whole (pos 60)) (int_rem whole (pos 60)) (pos 0) ≡ Ok (pos 60 *ℤ whole)
unfolding offset_of
whole_named whole few =
    let hours : ℤ = int_div whole (pos 60) in
    let minutes : ℤ = int_rem whole (pos 60) in
    let few_hours : nat_lt 25 (unsigned_abs hours) ≡ false = grind (arith, nat_tests, signed, one_sided whole) in
    let few_minutes : nat_lt 59 (unsigned_abs minutes) ≡ false = grind (arith, nat_tests, signed, one_sided whole) in
    let same : with_sign_of hours minutes ≡ minutes = same_sign hours minutes (λ high. omega (arith, signed, one_sided whole, high)) (λ low. omega (arith, signed, one_sided whole, low)) in
    let sum : hours *ℤ pos 3600 +ℤ minutes *ℤ pos 60 +ℤ pos 0 ≡ pos 60 *ℤ whole = omega (arith, signed, one_sided whole) in
    rw (few_hours, few_minutes, no_sign minutes, no_sign hours, same, sum) refl

pub assumed_is : (offset whole : ℤ) → whole ≡ int_div offset (pos 60) → unsigned_abs whole ≤ 1559 → offset_named (beginning (Some offset)) ≡ Ok (pos 60 *ℤ whole)
unfolding named_offset seconds_after
assumed_is offset whole w few =
    let there : offset_of (int_div (int_div offset (pos 60)) (pos 60)) (int_rem (int_div offset (pos 60)) (pos 60)) (pos 0) ≡ Ok (pos 60 *ℤ whole) = rw (← w) (whole_named whole few) in
    rw (nested offset, there) refl
