-- The times of day that an hour, a minute and a second name with another nanosecond.
use Rattle.std.proofs.Common.{◌≡◌, ℕ, ◌+◌, ◌<◌, ◌==◌, true, false, Ok, arith}
use Rattle.std.proofs.lemmas.Bool.Decides.{nat_tests}
use Rattle.calendar.specs.Time.{time_of}
use Rattle.parsing_values.specs.Resolution.{permitted_time_of, leap_time_of}

-- a leap second stands for the same time, whatever its nanosecond
pub same_leap : (h m s n k time : ℕ) → (s == 60) ≡ true → leap_time_of h m s n ≡ Ok time → leap_time_of h m s k ≡ Ok time
unfolding permitted_time_of
same_leap h m s n k time leap e = let stands = rw leap at e in rw leap stands

next_clock : (h m s n time : ℕ) → n < 999_999_999 → time_of h m s n ≡ Ok time → time_of h m s (n + 1) ≡ Ok (time + 1)
unfolding time_of
next_clock h m s n time less e = grind (arith, nat_tests)

-- the next nanosecond of the same second
pub next_time : (h m s n time : ℕ) → (s == 60) ≡ false → n < 999_999_999 → leap_time_of h m s n ≡ Ok time → leap_time_of h m s (n + 1) ≡ Ok (time + 1)
unfolding permitted_time_of
next_time h m s n time plain less e = let clock = rw plain at e in rw plain (next_clock h m s n time less clock)
