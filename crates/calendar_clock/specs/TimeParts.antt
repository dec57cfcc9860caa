-- A time of day gives its second of the day and its nanosecond of the second back.
use Rattle.std.proofs.Common.{◌≡◌, ℕ, ◌+◌, ◌*◌, ◌/◌, ◌%◌, ◌<◌, arith}
use Rattle.calendar_clock.specs.Time.{second_nanos}

pub second_of_parts : (second nanosecond : ℕ) → nanosecond < second_nanos → (second * second_nanos + nanosecond) / second_nanos ≡ second
second_of_parts second nanosecond h = omega arith

pub nanosecond_of_parts : (second nanosecond : ℕ) → nanosecond < second_nanos → (second * second_nanos + nanosecond) % second_nanos ≡ nanosecond
nanosecond_of_parts second nanosecond h = omega arith
