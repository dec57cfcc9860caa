-- Seconds of Unix time, which has no leap seconds: days of 86,400 seconds from 1970-01-01 on.
use Rattle.std.specs.Prelude.{ℕ, ◌+◌, ◌-◌, ◌*◌, ℤ, pos, neg_ℤ, ◌≤ℤ◌, ◌<ℤ◌}
use Rattle.calendar_count.specs.Range.{last_count, unix_epoch}

abbrev pub day_seconds : ℕ
day_seconds = 86_400

-- from the first day's first second to the last day's last
abbrev pub IsUnixSecond : ℤ → Type 0
IsUnixSecond second = (neg_ℤ (pos (unix_epoch * day_seconds)) ≤ℤ second) × (second <ℤ pos ((last_count + 1 - unix_epoch) * day_seconds))
