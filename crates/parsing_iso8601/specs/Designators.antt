-- The letters and marks of ISO 8601, as bytes.
use Rattle.std.specs.Prelude.{ℕ}

-- `T`, before a time of day
abbrev pub time_designator : ℕ
time_designator = 84

-- `W`, before a week
abbrev pub week_designator : ℕ
week_designator = 87

-- `,`, which stands for a decimal point
abbrev pub comma : ℕ
comma = 44
