-- The text of a date, as ISO 8601 writes it, with more digits of the year from 10000 on.
use Rattle.std.specs.Prelude.{ℕ, suc, ◌/◌, ◌%◌, nat_lt, if◌then◌else◌, List, ◌∷◌, ◌++◌, ℤ, pos, negsuc}
use Rattle.std.specs.Fmt.{decimal}
use Rattle.base.specs.Bytes.{plus, hyphen}
use Rattle.calendar_count.specs.Calendar.{YearMonthDay, day_at}
use Rattle.calendar_count.specs.Digits.{two_digits}

-- the digits of a number below ten thousand
abbrev pub four_digits : ℕ → List ℕ
four_digits n = two_digits (n / 100) ++ two_digits (n % 100)

-- four digits, or all where there are more
abbrev pub year_digits : ℕ → List ℕ
year_digits n = if nat_lt n 10_000 then four_digits n else decimal n

-- a sign where the year is negative or has more than four digits
abbrev pub year_text : ℤ → List ℕ
year_text (pos n) = if nat_lt n 10_000 then four_digits n else plus ∷ decimal n
year_text (negsuc n) = hyphen ∷ year_digits (suc n)

abbrev pub day_text : YearMonthDay → List ℕ
day_text t = year_text t.year ++ hyphen ∷ two_digits t.month ++ hyphen ∷ two_digits t.day

-- `2024-06-19`, `-0044-03-15`, `+10000-01-01`
abbrev pub date_text : ℕ → List ℕ
date_text n = day_text (day_at n)
