-- The ends of months.
use Rattle.std.specs.Prelude.{ℕ, ◌+◌, ◌==◌, Bool}
use Rattle.calendar.specs.Calendar.{day_at}

-- whether the day after a day, by its count, begins a month
unfoldable pub ends_month : ℕ → Bool
ends_month count = (day_at (count + 1)).day == 1
