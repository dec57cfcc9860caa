-- Days of one weekday after and before a day.
use Rattle.std.specs.Prelude.{◌≡◌, ℕ, ◌+◌, ◌==◌, ◌<◌}
use Rattle.calendar_count.specs.Range.{IsCount}
use Rattle.calendar_count.specs.Calendar.{weekday_at, count_before}

-- how many of the first n days are that weekday
unfoldable pub weekdays_before : ℕ → ℕ → ℕ
weekdays_before w n = count_before (λ k. weekday_at k == w) n

-- the second day is the nth of that weekday strictly after the first: it is one, and with it n have come since
pub record IsNthAfter (w n first second : ℕ) : Type 0 where
  pub later : first < second
  pub weekday : weekday_at second ≡ w
  pub nth : weekdays_before w (second + 1) ≡ weekdays_before w (first + 1) + n

-- the second day is the nth of that weekday strictly before the first
pub record IsNthBefore (w n first second : ℕ) : Type 0 where
  pub earlier : second < first
  pub weekday : weekday_at second ≡ w
  pub nth : weekdays_before w first ≡ weekdays_before w second + n

-- there is such a day
abbrev pub HasNthAfter : ℕ → ℕ → ℕ → Type 0
HasNthAfter w n first = (second : ℕ) × IsCount second × IsNthAfter w n first second

abbrev pub HasNthBefore : ℕ → ℕ → ℕ → Type 0
HasNthBefore w n first = (second : ℕ) × IsCount second × IsNthBefore w n first second
