-- Laws of date-times, over their definitions.
use Rattle.std.specs.Prelude.{◌≡◌, ℕ, ◌<◌, ◌*◌, ◌⊎◌, ℤ, pos, ◌*ℤ◌, ◌≤ℤ◌, Ok, List, [], ◌∷◌, ◌++◌, codes}
use Rattle.base.specs.Bytes.{dot, digit_zero}
use Rattle.calendar.specs.Time.{micro_nanos, milli_nanos, second_nanos, minute_nanos, hour_nanos, day_nanos, hour_at, minute_at, second_at, millisecond_at, microsecond_at, nanosecond_at, time_of, time_of_milli, time_of_micro}
use Rattle.datetime_wall.specs.Wall.{wall_clock, day_of, nanosecond_of, cut_to}

-- the units that wall clocks are cut to
abbrev pub IsUnit : ℕ → Type 0
IsUnit unit =
    (unit ≡ day_nanos) ⊎ ((unit ≡ hour_nanos) ⊎ ((unit ≡ minute_nanos) ⊎ ((unit ≡ second_nanos) ⊎ ((unit ≡ milli_nanos) ⊎ (unit ≡ micro_nanos)))))

-- the greatest whole number of units that is not after a wall clock; cut again it is itself
pub record IsCut (unit : ℕ) (wall cut : ℤ) : Type 0 where
  pub whole : (units : ℤ) × (cut ≡ units *ℤ pos unit)
  pub not_after : cut ≤ℤ wall
  pub greatest : (units : ℤ) → (units *ℤ pos unit) ≤ℤ wall → (units *ℤ pos unit) ≤ℤ cut
  pub again : cut_to unit cut ≡ cut

-- a time of day that shows these parts
pub record Shows (hour minute second nanosecond time : ℕ) : Type 0 where
  pub within : time < day_nanos
  pub hour_is : hour_at time ≡ hour
  pub minute_is : minute_at time ≡ minute
  pub second_is : second_at time ≡ second
  pub nanosecond_is : nanosecond_at time ≡ nanosecond

-- the times of day with given parts show them, and what is finer is zero
pub record TimesShowParts (hour minute second part time : ℕ) : Type 0 where
  pub nanoseconds : time_of hour minute second part ≡ Ok time → Shows hour minute second part time
  pub milliseconds : time_of_milli hour minute second part ≡ Ok time → Shows hour minute second (part * milli_nanos) time × (millisecond_at time ≡ part)
  pub microseconds : time_of_micro hour minute second part ≡ Ok time → Shows hour minute second (part * micro_nanos) time × (microsecond_at time ≡ part)

-- a wall clock shows its day and its time of day
pub record ShowsDay (day time : ℕ) : Type 0 where
  pub day_is : day_of (wall_clock day time) ≡ day
  pub time_is : nanosecond_of (wall_clock day time) ≡ time

-- a text with no zero at the end of a fraction, and no negative zero
pub record IsTidy (text : List ℕ) : Type 0 where
  pub no_zero_at_end : (prefix back : List ℕ) → ¬ (text ≡ prefix ++ dot ∷ (back ++ digit_zero ∷ []))
  pub no_negative_zero : ¬ (text ≡ codes "-0")
