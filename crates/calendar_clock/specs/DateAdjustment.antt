-- The day that a time of day leads to when it is moved: the one before, the same, or the one after.
use Rattle.std.specs.Prelude.{ℤ, pos, neg_ℤ}
use Rattle.calendar_clock.specs.declared.date_adjustment.DateAdjustment.{DateAdjustment}
use Rattle.calendar_clock.specs.declared.date_adjustment.DateAdjustment.TheVariants.{Previous, Next, None}

-- as days
abbrev pub carry : DateAdjustment → ℤ
carry Previous = neg_ℤ (pos 1)
carry Next = pos 1
carry None = pos 0
