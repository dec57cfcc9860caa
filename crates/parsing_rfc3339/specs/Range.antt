-- Rfc3339Parts numbers that a record of components takes.
use Rattle.std.specs.Prelude.{◌≤◌}
use Rattle.std.specs.Int.{IsInRange}
use Rattle.parsing_rfc3339.specs.declared.parts.Rfc3339Parts.{Rfc3339Parts}

pub record AreInRange (w : Rfc3339Parts) : Type 0 where
  pub month : IsInRange 1 12 w.month
  pub day : IsInRange 1 31 w.day
  pub hour : w.hour ≤ 23
  pub minute : w.minute ≤ 59
  pub second : w.second ≤ 60
  pub zone_hours : w.zone.hours ≤ 25
  pub zone_minutes : w.zone.minutes ≤ 59
