-- Rfc2822Parts numbers that a record of components takes.
use Rattle.std.specs.Prelude.{◌≤◌, IfSome}
use Rattle.std.specs.Int.{IsInRange}
use Rattle.parsing_rfc2822.specs.declared.parts.Rfc2822Parts.{Rfc2822Parts}

pub record AreInRange (w : Rfc2822Parts) : Type 0 where
  pub day : IsInRange 1 31 w.day
  pub hour : w.hour ≤ 23
  pub minute : w.minute ≤ 59
  pub second : IfSome w.second (λ n. n ≤ 60)
  pub zone_hours : w.zone.hours ≤ 25
  pub zone_minutes : w.zone.minutes ≤ 59
