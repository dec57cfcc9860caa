-- How far a clock may be ahead of UTC.
use Rattle.std.specs.Prelude.{ℕ, ℤ, pos, ◌<ℤ◌, ◌-ℤ◌, Option, Some, None}
use Rattle.zones_rule.specs.declared.rule.Summer.{Summer}
use Rattle.zones_rule.specs.declared.rule.Rule.{Rule}
use Rattle.zones_rule.specs.declared.years.Clock.{Clock}

-- less than so many, on either side of 0
pub record IsWithin (bound : ℕ) (value : ℤ) : Type 0 where
  pub low : (pos 0 -ℤ pos bound) <ℤ value
  pub high : value <ℤ pos bound

-- less than 26 hours
abbrev pub IsSummerOffset : Option Summer → Type 0
IsSummerOffset None = Unit {0}
IsSummerOffset (Some summer) = IsWithin 93_600 summer.offset

pub record AreClockOffsets (clock : Clock) : Type 0 where
  pub standard : IsWithin 93_600 clock.standard
  pub summer : IsWithin 93_600 clock.summer.offset

pub record AreOffsets (rule : Rule) : Type 0 where
  pub standard : IsWithin 93_600 rule.standard
  pub summer : IsSummerOffset rule.summer
