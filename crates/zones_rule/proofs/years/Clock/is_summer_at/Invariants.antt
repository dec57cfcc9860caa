use Rattle.std.proofs.Common.{◌≡◌, ◌-◌, false}
use Rattle.zones_rule.specs.Transitions.{years_from, all_years, is_summer_by}
use Rattle.zones_rule.proofs.years.Clock.is_summer_at.Given as goal

abbrev pub invariant-loop-year : goal.invariant-loop-year
invariant-loop-year l = is_summer_by l.is_summer (years_from l.self.standard l.self.summer l.year (10_000 - l.year)) l.fn.moment ≡ is_summer_by false (all_years l.self.standard l.self.summer) l.fn.moment
