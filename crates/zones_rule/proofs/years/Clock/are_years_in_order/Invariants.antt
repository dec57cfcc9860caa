use Rattle.std.proofs.Common.{◌≡◌, ◌-◌, true}
use Rattle.zones_rule.specs.Years.{second_in}
use Rattle.zones_rule.specs.Transitions.{years_in_order}
use Rattle.zones_rule.proofs.years.Clock.are_years_in_order.Given as goal

abbrev pub invariant-loop-year : goal.invariant-loop-year
invariant-loop-year l = record {
  last : l.last ≡ second_in l.self.standard l.self.summer l.year;
  before : years_in_order l.self.standard l.self.summer (l.year - 1) ≡ true;
}
