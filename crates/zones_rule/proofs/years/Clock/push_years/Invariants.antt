use Rattle.std.proofs.Common.{◌≡◌, ◌-◌, ◌++◌, Some}
use Rattle.zones_rule.specs.Years.{first_in}
use Rattle.zones_rule.specs.Transitions.{years_from, steps_by}
use Rattle.zones_rule.specs.Pushing.{steps_left, IsReady}
use Rattle.zones_rule.proofs.years.Clock.push_years.Given as goal

abbrev pub invariant-loop-year : goal.invariant-loop-year
invariant-loop-year l = record {
  first : l.zone.first ≡ l.fn.zone.first;
  first_name : l.zone.first_name ≡ l.fn.zone.first_name;
  letters : l.zone.letters.items ≡ l.fn.zone.letters.items;
  all : l.zone.steps.items ++ steps_left l.self l.names l.fn.moment l.pending (years_from l.self.standard l.self.summer l.year (10_000 - l.year)) ≡ l.fn.zone.steps.items ++ steps_by l.self.standard (Some l.self.summer) l.names l.fn.moment;
  ready : IsReady l.zone.steps.items l.fn.moment l.pending (first_in l.self.standard l.self.summer l.year).at;
}
