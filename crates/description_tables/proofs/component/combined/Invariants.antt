use Rattle.std.proofs.Common.{◌≡◌, drop}
use Rattle.description_lexer.specs.Views.{modifiers}
use Rattle.description_tables.specs.Component.{combined}
use Rattle.description_tables.proofs.component.combined.Given as goal

abbrev pub invariant-loop-one : goal.invariant-loop-one
invariant-loop-one l = combined l.version l.name l.chosen (modifiers (drop l.one-index l.all)) ≡ combined l.version l.name l.chosen (modifiers l.all)
