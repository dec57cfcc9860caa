use Rattle.std.proofs.Common.{◌≡◌, drop}
use Rattle.description_lexer.specs.Views.{modifiers}
use Rattle.description_tables.specs.Chosen.{nothing}
use Rattle.description_tables.specs.Component.{with_modifiers}
use Rattle.description_tables.proofs.component.with_modifiers.Given as goal

abbrev pub invariant-loop-one : goal.invariant-loop-one
invariant-loop-one l = with_modifiers l.version l.name l.chosen (modifiers (drop l.one-index l.all)) ≡ with_modifiers l.version l.name nothing (modifiers l.all)
