-- What version 2 reads by a text of version 3.
use Rattle.std.specs.Prelude.{◌≡◌, ℕ, List, Option, Contains}
use Rattle.description_modifiers.specs.declared.ignore.Ignore.{Ignore}
use Rattle.description_items.specs.declared.component.Component.TheVariants as component
use Rattle.description_items.specs.Tree.{Tree, Part}
use Rattle.description_lexer.specs.declared.version.DescriptionVersion.TheVariants.{Two, Three}
use Rattle.description_grammar.specs.Spelling.{Spells, SpellsTree}
use Rattle.description_grammar.specs.Outcomes.{joined}
use Rattle.parsing_components.specs.declared.fields.Record.{Record}
use Rattle.parsing_record.specs.Whole.{whole, names, moment_named}
use Rattle.parsing.specs.Joined.{by_items, by_tree}

-- no item ignores bytes
abbrev pub IgnoresNothing : List Tree → Type 0
IgnoresNothing items = (m : Ignore) → ¬ Contains items (Part (component.Ignore m))

-- versions 3 and 2 accept the text, and read the same, from every record and input; so a line names one moment, or has one fault, whatever the defaults
pub record IsReadByBoth (text : List ℕ) (items : List Tree) : Type 0 where
  pub in_three : SpellsTree Three text (joined items)
  pub others : List Tree
  pub in_two : Spells Two text others
  pub same_reading : (r : Record) (bytes : List ℕ) → by_tree (joined items) r bytes ≡ by_items others r bytes
  pub same_moment : (defaults : Option Record) (line : List ℕ) → names moment_named (whole (by_tree (joined items)) defaults line) ≡ names moment_named (whole (by_items others) defaults line)
