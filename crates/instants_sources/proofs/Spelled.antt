-- A description that was read from a text is what the text spells, and has few nodes.
use Rattle.std.proofs.Common.{◌≡◌, ℕ, ◌+◌, ◌≤◌, List, length, refl, arith}
use Rattle.description_items.specs.Tree.{trees}
use Rattle.description_lexer.specs.Version.{is_three}
use Rattle.description_lexer.specs.declared.version.DescriptionVersion.{DescriptionVersion}
use Rattle.description_lexer.specs.declared.version.DescriptionVersion.TheVariants.{Three}
use Rattle.description_grammar.specs.Spelling.{SpellsTree}
use Rattle.description_tree.specs.Description.{v3_tree}
use Rattle.description.specs.Described.{described, has_tree}
use Rattle.description.specs.declared.described.Description.{Description}
use Rattle.description.specs.declared.described.Description.TheVariants as description
use Rattle.description.proofs.Nodes.{tree_nodes}
use Rattle.description.proofs.Few.{items_few}
use Rattle.instants_sources.specs.Grammar.{Described, SpellsIn, written}
use Rattle.instants_sources.specs.Written.{nodes_written}

pub spelled : (version : DescriptionVersion) (text : List ℕ) (d : Description) → has_tree d ≡ is_three version → SpellsTree version text (described d) → SpellsIn version text (Described (written d))
spelled Three text (description.V3 tree) form spells = (v3_tree tree, refl, spells)
spelled Three text (description.Items v) form spells = absurd cc
spelled version text (description.Items v) form spells = (trees v.items, refl, spells)
spelled version text (description.V3 tree) form spells = absurd cc

pub few : (version : DescriptionVersion) (text : List ℕ) (d : Description) → SpellsTree version text (described d) → nodes_written (written d) ≤ length text + 1
few version text (description.Items v) spells = omega (arith, items_few version text (trees v.items) spells)
few version text (description.V3 tree) spells = tree_nodes version text (v3_tree tree) spells
