-- What the sources of lines read by.
use Rattle.std.specs.Prelude.{◌≡◌, ℕ, List, ⊤, true, false}
use Rattle.description.specs.Described.{has_tree}
use Rattle.description_lexer.specs.Fault.{Fault, fault_of}
use Rattle.description_lexer.specs.declared.description_fault.DescriptionFault.{DescriptionFault}
use Rattle.description_lexer.specs.declared.description_fault.DescriptionFault.TheVariants as refused
use Rattle.description_items.specs.Tree.{Tree}
use Rattle.description_grammar.specs.Faulty.{Faulty}
use Rattle.description_grammar.specs.Spelling.{Spells, SpellsTree}
use Rattle.description_strftime.specs.Faulty.{FaultyStrftime}
use Rattle.description_strftime.specs.Spelled.{SpellsStrftime}
use Rattle.description_lexer.specs.declared.version.DescriptionVersion.{DescriptionVersion}
use Rattle.description_lexer.specs.declared.version.DescriptionVersion.TheVariants.{One, Two, Three}
use Rattle.instants_words.specs.Sources.{SourceSaid}
use Rattle.instants_words.specs.Sources as said
pub use Rattle.instants_sources.specs.Written.{Written, Items, V3, written}
use Rattle.instants_sources.specs.declared.source.Source.{Source}
use Rattle.instants_sources.specs.declared.source.Source.TheVariants as source

pub data Grammar : Type 0 where
  Described : Written → Grammar
  Rfc2822 : Grammar
  Rfc3339 : Grammar
  Iso8601 : Grammar

-- the grammar of a source
abbrev pub grammar_of : Source → Grammar
grammar_of (source.Items described) = Described (written described.description)
grammar_of (source.V3 described) = Described (written described.description)
grammar_of source.Rfc2822 = Rfc2822
grammar_of source.Rfc3339 = Rfc3339
grammar_of source.Iso8601 = Iso8601

-- a source of items holds items, and one of version 3 a tree
abbrev pub HasItsForm : Source → Type 0
HasItsForm (source.Items described) = has_tree described.description ≡ false
HasItsForm (source.V3 described) = has_tree described.description ≡ true
HasItsForm _ = ⊤

-- a text of this version means this grammar: the items, or the tree, that it spells
abbrev pub SpellsIn : DescriptionVersion → List ℕ → Grammar → Type 0
SpellsIn One text grammar = (items : List Tree) × (grammar ≡ Described (Items items)) × Spells One text items
SpellsIn Two text grammar = (items : List Tree) × (grammar ≡ Described (Items items)) × Spells Two text items
SpellsIn Three text grammar = (tree : Tree) × (grammar ≡ Described (V3 tree)) × SpellsTree Three text tree

-- what is said of a source means this grammar: that which its description spells, or the well-known format
abbrev pub Means : SourceSaid → Grammar → Type 0
Means (said.V1 text) grammar = SpellsIn One text grammar
Means (said.V2 text) grammar = SpellsIn Two text grammar
Means (said.V3 text) grammar = SpellsIn Three text grammar
Means (said.Strftime text) grammar = (items : List Tree) × (grammar ≡ Described (Items items)) × SpellsStrftime text items
Means said.Rfc2822 grammar = grammar ≡ Rfc2822
Means said.Rfc3339 grammar = grammar ≡ Rfc3339
Means said.Iso8601 grammar = grammar ≡ Iso8601

-- what is said of a source is a description with this fault
abbrev pub IsFaulty : SourceSaid → Fault → Type 0
IsFaulty (said.V1 text) fault = Faulty One text fault
IsFaulty (said.V2 text) fault = Faulty Two text fault
IsFaulty (said.V3 text) fault = Faulty Three text fault
IsFaulty (said.Strftime text) fault = FaultyStrftime text fault
IsFaulty _ fault = ⊥

-- memory is taken for a description alone
abbrev pub TakesMemory : SourceSaid → Type 0
TakesMemory said.Rfc2822 = ⊥
TakesMemory said.Rfc3339 = ⊥
TakesMemory said.Iso8601 = ⊥
TakesMemory _ = ⊤

-- a refusal names the fault of what is said, or lack of memory
abbrev pub IsRefused : SourceSaid → DescriptionFault → Type 0
IsRefused said (refused.Description fault) = IsFaulty said (fault_of fault)
IsRefused said refused.Memory = TakesMemory said

-- the same of a text of this version
abbrev pub IsRefusedIn : DescriptionVersion → List ℕ → DescriptionFault → Type 0
IsRefusedIn version text (refused.Description fault) = Faulty version text (fault_of fault)
IsRefusedIn version text refused.Memory = ⊤
