-- What a tree of items reads.
use Rattle.std.specs.Prelude.{ℕ, List, [], ◌∷◌}
use Rattle.description_items.specs.declared.component.Component.{Component}
use Rattle.description_items.specs.Tree.{Tree, Trees, Literal, Part, Compound, Optional, First, none, also}
use Rattle.parsing_combinator.specs.Readings.{Reading}
use Rattle.parsing_components.specs.declared.said.Read.{Read}
use Rattle.parsing_components.specs.declared.fields.Record.{Record}
use Rattle.parsing_components.specs.Meaning.{Meaning, Counted, meaning, alone, more, literally, unchanged, all_of, optionally, first_of}
pub use Rattle.parsing_components.specs.Put.{putting}

-- what a component reads in the versions before 3 and in strftime, and in version 3
abbrev pub Language : Type 0
Language = Component → Reading Read

-- an item is begun, and then what is inside it
abbrev pub begun : Counted → Counted
begun c r bytes = more 1 (c r bytes)

unfoldable mutual
  pub reads : Language → Tree → Counted
  reads language (Literal text) = alone (unchanged (literally text))
  reads language (Part c) = alone (putting (language c))
  reads language (Compound ts) = begun (all_of (each_reads language ts))
  reads language (Optional format t) = begun (optionally (reads language t))
  reads language (First ts) = begun (first_of (each_reads language ts))

  pub each_reads : Language → Trees → List Counted
  each_reads language none = []
  each_reads language (also t ts) = reads language t ∷ each_reads language ts

-- the reading of a tree, and of trees one after the other
abbrev pub reading : Language → Tree → Meaning
reading language t = meaning (reads language t)

abbrev pub reading_of_all : Language → Trees → Meaning
reading_of_all language ts = meaning (all_of (each_reads language ts))

-- how many items are begun in it, the item itself among them
abbrev pub tried : Language → Tree → Record → List ℕ → ℕ
tried language t r bytes = (reads language t r bytes).1

abbrev pub tried_in_all : Language → Trees → Record → List ℕ → ℕ
tried_in_all language ts r bytes = (all_of (each_reads language ts) r bytes).1
