-- Texts that mean the same.
use Rattle.std.specs.Prelude.{ℕ, ◌↔◌, List}
use Rattle.description_items.specs.Tree.{Tree}
use Rattle.description_strftime.specs.Spelled.{SpellsStrftime}

-- both spell the same items, or neither spells any
abbrev pub SpellSame : List ℕ → List ℕ → Type 0
SpellSame s t = (items : List Tree) → SpellsStrftime s items ↔ SpellsStrftime t items
