-- What a call answers, beside the texts of strftime.
use Rattle.std.specs.Prelude.{◌≡◌, ◌⊎◌, List, Result, Ok, Err, ℕ}
use Rattle.std.specs.Global.{Vec}
use Rattle.description_lexer.specs.Fault.{Fault, fault_of}
use Rattle.description_lexer.specs.declared.description_fault.DescriptionFault.{DescriptionFault}
use Rattle.description_lexer.specs.declared.description_fault.DescriptionFault.TheVariants.{Description, Memory}
use Rattle.description_items.specs.declared.item.BorrowedFormatItem.{BorrowedFormatItem}
use Rattle.description_items.specs.Tree.{Tree, trees}
use Rattle.description_strftime.specs.Spelled.{SpellsStrftime}
use Rattle.description_strftime.specs.Faulty.{FaultyStrftime}

-- items that the text spells, or a fault that it has; of lack of memory nothing is said
abbrev pub IsOutcome : List ℕ → Result (Vec BorrowedFormatItem) DescriptionFault → Type 0
IsOutcome text (Ok items) = SpellsStrftime text (trees items.items)
IsOutcome text (Err (Description fault)) = FaultyStrftime text (fault_of fault)
IsOutcome text (Err Memory) = Unit {0}

-- a text spells one list of items or has one fault, and never both
pub record OneOutcome (text : List ℕ) : Type 0 where
  pub one : ((items : List Tree) × SpellsStrftime text items) ⊎ ((fault : Fault) × FaultyStrftime text fault)
  pub one_list : (a b : List Tree) → SpellsStrftime text a → SpellsStrftime text b → a ≡ b
  pub one_fault : (e f : Fault) → FaultyStrftime text e → FaultyStrftime text f → e ≡ f
  pub not_both : (a : List Tree) (e : Fault) → SpellsStrftime text a → FaultyStrftime text e → ⊥
