-- What a call answers for a text, and that each text has one outcome.
use Rattle.std.specs.Prelude.{◌≡◌, ℕ, List, Result, Ok, Err, ◌⊎◌}
use Rattle.description_lexer.specs.Fault.{Fault, fault_of}
use Rattle.description_lexer.specs.declared.description_fault.DescriptionFault.{DescriptionFault}
use Rattle.description_lexer.specs.declared.description_fault.DescriptionFault.TheVariants.{Description, Memory}
use Rattle.description_items.specs.Tree.{Tree, Compound, listed}
use Rattle.description_lexer.specs.declared.version.DescriptionVersion.{DescriptionVersion}
use Rattle.description_grammar.specs.Spelling.{Spells, SpellsTree}
use Rattle.description_grammar.specs.Faulty.{Faulty}

-- a text spells a tree or has a fault; it spells no two trees, has no two faults, and not both
pub record OneOutcome (v : DescriptionVersion) (text : List ℕ) : Type 0 where
  pub some : ((ts : List Tree) × Spells v text ts) ⊎ ((e : Fault) × Faulty v text e)
  pub one_tree : (a b : List Tree) → Spells v text a → Spells v text b → a ≡ b
  pub one_fault : (e f : Fault) → Faulty v text e → Faulty v text f → e ≡ f
  pub not_both : (a : List Tree) (e : Fault) → Spells v text a → Faulty v text e → ⊥

-- the answer is a value whose tree, seen by view, the text spells, or a fault that it has; of lack of memory nothing is said
abbrev pub Outcome : {X : Type 0} → (X → Tree) → DescriptionVersion → List ℕ → Result X DescriptionFault → Type 0
Outcome view v text (Ok x) = SpellsTree v text (view x)
Outcome view v text (Err Memory) = Unit {0}
Outcome view v text (Err (Description e)) = Faulty v text (fault_of e)

-- items, one after the other, as a tree
abbrev pub joined : List Tree → Tree
joined ts = Compound (listed ts)
