-- What an item means, without where it lies in memory.
use Rattle.std.specs.Prelude.{ℕ, Bool, true, List, [], ◌∷◌, map}
use Rattle.description_items.specs.declared.component.Component.{Component}
use Rattle.description_items.specs.declared.item.BorrowedFormatItem.{BorrowedFormatItem}
use Rattle.description_items.specs.declared.item.BorrowedFormatItem.TheFolds.{fold-BorrowedFormatItem}
use Rattle.description_items.specs.declared.item.BorrowedFormatItem.TheOpen.{BorrowedFormatItem-F}

-- a literal is its bytes; whether an optional item is written matters to writing alone
mutual
  pub data Tree : Type 0 where
    Literal : List ℕ → Tree
    Part : Component → Tree
    Compound : Trees → Tree
    Optional : Bool → Tree → Tree
    First : Trees → Tree

  pub data Trees : Type 0 where
    none : Trees
    also : Tree → Trees → Trees

-- a list of trees as the children of one
abbrev pub listed : List Tree → Trees
listed [] = none
listed (t ∷ ts) = also t (listed ts)

-- one level, with the trees of the items inside
abbrev pub tree_step : BorrowedFormatItem-F Tree → Tree
tree_step (BorrowedFormatItem-F.Literal s) = Literal s.now
tree_step (BorrowedFormatItem-F.StringLiteral s) = Literal s.now
tree_step (BorrowedFormatItem-F.Component c) = Part c
tree_step (BorrowedFormatItem-F.Compound items) = Compound (listed items.now)
tree_step (BorrowedFormatItem-F.Optional item) = Optional true item.now
tree_step (BorrowedFormatItem-F.First items) = First (listed items.now)

abbrev pub tree_of : BorrowedFormatItem → Tree
tree_of = fold-BorrowedFormatItem Tree tree_step

-- the trees of a list of items
abbrev pub trees : List BorrowedFormatItem → List Tree
trees xs = map tree_of xs
