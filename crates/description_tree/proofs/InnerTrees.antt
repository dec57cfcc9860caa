-- A version 3 tree, level by level.
use Rattle.std.proofs.Common.{◌≡◌, rules, Vec, Box, Bool}
use Rattle.description_tree.specs.Forms.{is_read, are_read, is_owned, are_owned}
use Rattle.description_tree.specs.declared.inner.FormatDescriptionV3Inner.{FormatDescriptionV3Inner, OwnedCompound, OwnedOptional, OwnedFirst, the_lemmas}
use Rattle.description_items.specs.Tree.{Compound, Optional, First, listed}
use Rattle.description_tree.specs.Inner.{inner_tree, inner_trees}
use Rattle.std.specs.declared.alloc.Global.{Global}

pub tree-OwnedCompound : (v : Vec FormatDescriptionV3Inner Global) → inner_tree (OwnedCompound v) ≡ Compound (listed (inner_trees v.items))
tree-OwnedCompound v = search (rules, the_lemmas)

pub tree-OwnedFirst : (v : Vec FormatDescriptionV3Inner Global) → inner_tree (OwnedFirst v) ≡ First (listed (inner_trees v.items))
tree-OwnedFirst v = search (rules, the_lemmas)

pub tree-OwnedOptional : (b : Bool) (x : Box FormatDescriptionV3Inner Global) → inner_tree (OwnedOptional b x) ≡ Optional b (inner_tree x.value)
tree-OwnedOptional b x = search (rules, the_lemmas)

pub read-OwnedCompound : (v : Vec FormatDescriptionV3Inner Global) → is_read (OwnedCompound v) ≡ are_read v.items
read-OwnedCompound v = search (rules, the_lemmas)

pub read-OwnedFirst : (v : Vec FormatDescriptionV3Inner Global) → is_read (OwnedFirst v) ≡ are_read v.items
read-OwnedFirst v = search (rules, the_lemmas)

pub read-OwnedOptional : (b : Bool) (x : Box FormatDescriptionV3Inner Global) → is_read (OwnedOptional b x) ≡ is_read x.value
read-OwnedOptional b x = search (rules, the_lemmas)

pub owned-OwnedCompound : (v : Vec FormatDescriptionV3Inner Global) → is_owned (OwnedCompound v) ≡ are_owned v.items
owned-OwnedCompound v = search (rules, the_lemmas)

pub owned-OwnedFirst : (v : Vec FormatDescriptionV3Inner Global) → is_owned (OwnedFirst v) ≡ are_owned v.items
owned-OwnedFirst v = search (rules, the_lemmas)

pub owned-OwnedOptional : (b : Bool) (x : Box FormatDescriptionV3Inner Global) → is_owned (OwnedOptional b x) ≡ is_owned x.value
owned-OwnedOptional b x = search (rules, the_lemmas)
