use Rattle.std.proofs.Common.{◌≡◌, ◌++◌, true, take, map}
use Rattle.description_items.specs.Forms.{are_of_text}
use Rattle.description_items.specs.Tree.{trees}
use Rattle.description_strftime.specs.Letters.{part_of}
use Rattle.description_strftime.proofs.items.push_composite.Given as goal

abbrev pub invariant-loop-byte : goal.invariant-loop-byte
invariant-loop-byte l = record { items : trees l.all.items ≡ trees l.fn.all.items ++ map part_of (take l.byte-index l.byte-items); form : are_of_text l.fn.all.items ≡ true → are_of_text l.all.items ≡ true }
