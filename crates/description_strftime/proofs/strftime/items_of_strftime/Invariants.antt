use Rattle.std.proofs.Common.{◌≡◌, true, length}
use Rattle.description_items.specs.Forms.{are_of_text}
use Rattle.description_items.specs.Tree.{trees}
use Rattle.description_lexer.specs.Views.{rest_of}
use Rattle.description_strftime.proofs.Parts.{Reads}
use Rattle.description_strftime.proofs.strftime.items_of_strftime.Given as goal

abbrev pub invariant-loop-rest : goal.invariant-loop-rest
invariant-loop-rest l = record { read : Reads l.text (trees l.all.items) (rest_of l.rest); form : are_of_text l.all.items ≡ true }

abbrev pub decreases-loop-rest : goal.decreases-loop-rest
decreases-loop-rest l = length l.rest.text.now
