use Rattle.std.proofs.Common.{◌≡◌, suc, length, false, true}
use Rattle.description_items.specs.Forms.{are_of_text}
use Rattle.description_items.specs.Tree.{trees}
use Rattle.description_lexer.specs.Text.{whole}
use Rattle.description_lexer.specs.Views.{rest_of}
use Rattle.description_lexer.specs.Many.{many}
use Rattle.description_lexer.proofs.Many.{SoFar}
use Rattle.description_grammar.specs.Reading.{is_end, element_at, nested_at}
use Rattle.description_grammar.proofs.flat.items_of.Given as goal

abbrev pub invariant-loop-rest : goal.invariant-loop-rest
invariant-loop-rest l = record { read : SoFar (is_end false) (element_at l.version (nested_at l.version 127)) (many (is_end false) (element_at l.version (nested_at l.version 127)) (suc (length l.text)) (whole l.text)) (trees l.all.items) (rest_of l.rest); form : are_of_text l.all.items ≡ true }

abbrev pub decreases-loop-rest : goal.decreases-loop-rest
decreases-loop-rest l = length l.rest.text.now
