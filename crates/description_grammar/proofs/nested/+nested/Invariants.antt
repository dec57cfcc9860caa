use Rattle.std.proofs.Common.{◌≡◌, ◌+◌, ◌*◌, true, suc, length}
use Rattle.description_lexer.specs.Views.{rest_of}
use Rattle.description_lexer.specs.Many.{many}
use Rattle.description_tree.specs.Forms.{are_read}
use Rattle.description_tree.specs.Inner.{inner_trees}
use Rattle.description_lexer.proofs.Many.{SoFar}
use Rattle.description_grammar.specs.Reading.{is_end, no_bracket, element_at, nested_at}
use Rattle.description_grammar.proofs.nested.+nested.Given as goal

abbrev pub decreases-nested : goal.decreases-nested
decreases-nested l = 5 * l.levels

abbrev pub decreases-alternatives : goal.decreases-alternatives
decreases-alternatives l = 5 * l.levels + 1

abbrev pub decreases-optional : goal.decreases-optional
decreases-optional l = 5 * l.levels + 2

abbrev pub decreases-first : goal.decreases-first
decreases-first l = 5 * l.levels + 2

abbrev pub decreases-element : goal.decreases-element
decreases-element l = 5 * l.levels + 3

abbrev pub decreases-items : goal.decreases-items
decreases-items l = 5 * l.levels + 4

abbrev pub invariant-alternatives-others : goal.invariant-alternatives-others
invariant-alternatives-others l = record { read : SoFar no_bracket (nested_at l.version l.levels) (many no_bracket (nested_at l.version l.levels) (suc (length l.here.text.now)) (rest_of l.here)) (inner_trees l.all.items) (rest_of l.rest); form : are_read l.all.items ≡ true }

abbrev pub decreases-alternatives-others : goal.decreases-alternatives-others
decreases-alternatives-others l = length l.rest.text.now

abbrev pub invariant-items-items : goal.invariant-items-items
invariant-items-items l = record { read : SoFar (is_end l.inner) (element_at l.version (nested_at l.version l.levels)) (many (is_end l.inner) (element_at l.version (nested_at l.version l.levels)) (suc (length l.here.text.now)) (rest_of l.here)) (inner_trees l.all.items) (rest_of l.rest); form : are_read l.all.items ≡ true }

abbrev pub decreases-items-items : goal.decreases-items-items
decreases-items-items l = length l.rest.text.now
