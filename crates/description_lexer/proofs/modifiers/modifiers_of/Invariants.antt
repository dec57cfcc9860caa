use Rattle.std.proofs.Common.{suc, length}
use Rattle.description_lexer.specs.Many.{many}
use Rattle.description_lexer.specs.Views.{rest_of, modifiers}
use Rattle.description_lexer.specs.Words.{no_modifier, modifier_at}
use Rattle.description_lexer.proofs.Many.{SoFar}
use Rattle.description_lexer.proofs.modifiers.modifiers_of.Given as goal

abbrev pub invariant-loop-rest : goal.invariant-loop-rest
invariant-loop-rest l = SoFar no_modifier modifier_at (many no_modifier modifier_at (suc (length l.here.text.now)) (rest_of l.here)) (modifiers l.all.items) (rest_of l.rest)

abbrev pub decreases-loop-rest : goal.decreases-loop-rest
decreases-loop-rest l = length l.rest.text.now
