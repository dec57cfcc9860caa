use Rattle.std.proofs.Common.{sym, ◌∙◌, arith}
use Rattle.std.proofs.lemmas.Bool.Decides.{nat_tests}
use Rattle.parsing_rfc2822.proofs.WordLemmas.{weekday_by_word}
use Rattle.parsing_rfc2822.proofs.names.weekday_of.Goals as goal

pub returns-in_default : goal.returns-in_default
returns-in_default c =
    sym (weekday_by_word c.args.text.now c.requires (λ k. omega (arith, c.type_inv.text k)) ∙ rw (← c.word.ensures) (grind (arith, nat_tests)))
