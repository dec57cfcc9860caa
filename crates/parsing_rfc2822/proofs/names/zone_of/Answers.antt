use Rattle.std.proofs.Common.{sym, ◌∙◌, arith}
use Rattle.std.proofs.lemmas.Bool.Decides.{nat_tests}
use Rattle.parsing_rfc2822.proofs.WordLemmas.{zone_by_word}
use Rattle.parsing_rfc2822.proofs.names.zone_of.Goals as goal

pub returns-in_default-clause-meaning : goal.returns-in_default-clause-meaning
returns-in_default-clause-meaning c =
    sym (zone_by_word c.args.text.now c.requires (λ k. omega (arith, c.type_inv.text k)) ∙ rw (← c.word.ensures) (grind (arith, nat_tests)))
