use Rattle.std.proofs.Common.{◌≡◌, ◌∙◌, arith, to_z, of_z, w32, w64}
use Rattle.std.proofs.lemmas.Int.{ints}
use Rattle.zones_rule.proofs.TransitionLemmas.{rule_follows}
use Rattle.zones_rule.proofs.rule.Rule.offset_at.Goals as goal

pub returns-clause-law : goal.returns-clause-law
returns-clause-law c order =
    let m : to_z w64 (of_z w64 c.args.moment) ≡ c.args.moment = omega (arith, ints) in
    let r : to_z w32 (of_z w32 c.offset_by_years.result) ≡ c.offset_by_years.result = omega (arith, ints) in
    rw (r ∙ simp m at c.offset_by_years.ensures) (rule_follows c.args.self.now.standard c.args.self.now.summer c.args.moment order)
