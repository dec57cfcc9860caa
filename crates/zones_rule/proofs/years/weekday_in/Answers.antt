use Rattle.std.proofs.Common.{rules, arith}
use Rattle.std.proofs.lemmas.Grind.{common_steps}
use Rattle.zones_rule.proofs.WeekLemmas.{weekday_words}
use Rattle.zones_rule.proofs.years.weekday_in.Goals as goal

pub returns-else-found-first_day_after-clause-words : goal.returns-else-found-first_day_after-clause-words
returns-else-found-first_day_after-clause-words c = weekday_words c.args.year c.args.month c.args.week c.args.weekday _ (omega arith) (first_of (search rules, grind (arith, common_steps)))
