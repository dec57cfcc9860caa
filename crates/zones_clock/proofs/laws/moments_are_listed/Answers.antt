use Rattle.zones_clock.proofs.MomentLemmas.{answer_is, moments_listed}
use Rattle.zones_clock.proofs.laws.moments_are_listed.Goals as goal

pub returns-clause-listed : goal.returns-clause-listed
returns-clause-listed c = λ first reading steps. moments_listed first steps reading

pub returns-clause-answer : goal.returns-clause-answer
returns-clause-answer c = λ first reading steps. answer_is first steps reading
