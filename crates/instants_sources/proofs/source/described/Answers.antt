use Rattle.std.proofs.Common.{arith}
use Rattle.instants_sources.proofs.Spelled.{few, spelled}
use Rattle.instants_sources.proofs.source.described.Goals as goal

pub returns-clause-means : goal.returns-clause-means
returns-clause-means c = rw c.reading_by.ensures.grammar (spelled c.args.version c.args.text.now c.in_ok-description.description c.in_ok-description.ensures.form c.in_ok-description.ensures.outcome)

pub returns-clause-few : goal.returns-clause-few
returns-clause-few c = rw c.reading_by.ensures.grammar (omega (arith, few c.args.version c.args.text.now c.in_ok-description.description c.in_ok-description.ensures.outcome))
