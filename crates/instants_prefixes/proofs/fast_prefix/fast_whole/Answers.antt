use Rattle.parsing_values.specs.Moment.{moment_of}
use Rattle.instants_prefixes.proofs.FastPrefix.{named_whole}
use Rattle.instants_prefixes.proofs.fast_prefix.fast_whole.Goals as goal

pub returns-clause-names : goal.returns-clause-names
returns-clause-names c = named_whole c.args.text.now (moment_of c.in-Some.fields) (c.two_roads_of_rfc3339.ensures c.args.text.now) c.in-Some.ensures
