use Rattle.std.proofs.Common.{Some}
use Rattle.instants_prefixes.specs.DateSource.{grammar_in}
use Rattle.instants_prefixes.proofs.PrefixesAt.{at_within}
use Rattle.instants_prefixes.proofs.date_source.DateSource.read.Goals as goal

pub returns-in-Some-clause-within : goal.returns-in-Some-clause-within
returns-in-Some-clause-within c = at_within c.args.given.now (grammar_in c.args.self.now) c.args.bytes.now (Some c.in-Some.prefix) c.in-Some.ensures
