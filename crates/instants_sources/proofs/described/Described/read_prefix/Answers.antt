use Rattle.instants_sources.specs.Written.{reads_written, written}
use Rattle.instants_sources.proofs.described.Described.read_prefix.Goals as goal

pub returns-in-Some-clause-prefix : goal.returns-in-Some-clause-prefix
returns-in-Some-clause-prefix c =
    c.read_prefix.ensures.prefix (reads_written (written c.args.self.now.description)) c.in-Some.ensures
