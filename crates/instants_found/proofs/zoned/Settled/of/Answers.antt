use Rattle.std.proofs.Common.{Some, drop}
use Rattle.instants_prefixes.specs.DateSource.{grammar_in}
use Rattle.instants_prefixes.specs.Reading.{record_at}
use Rattle.instants_found.specs.Zoned.{takes_offset}
use Rattle.instants_found.proofs.ZonedLemmas.{settled_within}
use Rattle.instants_found.proofs.zoned.Settled.of.Goals as goal

pub returns-then-not-is_usual-clause-within : goal.returns-then-not-is_usual-clause-within
returns-then-not-is_usual-clause-within c = λ b within.
    rw c.on_zone.ensures.is (settled_within b (Some c.in-Some.zone) c.args.given.now.offset (takes_offset (record_at (grammar_in c.args.source.now) (drop c.args.start c.args.line.now))) c.args.line.now c.args.start c.args.prefix within)
