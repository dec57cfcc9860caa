use Rattle.parsing_combinator.proofs.lemmas.Tame.{prefix_ends, prefix_short}
use Rattle.parsing_iso8601.specs.Reading.{iso8601}
use Rattle.parsing_iso8601.proofs.TameLemmas.{iso8601_tame}
use Rattle.parsing_iso8601.proofs.reading.parse_prefix.Goals as goal

pub returns-clause-end : goal.returns-clause-end
returns-clause-end c = prefix_ends (λ w. w) c.parts.result c.args.bytes.now (iso8601 c.args.bytes.now) c.parts.ensures.gives (iso8601_tame c.args.bytes.now)

pub returns-clause-short_name : goal.returns-clause-short_name
returns-clause-short_name c = prefix_short (λ w. w) c.parts.result c.args.bytes.now (iso8601 c.args.bytes.now) c.parts.ensures.gives (iso8601_tame c.args.bytes.now)
