use Rattle.parsing_rfc3339.proofs.StrictLemmas.{prefix_in_range}
use Rattle.parsing_combinator.proofs.lemmas.Tame.{prefix_ends, prefix_short}
use Rattle.parsing_rfc3339.specs.Reading.{rfc3339}
use Rattle.parsing_rfc3339.proofs.TameLemmas.{rfc3339_tame}
use Rattle.parsing_rfc3339.proofs.reading.parse_prefix.Goals as goal

pub returns-clause-range : goal.returns-clause-range
returns-clause-range c = prefix_in_range c.args.is_strict c.parts.result c.args.bytes.now c.parts.ensures.gives

pub returns-clause-end : goal.returns-clause-end
returns-clause-end c = prefix_ends (λ w. w) c.parts.result c.args.bytes.now (rfc3339 c.args.is_strict c.args.bytes.now) c.parts.ensures.gives (rfc3339_tame c.args.is_strict c.args.bytes.now)

pub returns-clause-short_name : goal.returns-clause-short_name
returns-clause-short_name c = prefix_short (λ w. w) c.parts.result c.args.bytes.now (rfc3339 c.args.is_strict c.args.bytes.now) c.parts.ensures.gives (rfc3339_tame c.args.is_strict c.args.bytes.now)
