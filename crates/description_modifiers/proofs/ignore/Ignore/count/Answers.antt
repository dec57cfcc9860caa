use Rattle.description_modifiers.proofs.Ignoring.{ignored_is}
use Rattle.description_modifiers.proofs.ignore.Ignore.count.Goals as goal

pub returns-else-count-eq0-clause-value : goal.returns-else-count-eq0-clause-value
returns-else-count-eq0-clause-value c = ignored_is _
