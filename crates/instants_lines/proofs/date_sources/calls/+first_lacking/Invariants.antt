use Rattle.std.proofs.Common.{length}
use Rattle.instants_lines.proofs.date_sources.calls.+first_lacking.Given as goal

abbrev pub decreases-first_lacking : goal.decreases-first_lacking
decreases-first_lacking l = length l.sources.now
