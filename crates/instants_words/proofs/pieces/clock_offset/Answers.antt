use Rattle.std.proofs.Common.{rules}
use Rattle.calendar.specs.UtcOffset.{offset_of_seconds}
use Rattle.instants_words.proofs.pieces.clock_offset.Goals as goal

pub returns-in-43 : goal.returns-in-43
unfolding offset_of_seconds
returns-in-43 c = search rules

pub returns-in-45 : goal.returns-in-45
unfolding offset_of_seconds
returns-in-45 c = search rules
