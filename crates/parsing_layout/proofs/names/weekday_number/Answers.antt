use Rattle.std.proofs.Common.{◌*◌, ◌/◌, ◌%◌, arith}
use Rattle.parsing_layout.proofs.NameLemmas.{weekday_in}
use Rattle.parsing_layout.proofs.names.weekday_number.Goals as goal

pub returns-clause-named : goal.returns-clause-named
returns-clause-named c = weekday_in (c.args.word * 124 % 4_294_967_296 / 536_870_912) c.args.word (omega arith) c.requires c.if-place-word.false
