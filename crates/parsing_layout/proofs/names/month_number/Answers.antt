use Rattle.std.proofs.Common.{◌*◌, ◌/◌, ◌%◌, refl, arith}
use Rattle.parsing_layout.proofs.NameLemmas.{month_in}
use Rattle.parsing_layout.proofs.names.month_number.Goals as goal

pub returns-clause-named : goal.returns-clause-named
returns-clause-named c = month_in (c.args.word * 284 % 4_294_967_296 / 268_435_456) c.args.word _ (omega arith) (omega arith) c.requires refl c.if-number-lt1.false c.if-number-gt12.false
