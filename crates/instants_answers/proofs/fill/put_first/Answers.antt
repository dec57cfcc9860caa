use Rattle.std.proofs.Common.{arith}
use Rattle.instants_answers.proofs.FillLemmas.{first_of}
use Rattle.instants_answers.proofs.fill.put_first.Goals as goal

pub returns-clause-prefix : goal.returns-clause-prefix
returns-clause-prefix c = first_of c.args.at c.args.count c.args.room.now c.put.new.room c.args.bytes.now (omega (arith, c.requires.room)) c.requires.few c.put.ensures.prefix
