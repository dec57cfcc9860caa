use Rattle.std.proofs.Common.{arith}
use Rattle.std.proofs.lemmas.List.{length-take-le}
use Rattle.instants_answers.proofs.answer.Answer.fill_line.Goals as goal

pub copy_from_slice-requires : goal.copy_from_slice-requires
copy_from_slice-requires c = omega (arith, c.self.invariant.size, length-take-le 64 c.args.room.now c.requires.room)
