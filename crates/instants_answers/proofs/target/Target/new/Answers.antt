use Rattle.std.proofs.Common.{arith, to_z, of_z, w32}
use Rattle.instants_answers.proofs.TargetLemmas.{text_small}
use Rattle.instants_answers.proofs.target.Target.new.Goals as goal

pub bounds-ended_text-len : goal.bounds-ended_text-len
bounds-ended_text-len c = omega (arith, c.offset_text-len.ensures.len, text_small (to_z w32 (of_z w32 c.whole_seconds.result)))
