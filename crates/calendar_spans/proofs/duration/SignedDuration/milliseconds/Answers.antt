use Rattle.std.proofs.Common.{arith, pos}
use Rattle.std.proofs.lemmas.Int.{quot-rem}
use Rattle.calendar_count.proofs.lemmas.Signed.{signed, one_sided}
use Rattle.calendar_spans.proofs.UnitLemmas.{parts_of_sign}
use Rattle.calendar_spans.proofs.duration.SignedDuration.milliseconds.Goals as goal

pub one_signed-requires : goal.one_signed-requires
one_signed-requires c = parts_of_sign c.args.milliseconds _ _ (omega (arith, signed, one_sided c.args.milliseconds)) (omega (arith, signed, one_sided c.args.milliseconds)) (λ above. (omega (arith, signed), omega (arith, signed))) (λ below. (omega (arith, signed), omega (arith, signed)))

pub returns : goal.returns
returns c = record { value = omega (arith, signed, quot-rem c.args.milliseconds (pos 1000), one_sided c.args.milliseconds) }
