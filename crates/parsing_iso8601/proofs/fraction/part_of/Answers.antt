use Rattle.std.proofs.Common.{◌-◌, arith, sym}
use Rattle.std.specs.Char.{is_ascii_digit}
use Rattle.std.proofs.lemmas.List.Sums.{prefix_len_passes}
use Rattle.parsing_combinator.proofs.Decimal.{digit_here}
use Rattle.parsing_iso8601.proofs.Carrying.{carried_next, part_of_all}
use Rattle.parsing_iso8601.proofs.fraction.part_of.Goals as goal

pub loop-place-init : goal.loop-place-init
loop-place-init c = (sym (part_of_all c.args.unit c.args.run.now), c.requires.some)

pub overflow_sub-run : goal.overflow_sub-run
overflow_sub-run c = (digit_here _ (prefix_len_passes is_ascii_digit c.args.run.now (c.loop-place.place - 1) 0 (omega (arith, c)))).0

pub loop-place-preserved : goal.loop-place-preserved
loop-place-preserved c =
    rw c.from.ensures (carried_next c.args.unit c.loop-place.carried c.args.run.now c.loop-place.place c.requires.all (omega (arith, c.loop-place-test.true)) (omega (arith, c.loop-place.auto.place)) c.loop-place.invariant.0 c.loop-place.invariant.1)
