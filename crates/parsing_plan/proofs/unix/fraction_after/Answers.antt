use Rattle.std.proofs.Common.{◌≡◌, ◌-◌, ◌∙◌, take, drop, length, sym, arith}
use Rattle.std.proofs.lemmas.List.{length-drop, take_all}
use Rattle.parsing_plan.proofs.Timestamps.{no_fraction_written, nine_written}
use Rattle.parsing_plan.proofs.unix.fraction_after.Goals as goal

pub returns-in-0-clause-writes : goal.returns-in-0-clause-writes
returns-in-0-clause-writes c = rw (c.new.ensures, c.in-0.is) (no_fraction_written (drop 10 c.args.line.now))

pub returns-in_default-clause-writes : goal.returns-in_default-clause-writes
returns-in_default-clause-writes c =
    let at : length c.args.line.now - c.args.finer ≡ 10 = omega arith in
    rw at at c.of_digits.ensures.writes

pub returns-else-not-is_empty-clause-writes : goal.returns-else-not-is_empty-clause-writes
returns-else-not-is_empty-clause-writes c =
    let long : 19 ≡ length c.args.line.now = rw c.in-9.is at c.requires.long in
    let text = drop 10 c.args.line.now in
    let same : take (length c.args.line.now - 10) text ≡ text = take_all _ text (omega (arith, length-drop 10 c.args.line.now)) in
    rw c.in-9.is (nine_written c.args.line.now _ c.in-Some.read.1.now c.in-Some.read.0 same long c.in-Some.ensures.fraction (sym c.is_empty.ensures ∙ c.if-not-is_empty.false))
