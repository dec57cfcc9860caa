use Rattle.std.proofs.Common.{Ok, ap, arith}
use Rattle.std.proofs.lemmas.Int.{ints}
use Rattle.parsing_values.proofs.OffsetMinutes.{offset_behind}
use Rattle.parsing_values.proofs.minutes.offset_minutes.Goals as goal

pub returns-then-is_negative-clause-value : goal.returns-then-is_negative-clause-value
returns-then-is_negative-clause-value c =
    rw (c.if-is_negative.true, offset_behind c.args.hours c.args.minutes c.requires.hours c.requires.minutes) (ap Ok (omega (arith, ints)))
