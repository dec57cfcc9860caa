use Rattle.std.proofs.Common.{arith}
use Rattle.calendar_count.proofs.lemmas.Signed.{signed}
use Rattle.datetime_wall.specs.Wall.{instant}
use Rattle.datetime.proofs.LawLemmas.{shown_by}
use Rattle.datetime.proofs.laws.moment_at_difference.Goals as goal

pub returns : goal.returns
returns c = shown_by _ c.args.first.offset (instant c.args.other) _ c.checked_add.ensures.some c.checked_add.ensures.value (omega (arith, signed, c.sub.ensures))
