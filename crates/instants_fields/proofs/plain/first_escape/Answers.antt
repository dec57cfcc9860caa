use Rattle.std.proofs.Common.{refl, sym}
use Rattle.instants_fields.proofs.PlainRuns.{free_position}
use Rattle.instants_fields.proofs.plain.first_escape.Goals as goal

pub returns-then-is_all_free : goal.returns-then-is_all_free
returns-then-is_all_free c = sym (free_position c.args.part.now _ refl (c.is_all_free.ensures c.if-is_all_free.true))
