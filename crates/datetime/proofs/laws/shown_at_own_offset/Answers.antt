use Rattle.std.proofs.Common.{◌∙◌}
use Rattle.datetime_wall.proofs.lemmas.Shown.{shown_at-instant}
use Rattle.datetime.proofs.laws.shown_at_own_offset.Goals as goal

pub returns : goal.returns
returns c = c.checked_to_offset.ensures.value ∙ (rw c.offset.ensures.value (shown_at-instant c.args.moment c.offset.ensures.range))
