use Rattle.std.proofs.Common.{w32, ap, ◌∙◌}
use Rattle.std.specs.Int.{from_le_bytes}
use Rattle.instants_found.proofs.SameYears.{same_year}
use Rattle.instants_found.proofs.kept_day.calls.is_same_year.Goals as goal

pub returns : goal.returns
returns c =
    let one = c.from_le_bytes.ensures ∙ ap (from_le_bytes w32) c.digits.ensures.digits in
    let other = c.from_le_bytes-2.ensures ∙ ap (from_le_bytes w32) c.digits-2.ensures.digits in
    same_year c.args.year c.args.other _ _ c.digits.ensures.bound c.digits-2.ensures.bound one other
