use Rattle.std.proofs.Common.{◌≡◌, to_z, of_z, w32, to_z-of_z}
use Rattle.parsing_values.proofs.ConstructorLemmas.{ordinal_result}
use Rattle.parsing_values.proofs.named_day.ordinal_date.Goals as goal

pub returns : goal.returns
returns c =
    let back : to_z w32 (of_z w32 c.args.year) ≡ c.args.year = to_z-of_z c.ranges.year in
    let e = c.from_ordinal_date.ensures in
    ordinal_result c.args.year c.args.ordinal c.from_ordinal_date.result (rw back at e.succeeds) (rw back at e.value) e.bound (rw back at e.err)
