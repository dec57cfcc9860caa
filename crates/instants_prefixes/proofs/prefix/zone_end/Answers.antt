use Rattle.std.proofs.Common.{◌≤◌, length, take, arith}
use Rattle.std.proofs.lemmas.List.{drop_all, length-take}
use Rattle.instants_edges.specs.Pieces.{zone_length}
use Rattle.instants_prefixes.proofs.prefix.zone_end.Goals as goal

pub returns-else-ends-written-clause-value : goal.returns-else-ends-written-clause-value
unfolding zone_length
returns-else-ends-written-clause-value c =
    let text = c.args.text.now in
    let long : length (take c.args.written text) ≤ c.args.ends = omega (arith, length-take c.args.written text) in
    rw (drop_all c.args.ends (take c.args.written text) long) (omega arith)
