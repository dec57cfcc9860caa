use Rattle.std.proofs.Common.{◌≡◌, int_le, rules}
use Rattle.std.proofs.lemmas.List.Sorted.{IsPartitionPoint-from_clause}
use Rattle.zones_clock.proofs.ClockLemmas.{begun_first, in_of}
use Rattle.zones_clock.proofs.zone.Zone.count_begun.Goals as goal

pub returns-clause-begun : goal.returns-clause-begun
returns-clause-begun c =
    let same : c.as_slice.result.now ≡ c.args.self.now.steps.items = search rules in
    let first = begun_first c.args.self.now.steps.items c.args.moment c.args.self.now.ordered in
    let point = IsPartitionPoint-from_clause (λ step. int_le step.from c.args.moment) _ _ c.partition_point.ensures.partitioned (rw same first) (λ a r q k. search rules) in
    in_of c.args.self.now.steps.items c.partition_point.result c.args.moment (rw same at point)
