use Rattle.std.proofs.Common.{take}
use Rattle.std.proofs.lemmas.List.{take_rest}
use Rattle.parsing_values.specs.Moment.{moment_of}
use Rattle.instants_prefixes.proofs.FastPrefix.{named_prefix}
use Rattle.instants_prefixes.proofs.fast_prefix.fast_prefix.Goals as goal

pub returns : goal.returns
returns c =
    let bytes = c.args.bytes.now in
    let count = c.in_ok-count.count in
    rw (take_rest bytes count) (named_prefix bytes count (moment_of c.in_ok-fields.fields) (c.two_roads_of_rfc3339.ensures (take count bytes)) c.in_ok-fields.ensures)
