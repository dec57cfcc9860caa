use Rattle.std.proofs.Common.{rules}
use Rattle.std.proofs.lemmas.Slice.{overwrites}
use Rattle.instants_stream.proofs.put.put_whole.Goals as goal

pub returns-clause-after : goal.returns-clause-after
returns-clause-after c = search (rules, overwrites)
