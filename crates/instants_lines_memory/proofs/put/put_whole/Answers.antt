use Rattle.std.proofs.Common.{◌≡◌, ◌+◌, ◌++◌, length, take, drop, refl, arith, rules}
use Rattle.std.proofs.lemmas.Slice.{overwrites}
use Rattle.instants_lines_memory.proofs.put.put_whole.Goals as goal

pub returns : goal.returns
returns c = record {
  end_is = refl;
  within = c.requires;
  prefix = search (rules, overwrites);
  rest = search (rules, overwrites);
  size = search (rules, overwrites);
}
