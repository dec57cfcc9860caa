use Rattle.instants_lines.proofs.Keys.{keys_compare, keys_equal}
use Rattle.instants_lines.proofs.laws.order_of_keys.Goals as goal

pub returns : goal.returns
returns c = record {
  order = λ one other date another e h k. (keys_compare one other date another e h k).gives;
  equality = keys_equal;
}
