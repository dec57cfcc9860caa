use Rattle.std.proofs.Common.{◌≡◌, ℕ, ◌+◌, drop, map, Some}
use Rattle.instants_prefixes.specs.Ends.{text_length}
use Rattle.instants_prefixes.proofs.ends.length_of_texts.Given as goal

abbrev pub invariant-loop-node : goal.invariant-loop-node
invariant-loop-node g l = (rest total : ℕ) → text_length (map g.N.Node.tree (drop l.node-index l.nodes)) ≡ Some rest → total ≡ l.long + rest → text_length (map g.N.Node.tree l.nodes) ≡ Some total
