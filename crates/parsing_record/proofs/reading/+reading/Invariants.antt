use Rattle.std.proofs.Common.{◌≡◌, ℕ, ◌+◌, ◌*◌, map}
use Rattle.std.specs.Prelude.{option_map}
use Rattle.description_items.specs.Tree.{listed}
use Rattle.parsing_combinator.specs.FaultOf.{reading_fault}
use Rattle.parsing_components.specs.Meaning.{first_of}
use Rattle.parsing_components.specs.Reads.{reading_of_all, each_reads, tried_in_all}
use Rattle.parsing_components.proofs.lemmas.Sizes.{size, size_all}
use Rattle.parsing_record.proofs.lemmas.Steps.{from, still}
use Rattle.parsing_record.proofs.reading.+reading.Given as goal

abbrev pub invariant-read_first-loop-node : goal.invariant-read_first-loop-node
invariant-read_first-loop-node g l =
    ((first_of (each_reads g.N.Node.language (from g.N.Node.tree l.fn.nodes 0)) l.fn.parsed l.fn.input).0 ≡ (still (option_map reading_fault l.fault) (each_reads g.N.Node.language (from g.N.Node.tree l.nodes l.node-index)) l.fn.parsed l.input).0)
    × (l.parsed ≡ l.fn.parsed) × (l.before ≡ l.fn.parsed)
    × (n : ℕ) × g.T.Tally.grows l.fn.tally l.tally n × ((first_of (each_reads g.N.Node.language (from g.N.Node.tree l.fn.nodes 0)) l.fn.parsed l.fn.input).1 ≡ n + (still (option_map reading_fault l.fault) (each_reads g.N.Node.language (from g.N.Node.tree l.nodes l.node-index)) l.fn.parsed l.input).1)

abbrev pub invariant-read_nodes-loop-node : goal.invariant-read_nodes-loop-node
invariant-read_nodes-loop-node g l =
    (reading_of_all g.N.Node.language (from g.N.Node.tree l.fn.nodes 0) l.fn.parsed l.fn.input ≡ reading_of_all g.N.Node.language (from g.N.Node.tree l.nodes l.node-index) l.parsed l.rest)
    × (n : ℕ) × g.T.Tally.grows l.fn.tally l.tally n × (tried_in_all g.N.Node.language (from g.N.Node.tree l.fn.nodes 0) l.fn.parsed l.fn.input ≡ n + tried_in_all g.N.Node.language (from g.N.Node.tree l.nodes l.node-index) l.parsed l.rest)

abbrev pub decreases-read_node : goal.decreases-read_node
decreases-read_node g l = 3 * size (g.N.Node.tree l.node.now)

abbrev pub decreases-read_one : goal.decreases-read_one
decreases-read_one g l = 3 * size (g.N.Node.tree l.node.now) + 1

abbrev pub decreases-read_optional : goal.decreases-read_optional
decreases-read_optional g l = 3 * size (g.N.Node.tree l.node.now) + 1

abbrev pub decreases-read_nodes : goal.decreases-read_nodes
decreases-read_nodes g l = 3 * size_all (listed (map g.N.Node.tree l.nodes.now)) + 2

abbrev pub decreases-read_first : goal.decreases-read_first
decreases-read_first g l = 3 * size_all (listed (map g.N.Node.tree l.nodes.now)) + 1
