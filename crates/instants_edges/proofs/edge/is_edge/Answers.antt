use Rattle.std.proofs.Common.{arith}
use Rattle.std.proofs.lemmas.Bool.Decides.{nat_tests}
use Rattle.instants_edges.proofs.Edges.{edge_is}
use Rattle.instants_edges.proofs.edge.is_edge.Goals as goal

pub returns-then-after-eq46 : goal.returns-then-after-eq46
returns-then-after-eq46 c = let edge = edge_is c.args.line.now c.args.place in grind (arith, nat_tests)

pub returns-then-is_ascii_alphanumeric : goal.returns-then-is_ascii_alphanumeric
returns-then-is_ascii_alphanumeric c = let edge = edge_is c.args.line.now c.args.place in grind (arith, nat_tests)

pub returns-then-before-ne46 : goal.returns-then-before-ne46
returns-then-before-ne46 c = let edge = edge_is c.args.line.now c.args.place in grind (arith, nat_tests)

pub returns : goal.returns
returns c = let edge = edge_is c.args.line.now c.args.place in grind (arith, nat_tests)
