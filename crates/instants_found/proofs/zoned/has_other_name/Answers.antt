use Rattle.std.proofs.Common.{◌≡◌, ◌∙◌, true, sym, refl, arith, to_z, of_z, w64}
use Rattle.std.proofs.lemmas.Int.{ints}
use Rattle.instants_edges.specs.Beside.{word_after}
use Rattle.instants_edges.specs.Edge.{is_edge}
use Rattle.instants_found.specs.Zoned.{has_name}
use Rattle.instants_found.proofs.zoned.has_other_name.Goals as goal

pub returns-then-is_edge : goal.returns-then-is_edge
returns-then-is_edge c =
    let line = c.args.line.now in
    let same : to_z w64 (of_z w64 c.args.moment) ≡ c.args.moment = omega (arith, ints) in
    let edge : is_edge line c.args.place ≡ true = sym c.is_edge.ensures ∙ c.if-is_edge.true in
    let name : c.has_name.result ≡ has_name c.args.zone.now (word_after line c.args.place) c.args.moment = rw same at c.has_name.ensures in
    rw (edge, name) refl
