use Rattle.std.proofs.Common.{sym, map, arith}
use Rattle.std.proofs.lemmas.List.{length-take-le, length-map}
use Rattle.instants_prefixes.proofs.Extents.{first_within, written_within, reading_again}
use Rattle.instants_prefixes.proofs.extent.by_reading.Goals as goal

pub slice_bounds-length_read-end : goal.slice_bounds-length_read-end
slice_bounds-length_read-end g c =
    let nodes = c.args.nodes.now in
    sym (length-take-le c.args.ends.now.first nodes (omega (arith, first_within (map g.N.Node.tree nodes) c.args.ends.now c.requires, length-map nodes g.N.Node.tree)))

pub slice_bounds-length_read-end-3 : goal.slice_bounds-length_read-end-3
slice_bounds-length_read-end-3 g c =
    let nodes = c.args.nodes.now in
    sym (length-take-le c.args.ends.now.written nodes (omega (arith, written_within (map g.N.Node.tree nodes) c.args.ends.now c.requires, length-map nodes g.N.Node.tree)))

pub returns : goal.returns
returns g c = rw (c.length_read.ensures, c.length_read-2.ensures, c.length_read-3.ensures) (reading_again g.N.Node.language g.N.Node.tree c.args.nodes.now c.args.ends.now c.args.text.now c.requires)
