use Rattle.std.proofs.Common.{Some}
use Rattle.parsing_layout.specs.Said.{fields_of}
use Rattle.parsing_strides.specs.Found.{values_in}
use Rattle.parsing_item_parts.specs.Listed.{IsWay, items_listed}
use Rattle.parsing_item_parts.proofs.SaidLemmas.{way_of}
use Rattle.parsing_item_parts.proofs.ReadingLemmas.{items_named}
use Rattle.parsing_item_parts.proofs.listed.Listed.read_prefix.Goals as goal

pub returns-clause-prefix : goal.returns-clause-prefix
returns-clause-prefix c =
    let l = c.args.self.now in
    let read = c.in_ok-rest.ensures.says (items_listed l) l.made l.apart in
    let v = values_in c.read.new.found in
    let way : IsWay l (fields_of read.0) v = way_of l c.args.line.now v c.in_ok-rest.rest.now read.0 read.1 read.2 in
    λ m is. items_named m (items_listed l) read.0 v c.args.assumed c.args.line.now c.in_ok-rest.rest.now
    (Some c.in_ok-fields.fields) is read.1 c.in_ok-fields.ensures.range (c.in_ok-fields.ensures.named (fields_of read.0) c.args.assumed way c.in_ok-minutes.ensures)
