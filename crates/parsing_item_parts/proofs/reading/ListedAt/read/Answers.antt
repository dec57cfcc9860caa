use Rattle.std.proofs.Common.{arith}
use Rattle.std.proofs.lemmas.List.{nil_from_length}
use Rattle.parsing_layout.specs.Said.{fields_of}
use Rattle.parsing_strides.specs.Found.{values_in}
use Rattle.parsing_item_parts.specs.Listed.{IsWay, items_listed}
use Rattle.parsing_item_parts.proofs.SaidLemmas.{way_of}
use Rattle.parsing_item_parts.proofs.ReadingLemmas.{if_whole_named, items_named}
use Rattle.parsing_item_parts.proofs.reading.ListedAt.read.Goals as goal

pub returns : goal.returns
returns c =
    let l = c.args.self.now.listed.now in
    let read = c.in_ok-rest.ensures.says (items_listed l) l.made l.apart in
    let v = values_in c.read.new.found in
    let way : IsWay l (fields_of read.0) v = way_of l c.args.line.now v c.in_ok-rest.rest.now read.0 read.1 read.2 in
    let rest = c.in_ok-rest.rest.now in
    λ assumed assumes m defaults is start. if_whole_named m defaults c.args.line.now rest assumed c.fields.result (nil_from_length rest (omega (arith, c.if-rest-gt0.false))) start
    (items_named m (items_listed l) read.0 v assumed c.args.line.now rest c.fields.result is read.1 c.fields.ensures.range (c.fields.ensures.named (fields_of read.0) assumed way assumes))
