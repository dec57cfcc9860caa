use Rattle.std.proofs.Common.{drop, arith}
use Rattle.std.proofs.lemmas.List.{drop_all}
use Rattle.parsing_item_parts.proofs.ReadingLemmas.{if_whole_named}
use Rattle.parsing_plan.proofs.read.WholePlaces.read.Goals as goal

pub returns : goal.returns
returns c = λ assumed assumes m defaults is start.
    let line = c.args.line.now in
    let size = c.args.self.now.places.now.front.shape.length in
    if_whole_named m defaults line (drop size line) assumed c.whole_fields.result (drop_all size line (omega arith)) start (c.whole_fields.ensures m assumed is assumes)
