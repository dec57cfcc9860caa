use Rattle.std.proofs.Common.{drop, arith}
use Rattle.std.proofs.lemmas.List.{drop_all}
use Rattle.parsing_item_parts.proofs.ReadingLemmas.{if_whole_named}
use Rattle.parsing_plan.proofs.places.Places.read_plain.Goals as goal

pub returns : goal.returns
returns c = λ assumed m defaults is start.
    let line = c.args.line.now in
    let size = c.args.self.now.plain_length in
    if_whole_named m defaults line (drop size line) assumed c.plain_fields.result (drop_all size line (omega (arith, c.if-line-self.false))) start (c.plain_fields.ensures m assumed is)
