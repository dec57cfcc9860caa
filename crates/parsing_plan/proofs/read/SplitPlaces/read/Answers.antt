use Rattle.std.proofs.Common.{length, drop, arith}
use Rattle.std.proofs.lemmas.List.{drop_all}
use Rattle.parsing_item_parts.proofs.ReadingLemmas.{if_whole_named}
use Rattle.parsing_plan.proofs.PlaceLemmas.{number_beside}
use Rattle.parsing_plan.proofs.SplitLemmas.{no_digit_past}
use Rattle.parsing_plan.proofs.read.SplitPlaces.read.Goals as goal

pub split_fields-requires-clause-beside : goal.split_fields-requires-clause-beside
split_fields-requires-clause-beside c = number_beside c.args.self.now.places.now.front.beside c.args.self.now.numbers

pub split_fields-requires-clause-ends : goal.split_fields-requires-clause-ends
split_fields-requires-clause-ends c = λ none. no_digit_past c.args.line.now _ (omega arith)

pub returns : goal.returns
returns c = λ assumed assumes m defaults is start.
    let line = c.args.line.now in
    if_whole_named m defaults line (drop (length line) line) assumed c.split_fields.result (drop_all (length line) line (omega arith)) start (c.split_fields.ensures m assumed is assumes)
