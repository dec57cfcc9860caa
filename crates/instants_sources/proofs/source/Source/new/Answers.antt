use Rattle.std.proofs.Common.{arith}
use Rattle.std.proofs.lemmas.List.{length-map}
use Rattle.description_items.specs.Tree.{tree_of, trees}
use Rattle.description.proofs.Few.{letters_single}
use Rattle.instants_sources.proofs.source.Source.new.Goals as goal

pub returns-in_ok-items-in-Strftime-clause-few : goal.returns-in_ok-items-in-Strftime-clause-few
returns-in_ok-items-in-Strftime-clause-few c =
    let ok = c.in_ok-items-in-Strftime in
    let items = ok.items in
    rw c.reading_by.ensures.grammar (omega (arith, letters_single c.in-Strftime.text.now (trees items.items) ok.ensures.outcome, length-map items.items tree_of, items.ok, items.small))
