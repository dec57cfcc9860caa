use Rattle.std.proofs.Common.{◌≡◌, Some, rules}
use Rattle.std.specs.Borrow.{Bor}
use Rattle.instants_lines_memory.proofs.Puts.{then_put}
use Rattle.instants_lines_memory.proofs.put.put_labelled.Goals as goal

pub returns-clause-put : goal.returns-clause-put
returns-clause-put c =
    let some : c.args.label ≡ Some c.in-Some.text = search rules in
    rw (some, ← c.as_bytes.ensures.value) (then_put c.put_both-3.result _ _ _ _ _ _ _ c.in-Ok.ensures.put c.put_both-3.ensures.put)
