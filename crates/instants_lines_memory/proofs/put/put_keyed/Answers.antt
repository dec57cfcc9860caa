use Rattle.instants_lines_memory.proofs.Puts.{then_put}
use Rattle.instants_lines_memory.proofs.put.put_keyed.Goals as goal

pub returns-clause-put : goal.returns-clause-put
returns-clause-put c = rw (← c.as_bytes.ensures.bytes) (then_put c.put_labelled.result _ _ _ _ _ _ _ c.in-Ok.ensures.put c.put_labelled.ensures.put)
