use Rattle.instants_lines_memory.proofs.Puts.{then_put}
use Rattle.instants_lines_memory.proofs.put.put_both.Goals as goal

pub returns-clause-put : goal.returns-clause-put
returns-clause-put c = then_put c.put-2.result _ _ _ _ _ _ _ c.in-Ok.ensures.put c.put-2.ensures.put
