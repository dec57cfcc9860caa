use Rattle.instants_sources.proofs.described.Described.new.Goals as goal

pub invariant_of-result : goal.invariant_of-result
invariant_of-result c = record { first = c.first_bytes_of.ensures; bounds = c.first_bounds_of.ensures; planned = λ x e. rw e at c.plan_of.ensures }
