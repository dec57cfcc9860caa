use Rattle.instants_sources.proofs.source.Source.read_exact.Goals as goal

pub returns-in-Some-clause-gives : goal.returns-in-Some-clause-gives
returns-in-Some-clause-gives c =
    rw (c.in-Rfc2822.is, c.in-Some.is) (rw c.in-Some.is at c.read_staged.ensures.gives)

pub returns-in-Some-assumed-clause-gives : goal.returns-in-Some-assumed-clause-gives
returns-in-Some-assumed-clause-gives c =
    rw (c.in-Rfc3339.is, c.in-Some-assumed.is) (rw c.in-Some-assumed.is at c.read_staged-in-Some-assumed.ensures.gives)

pub returns-in-Iso8601-clause-gives : goal.returns-in-Iso8601-clause-gives
returns-in-Iso8601-clause-gives c =
    rw c.in-Iso8601.is c.read_staged-in-Iso8601.ensures.gives
