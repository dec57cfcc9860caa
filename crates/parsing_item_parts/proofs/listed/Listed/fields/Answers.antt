use Rattle.parsing_item_parts.proofs.listed.Listed.fields.Goals as goal

pub returns-then-self-clause-named : goal.returns-then-self-clause-named
returns-then-self-clause-named c = λ has assumed way _. c.unix_fields.ensures has assumed way
