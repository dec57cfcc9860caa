use Rattle.parsing_item_parts.proofs.listed.Listed.read.Goals as goal

pub returns : goal.returns
returns c = rw c.in_ok-at.ensures.listed at (c.read.ensures c.args.assumed c.in_ok-at.ensures.assumed)
