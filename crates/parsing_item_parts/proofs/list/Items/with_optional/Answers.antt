use Rattle.std.proofs.Common.{sym}
use Rattle.parsing_item_parts.proofs.list.Items.with_optional.Goals as goal

pub returns-in-Compound : goal.returns-in-Compound
returns-in-Compound g c = rw (sym c.in-Compound.ensures) c.with_pair.ensures
