use Rattle.instants_sources.proofs.described.first_bytes_of.Goals as goal

pub returns-in-Items : goal.returns-in-Items
returns-in-Items c = rw c.in-Items.is (rw c.deref.ensures.value at c.of_items.ensures)

pub returns-in-V3 : goal.returns-in-V3
returns-in-V3 c = rw c.in-V3.is c.of_description.ensures
