use Rattle.instants_sources.specs.Grammar.{written}
use Rattle.instants_prefixes.proofs.Extents.{described_extent}
use Rattle.instants_prefixes.proofs.extent.extent_of.Goals as goal

pub returns-in-Some : goal.returns-in-Some
returns-in-Some c = described_extent (written c.args.description.now) c.args.ends.now c.args.text.now c.args.rest.now c.in-Some.extent c.requires.ends c.requires.read (rw c.saturating_sub.ensures at c.in-Some.ensures)
