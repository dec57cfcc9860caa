use Rattle.description_tables.specs.declared.names.Name.TheVariants as name
use Rattle.description_tables.proofs.ModernForms.{made_is}
use Rattle.description_tables.proofs.made.made.Goals as goal

pub returns-in-Year-clause-modern : goal.returns-in-Year-clause-modern
returns-in-Year-clause-modern c = rw c.year-component.ensures (made_is c.args.version name.Year c.args.chosen)
