-- The moment that is kept as fields or as itself.
use Rattle.datetime_wall.specs.Wall.{Shown}
use Rattle.parsing_values.specs.Moment.{moment_of}
use Rattle.instants_sources.specs.declared.named.Kept.{Kept}
use Rattle.instants_sources.specs.declared.named.Kept.TheVariants as kept

abbrev pub moment_kept : Kept → Shown
moment_kept (kept.Fields fields) = moment_of fields
moment_kept (kept.Moment moment) = moment
