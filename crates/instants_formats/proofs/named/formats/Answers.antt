-- The table in memory is the table.
use Rattle.std.proofs.Common.{refl}
use Rattle.instants_formats.specs.Table.{table}
use Rattle.instants_formats.proofs.named.formats.Goals as goal

pub returns : goal.returns
unfolding table
returns c = refl
