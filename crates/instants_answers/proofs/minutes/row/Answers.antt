use Rattle.std.proofs.Common.{refl}
use Rattle.instants_answers.proofs.MinuteLemmas.{row_at, rows}
use Rattle.instants_answers.proofs.minutes.row.Goals as goal

pub returns : goal.returns
returns c = row_at c.args.minute (rows 1440 0) refl c.requires
