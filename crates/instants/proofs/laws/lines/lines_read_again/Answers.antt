use Rattle.instants.proofs.Again.{rfc3339_again, iso8601_again}
use Rattle.instants_answers.proofs.FillLemmas.{at_most_35}
use Rattle.instants.proofs.laws.lines.lines_read_again.Goals as goal

pub returns : goal.returns
returns c = record { rfc3339 = rfc3339_again; iso8601 = iso8601_again; length = at_most_35 }
