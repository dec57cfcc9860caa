use Rattle.instants_sources.specs.Grammar.{Rfc2822, Rfc3339, Iso8601}
use Rattle.instants_sources.proofs.Roads.{found_named}
use Rattle.instants_sources.proofs.source.Source.read_other.Goals as goal

pub returns-in-Rfc2822 : goal.returns-in-Rfc2822
returns-in-Rfc2822 c =
    rw c.in-Rfc2822.is (found_named c.directly_named.ensures Rfc2822 c.args.line.now c.args.assumed c.read_other_fields.result c.read_other_fields.ensures)

pub returns-in-Rfc3339 : goal.returns-in-Rfc3339
returns-in-Rfc3339 c =
    rw c.in-Rfc3339.is (found_named c.directly_named.ensures Rfc3339 c.args.line.now c.args.assumed c.read_rare_fields.result c.read_rare_fields.ensures)

pub returns-in-Iso8601 : goal.returns-in-Iso8601
returns-in-Iso8601 c =
    rw c.in-Iso8601.is (found_named c.directly_named.ensures Iso8601 c.args.line.now c.args.assumed c.read_fields.result c.read_fields.ensures)
