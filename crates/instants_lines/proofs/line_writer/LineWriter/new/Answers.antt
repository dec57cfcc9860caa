use Rattle.instants_lines.proofs.line_writer.LineWriter.new.Goals as goal

pub invariant_of-result-clause-kept_is : goal.invariant_of-result-clause-kept_is
invariant_of-result-clause-kept_is c = c.none.ensures c.args.zone
