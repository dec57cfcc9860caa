use Rattle.instants_found.proofs.finder.Finder.next_start.Goals as goal

pub by_blocks-requires-clause-marks : goal.by_blocks-requires-clause-marks
by_blocks-requires-clause-marks c = c.args.self.now.marks_are c.in-Some.marks c.in-Some.is
