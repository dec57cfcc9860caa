use Rattle.instants_sources.proofs.described.Described.plan.Goals as goal

pub returns-in-Some : goal.returns-in-Some
returns-in-Some c = c.args.self.now.planned c.in-Some.plan c.in-Some.is
