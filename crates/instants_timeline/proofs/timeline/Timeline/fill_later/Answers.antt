use Rattle.std.proofs.Common.{Ok, Err}
use Rattle.parsing_combinator.specs.FaultOf.{fault_of}
use Rattle.instants_timeline.specs.Settings.{setting_of}
use Rattle.instants_timeline.proofs.FirstNamed.{answer_is}
use Rattle.instants_timeline.proofs.timeline.Timeline.fill_later.Goals as goal

pub returns-in-Ok-clause-line : goal.returns-in-Ok-clause-line
returns-in-Ok-clause-line c = rw (← answer_is (setting_of c.args.self.now) c.args.line.now (Ok c.first_named.new.kept) c.in-Ok.ensures.gives) c.fill_kept.ensures.line

pub returns-in-Err-clause-line : goal.returns-in-Err-clause-line
returns-in-Err-clause-line c = rw (← answer_is (setting_of c.args.self.now) c.args.line.now (Err (fault_of c.in-Err.fault)) c.in-Err.ensures.gives) (rw c.from.ensures at c.fill.ensures.line)
