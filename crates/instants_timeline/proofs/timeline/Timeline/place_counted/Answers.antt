use Rattle.instants_timeline.specs.Settings.{setting_of}
use Rattle.instants_timeline.proofs.Counted.{tried_on-le}
use Rattle.instants_timeline.proofs.timeline.Timeline.place_counted.Goals as goal

pub returns-clause-at_most : goal.returns-clause-at_most
returns-clause-at_most c = let setting = setting_of c.args.self.now in rw c.tried.ensures (tried_on-le setting.assumed setting.sources c.args.line.now)
