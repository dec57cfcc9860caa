use Rattle.std.proofs.Common.{◌-◌, length}
use Rattle.instants_timeline.specs.FirstNamed.{NamesFrom}
use Rattle.instants_timeline.specs.Settings.{setting_of}
use Rattle.instants_timeline.proofs.timeline.Timeline.first_named.Given as goal

-- the sources so far named none
abbrev pub invariant-loop-likely : goal.invariant-loop-likely
invariant-loop-likely l = NamesFrom (setting_of l.self) l.line l.place

abbrev pub decreases-loop-likely : goal.decreases-loop-likely
decreases-loop-likely l = length (setting_of l.self).sources - l.place
