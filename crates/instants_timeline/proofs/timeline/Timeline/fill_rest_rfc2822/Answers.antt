use Rattle.instants_sources.specs.Grammar as grammar
use Rattle.instants_timeline.specs.Settings.{setting_of}
use Rattle.instants_timeline.proofs.FirstNamed.{led_direct}
use Rattle.instants_timeline.proofs.timeline.Timeline.fill_rest_rfc2822.Goals as goal

pub returns-in-Some-clause-line : goal.returns-in-Some-clause-line
returns-in-Some-clause-line c = led_direct c.directly_named.ensures (setting_of c.args.self.now) c.read_other_fields.result grammar.Rfc2822 c.args.line.now c.fill_found.new.room c.in-Some.len c.requires.led c.read_other_fields.ensures c.in-Some.ensures.line
