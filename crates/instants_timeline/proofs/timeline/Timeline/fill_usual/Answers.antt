use Rattle.instants_sources.specs.Grammar.{grammar_of, Rfc2822, Rfc3339, Iso8601}
use Rattle.instants_sources.proofs.Planned.{places_named}
use Rattle.instants_timeline.specs.Settings.{setting_of}
use Rattle.instants_timeline.proofs.FirstNamed.{held_if, held_direct}
use Rattle.instants_timeline.proofs.timeline.Timeline.fill_usual.Goals as goal

pub returns-in-Rfc2822-clause-line : goal.returns-in-Rfc2822-clause-line
returns-in-Rfc2822-clause-line c =
    rw c.in-Rfc2822.is (held_direct c.directly_named.ensures (setting_of c.args.self.now) c.read_usual_fields.result Rfc2822 c.args.line.now c.fill_found.new.room c.fill_found.result c.read_usual_fields.ensures c.fill_found.ensures.line)

pub returns-in-Rfc3339-clause-line : goal.returns-in-Rfc3339-clause-line
returns-in-Rfc3339-clause-line c =
    rw c.in-Rfc3339.is (held_direct c.directly_named.ensures (setting_of c.args.self.now) c.read_usual_fields-in-Rfc3339.result Rfc3339 c.args.line.now c.fill_found-in-Rfc3339.new.room c.fill_found-in-Rfc3339.result c.read_usual_fields-in-Rfc3339.ensures.moment c.fill_found-in-Rfc3339.ensures.line)

pub returns-in-Iso8601-clause-line : goal.returns-in-Iso8601-clause-line
returns-in-Iso8601-clause-line c =
    rw c.in-Iso8601.is (held_direct c.directly_named.ensures (setting_of c.args.self.now) c.read_usual_fields-in-Iso8601.result Iso8601 c.args.line.now c.fill_found-in-Iso8601.new.room c.fill_found-in-Iso8601.result c.read_usual_fields-in-Iso8601.ensures c.fill_found-in-Iso8601.ensures.line)

pub returns-in-Some-Places-clause-line : goal.returns-in-Some-Places-clause-line
returns-in-Some-Places-clause-line c =
    let grammar = grammar_of c.args.source.now in
    let places = c.in-Some-Places.places in
    held_if (setting_of c.args.self.now) c.read_plain.result grammar c.args.line.now c.fill_found-in-Some-Places.new.room c.fill_found-in-Some-Places.result
    (places_named grammar places c.args.line.now c.args.self.now.assumed c.read_plain.result (rw c.in-Some-Places.field-0-is at c.in-Some-Places.ensures) (c.read_plain.ensures c.args.self.now.assumed)) c.fill_found-in-Some-Places.ensures.line
