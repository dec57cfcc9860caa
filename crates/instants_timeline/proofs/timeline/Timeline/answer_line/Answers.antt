use Rattle.std.proofs.Common.{◌≡◌, ◌≤◌, ◌-◌, length, take, ◌∙◌, rules, sym}
use Rattle.instants_timeline.specs.Place.{answer_to}
use Rattle.instants_timeline.specs.Settings.{setting_of}
use Rattle.instants_timeline.proofs.LineLength.{text_of_line, never_long}
use Rattle.instants_timeline.proofs.timeline.Timeline.answer_line.Goals as goal

pub returns-clause-bytes : goal.returns-clause-bytes
returns-clause-bytes c =
    let room = c.fill_any-len.new.room in
    let long : 64 ≤ length room = search rules in
    let put : c.push_bytes.new.self ≡ take (c.fill_any-len.result - 1) room = search rules in
    put ∙ (text_of_line (answer_to (setting_of c.args.self.now) c.args.line.now) room c.fill_any-len.result long c.fill_any-len.ensures.line).0

pub returns-clause-room : goal.returns-clause-room
returns-clause-room c = search (rules, text_of_line)

pub returns-clause-never_long : goal.returns-clause-never_long
returns-clause-never_long c = λ e.
    let room = c.fill_any-len.new.room in
    let long : 64 ≤ length room = search rules in
    let put : c.push_bytes.new.self ≡ take (c.fill_any-len.result - 1) room = search rules in
    let same = put ∙ (text_of_line (answer_to (setting_of c.args.self.now) c.args.line.now) room c.fill_any-len.result long c.fill_any-len.ensures.line).0 in
    never_long (setting_of c.args.self.now) c.args.line.now (sym same ∙ e)
