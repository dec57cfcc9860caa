use Rattle.std.proofs.Common.{true}
use Rattle.parsing_iso8601_shapes.specs.Layout.{front_parts}
use Rattle.parsing_shapes.proofs.NumberLemmas.{long_as}
use Rattle.parsing_iso8601_shapes.proofs.EndLemmas.{may_be}
use Rattle.parsing_iso8601_shapes.proofs.SaysLemmas.{long_directly}
use Rattle.parsing_iso8601_shapes.proofs.moment.read_long_form.Goals as goal

pub returns : goal.returns
returns c =
    let form = c.args.form.now in
    let front = front_parts form.dating form.is_extended true in
    let dated = c.in_ok-fields.ensures in
    let said = c.in_ok-numbers.ensures.says front c.requires in
    let long = long_as form.shape front c.requires in
    long_directly form.dating form.is_extended said.0 said.1 c.args.input.now c.in_ok-numbers.numbers c.in_ok-numbers-2.field-0 dated.month dated.day c.in_ok-fields.fields said.4 (may_be form.is_extended form.is_extended (λ e. e) said.0 said.2) said.3 (rw long at c.in_ok-numbers-2.ensures.value) c.in_ok-numbers-2.ensures.bound dated.names dated.numbers
