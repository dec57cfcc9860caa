use Rattle.parsing_iso8601_shapes.specs.Layout.{front_parts}
use Rattle.parsing_iso8601_shapes.proofs.EndLemmas.{may_be}
use Rattle.parsing_iso8601_shapes.proofs.SaysLemmas.{short_directly}
use Rattle.parsing_iso8601_shapes.proofs.moment.read_form.Goals as goal

pub returns : goal.returns
returns c =
    let form = c.args.form.now in
    let dated = c.in_ok-fields.ensures in
    let said = c.in_ok-numbers.ensures (front_parts form.dating form.is_extended c.args.has_second) c.requires.made in
    short_directly form.dating form.is_extended c.args.has_second said.0 said.1 c.args.input.now c.in_ok-numbers.numbers said.4 dated.month dated.day c.in_ok-fields.fields (may_be c.args.has_colon form.is_extended c.requires.colon said.0 said.2) said.3 dated.names dated.numbers
