use Rattle.std.proofs.Common.{arith, inl, inr, refl}
use Rattle.std.proofs.lemmas.List.{take_rest}
use Rattle.parsing_values.proofs.lemmas.Moments.{of_fields}
use Rattle.parsing_rfc2822_shapes.specs.Layout.{minute_zone_parts, second_parts}
use Rattle.parsing_rfc2822_shapes.proofs.SaysLemmas.{ended, minute_zone_read, second_zone_read}
use Rattle.parsing_rfc2822_shapes.proofs.fields.read_from_day.Goals as goal

pub returns-in_ok-read_shape-in-23 : goal.returns-in_ok-read_shape-in-23
returns-in_ok-read_shape-in-23 c =
    let text = c.args.text.now in
    let date = c.in_ok-read_shape-in-23 in
    of_fields _ _ c.with_name.result c.with_name.ensures (λ f h. second_zone_read 1 text _ date.field-0 f (inl refl) (date.ensures second_parts refl) (rw (take_rest text 19) at h))

pub returns-in_ok-read_shape-in-24 : goal.returns-in_ok-read_shape-in-24
returns-in_ok-read_shape-in-24 c =
    let text = c.args.text.now in
    let date = c.in_ok-read_shape-in-24 in
    of_fields _ _ c.with_name-in-24.result c.with_name-in-24.ensures (λ f h. second_zone_read 2 text _ date.field-0 f (inr refl) (date.ensures second_parts refl) (rw (take_rest text 20) at h))

pub returns-in_ok-read_shape-in-22 : goal.returns-in_ok-read_shape-in-22
returns-in_ok-read_shape-in-22 c =
    let date = c.in_ok-read_shape-in-22 in
    minute_zone_read 1 c.args.text.now _ date.field-0 _ (inl refl) (ended 22 c.args.text.now (omega arith)) (date.ensures minute_zone_parts refl) c.at_minute-in-22.ensures

pub returns-in_ok-read_shape-in-23-3 : goal.returns-in_ok-read_shape-in-23-3
returns-in_ok-read_shape-in-23-3 c =
    let date = c.in_ok-read_shape-in-23-3 in
    minute_zone_read 2 c.args.text.now _ date.field-0 _ (inr refl) (ended 23 c.args.text.now (omega arith)) (date.ensures minute_zone_parts refl) c.at_minute.ensures
