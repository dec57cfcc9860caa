use Rattle.std.proofs.Common.{refl, inl, inr}
use Rattle.std.proofs.lemmas.List.{take_rest}
use Rattle.parsing_values.proofs.lemmas.Moments.{of_fields}
use Rattle.parsing_rfc2822_shapes.specs.Layout.{usual_parts}
use Rattle.parsing_rfc2822_shapes.proofs.SaysLemmas.{usual_read}
use Rattle.parsing_rfc2822_shapes.proofs.fields.read_spaced.Goals as goal

pub returns-then-text-eq32 : goal.returns-then-text-eq32
returns-then-text-eq32 c =
    let text = c.args.text.now in
    let ends = rw (take_rest text 25) at (c.is_spacing.ensures c.if-not-is_spacing.false) in
    of_fields _ _ c.read_shape.result (c.read_shape.ensures usual_parts refl) (usual_read 1 text _ (inl refl) ends)

pub returns : goal.returns
returns c =
    let text = c.args.text.now in
    let ends = rw (take_rest text 26) at (c.is_spacing-2.ensures c.if-not-is_spacing-2.false) in
    of_fields _ _ c.read_shape-2.result (c.read_shape-2.ensures usual_parts refl) (usual_read 2 text _ (inr refl) ends)
