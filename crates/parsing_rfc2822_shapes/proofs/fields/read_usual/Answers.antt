use Rattle.std.proofs.Common.{refl, inl, inr, arith}
use Rattle.parsing_values.proofs.lemmas.Moments.{of_fields}
use Rattle.parsing_rfc2822_shapes.specs.Layout.{usual_parts}
use Rattle.parsing_rfc2822_shapes.proofs.SaysLemmas.{usual_read, ended}
use Rattle.parsing_rfc2822_shapes.proofs.fields.read_usual.Goals as goal

pub returns-then-text-eq25 : goal.returns-then-text-eq25
returns-then-text-eq25 c =
    let text = c.args.text.now in
    of_fields _ _ c.read_shape.result (c.read_shape.ensures usual_parts refl) (usual_read 1 text _ (inl refl) (ended 25 text (omega arith)))

pub returns : goal.returns
returns c =
    let text = c.args.text.now in
    of_fields _ _ c.read_shape-2.result (c.read_shape-2.ensures usual_parts refl) (usual_read 2 text _ (inr refl) (ended 26 text (omega arith)))
