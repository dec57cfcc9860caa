use Rattle.std.proofs.lemmas.Option.{IfSome_then}
use Rattle.parsing_rfc3339.proofs.SaysLemmas.{text_read, some_zone, small_zone}
use Rattle.parsing_rfc3339.specs.Layout.{front_parts}
use Rattle.parsing_rfc3339.proofs.direct.read_rare_fields.Goals as goal

pub returns-in-122 : goal.returns-in-122
returns-in-122 c = IfSome_then c.read_small_moment.result (c.read_small_moment.ensures front_parts c.shape-shape.ensures.fits) (λ f m. text_read _ _ c.args.input.now f small_zone m)

pub returns-in_default : goal.returns-in_default
returns-in_default c = IfSome_then c.read_long_moment.result (c.read_long_moment.ensures front_parts c.shape-shape.ensures.fits) (λ f m. text_read _ _ c.args.input.now f (some_zone m.0 m.1) m.2)
