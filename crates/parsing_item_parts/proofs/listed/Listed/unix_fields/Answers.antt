use Rattle.parsing_layout.specs.declared.parts.Field.TheVariants as field
use Rattle.std.proofs.Common.{arith}
use Rattle.parsing_strides.specs.Found.{values_in}
use Rattle.parsing_item_parts.proofs.MomentLemmas.{unix_said}
use Rattle.parsing_item_parts.proofs.SaidLemmas.{no_fraction}
use Rattle.parsing_item_parts.proofs.listed.Listed.unix_fields.Goals as goal

pub returns : goal.returns
returns c =
    let l = c.args.self.now in
    let v = values_in c.args.found.now in
    let range = c.requires.range in
    let named = rw (c.unix.ensures, c.fraction.ensures.value) at c.of_unix.ensures in
    λ has assumed way. unix_said assumed has v c.of_unix.result (way.certain field.Unix (l.unix c.requires.unix)) (range field.Unix).1
    (let few = (range field.Nanosecond).1 in omega (arith, few)) (no_fraction l has v way) named
