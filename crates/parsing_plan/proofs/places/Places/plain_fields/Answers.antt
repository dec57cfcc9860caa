use Rattle.std.proofs.Common.{◌≡◌, ◌<◌, ◌∙◌, true, false, ap, sym, arith}
use Rattle.parsing_shapes.specs.declared.front.Beside.{Beside}
use Rattle.parsing_plan.proofs.PlaceLemmas.{plain_beside}
use Rattle.parsing_plan.proofs.places.Places.plain_fields.Goals as goal

pub whole_fields-requires-clause-whole : goal.whole_fields-requires-clause-whole
whole_fields-requires-clause-whole c =
    let below : c.args.self.now.plain_length < 18446744073709551615 = omega (arith, c) in
    (c.args.self.now.plain below).1

pub whole_fields-requires-clause-beside : goal.whole_fields-requires-clause-beside
whole_fields-requires-clause-beside c =
    let below : c.args.self.now.plain_length < 18446744073709551615 = omega (arith, c) in
    let plain = c.args.self.now.plain below in
    sym (plain_beside c.args.self.now.front.beside plain.0.plain)

pub whole_fields-requires-clause-long : goal.whole_fields-requires-clause-long
whole_fields-requires-clause-long c =
    let below : c.args.self.now.plain_length < 18446744073709551615 = omega (arith, c) in
    let plain = c.args.self.now.plain below in
    omega (arith, plain.0.whole, c.requires)

pub returns : goal.returns
returns c = λ m assumed is.
    let below : c.args.self.now.plain_length < 18446744073709551615 = omega (arith, c) in
    let plain = c.args.self.now.plain below in
    rw plain.0.whole at (c.whole_fields.ensures m assumed is (λ none. absurd (let never : true ≡ false = ap (λ (b : Beside). b.has_offset) (plain_beside c.args.self.now.front.beside plain.0.plain) ∙ none in cc)))
