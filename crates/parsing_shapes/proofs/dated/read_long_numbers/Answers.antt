use Rattle.std.proofs.lemmas.Option.{IfSome_then}
use Rattle.std.proofs.Common.{◌≡◌, ◌-◌, ◌+◌, true, length, ap, arith}
use Rattle.parsing_places.specs.Tail.{is_written}
use Rattle.parsing_layout.specs.Layout.{length_of}
use Rattle.parsing_shapes.specs.Tail.{offset_at, zone_parts}
use Rattle.parsing_shapes.proofs.NumberLemmas.{numbers_said}
use Rattle.parsing_shapes.proofs.TailedLemmas.{whole_in_range, of_tail, placed_long, zone_length}
use Rattle.parsing_shapes.proofs.dated.read_long_numbers.Goals as goal

pub numbers_of-requires : goal.numbers_of-requires
numbers_of-requires c =
    let h = of_tail c.args.shape.now c.in_ok-tail.tail c.args.text.now c.in_ok-sums.field-0-1 _ _ _ _ c.requires.tail c.in_ok-sums.ensures.sums c.in_ok-sums.ensures.fraction (λ k. (omega (arith, c.type_inv.text k))) (omega (arith, c.if-text-lt-LANES.false)) (rw c.in_ok-tail.ensures.ending c.ending_of-ending.ensures.zulu) in
    whole_in_range _ _ _ _ _ _ _ _ _ _ _ _ _ h (omega (arith, c.if-text-shape.false))

pub returns-clause-says : goal.returns-clause-says
returns-clause-says c = λ front fits_front.
    let tail = c.in_ok-tail.tail in
    let h = of_tail c.args.shape.now c.in_ok-tail.tail c.args.text.now c.in_ok-sums.field-0-1 _ _ _ _ c.requires.tail c.in_ok-sums.ensures.sums c.in_ok-sums.ensures.fraction (λ k. (omega (arith, c.type_inv.text k))) (omega (arith, c.if-text-lt-LANES.false)) (rw c.in_ok-tail.ensures.ending c.ending_of-ending.ensures.zulu) in
    let written : is_written c.args.has_colon tail.ending ≡ true = rw c.in_ok-tail.ensures.ending c.ending_of-ending.ensures.written in
    let fraction = c.in_ok-fraction.ensures in
    let width : length_of (zone_parts tail.ending) ≡ c.length_of-width.result = omega (arith, zone_length tail.ending, ap offset_at c.in_ok-tail.ensures.ending, c.length_of-width.ensures.length) in
    let more = length c.args.text.now - c.length_of-width.result - (c.args.shape.now.length + 1) in
    let p = placed_long _ _ _ _ _ _ _ _ _ _ _ _ _ h c.in_ok-fraction.fraction more (omega (arith, fraction.many, width)) c.if-text-shape-ne46.false fraction.writes in
    IfSome_then c.numbers_of.result c.numbers_of.ensures (λ n y. (tail.ending, more + 1, written, omega (arith, fraction.many), numbers_said _ _ _ _ _ _ _ _ _ _ _ _ _ h true c.in_ok-fraction.fraction (more + 1) n front y fits_front p (λ one. omega (arith, one, fraction.many)) (λ e. absurd cc) fraction.bound))
