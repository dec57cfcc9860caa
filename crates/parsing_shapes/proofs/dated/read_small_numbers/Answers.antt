use Rattle.std.proofs.lemmas.Option.{IfSome_then}
use Rattle.std.proofs.Common.{◌≡◌, ◌+◌, true, length, refl, ap, arith}
use Rattle.parsing_shapes.specs.Tail.{offset_at}
use Rattle.parsing_shapes.proofs.NumberLemmas.{numbers_said}
use Rattle.parsing_shapes.proofs.TailLemmas.{is_some, not_one}
use Rattle.parsing_shapes.proofs.TailedLemmas.{all_few, none_after, whole_in_range, placed, of_small}
use Rattle.parsing_shapes.proofs.dated.read_small_numbers.Goals as goal

pub fraction_of-requires : goal.fraction_of-requires
fraction_of-requires c =
    let tail = c.in_ok-tail.tail in
    let ok = is_some tail.fraction c.if-tail-eq1.false (omega (arith, c.if-tail-gt10.false)) in
    let h = of_small c.args.shape.now tail c.args.text.now c.in_ok-sums.digits _ _ _ _ c.requires.tail c.in_ok-tail.ensures.ending ok c.in_ok-sums.ensures.sums c.in_ok-sums.ensures.fraction (λ k. (omega (arith, c.type_inv.text k))) (omega (arith, c.if-text-lt-LANES.false)) in
    record { few = all_few _ _ _ _ _ _ _ _ _ _ _ _ _ h; rest = none_after _ _ _ _ _ _ _ _ _ _ _ _ _ h }

pub numbers_of-requires : goal.numbers_of-requires
numbers_of-requires c =
    let tail = c.in_ok-tail.tail in
    let ok = is_some tail.fraction c.if-tail-eq1.false (omega (arith, c.if-tail-gt10.false)) in
    let h = of_small c.args.shape.now tail c.args.text.now c.in_ok-sums.digits _ _ _ _ c.requires.tail c.in_ok-tail.ensures.ending ok c.in_ok-sums.ensures.sums c.in_ok-sums.ensures.fraction (λ k. (omega (arith, c.type_inv.text k))) (omega (arith, c.if-text-lt-LANES.false)) in
    whole_in_range _ _ _ _ _ _ _ _ _ _ _ _ _ h (omega (arith, c.if-text-lt-LANES.false, c.in_ok-tail.ensures.few))

pub returns : goal.returns
returns c = λ front fits_front.
    let tail = c.in_ok-tail.tail in
    let ok = is_some tail.fraction c.if-tail-eq1.false (omega (arith, c.if-tail-gt10.false)) in
    let h = of_small c.args.shape.now tail c.args.text.now c.in_ok-sums.digits _ _ _ _ c.requires.tail c.in_ok-tail.ensures.ending ok c.in_ok-sums.ensures.sums c.in_ok-sums.ensures.fraction (λ k. (omega (arith, c.type_inv.text k))) (omega (arith, c.if-text-lt-LANES.false)) in
    let all : c.args.shape.now.length + tail.fraction + 16 ≡ length c.args.text.now + 15 = omega (arith, c.if-text-lt-LANES.false, c.in_ok-tail.ensures.bytes ok, c.in_ok-tail.ensures.few, ap offset_at c.in_ok-tail.ensures.ending) in
    let fraction = c.fraction_of.ensures in
    let p = placed _ _ _ _ _ _ _ _ _ _ _ _ _ h c.fraction_of.result refl all (fraction.writes c.args.text.now) in
    IfSome_then c.numbers_of.result c.numbers_of.ensures (λ n y. (tail.fraction, numbers_said _ _ _ _ _ _ _ _ _ _ _ _ _ h true c.fraction_of.result tail.fraction n front y fits_front p (not_one tail.fraction ok) (λ e. absurd cc) fraction.bound))
