use Rattle.std.proofs.lemmas.Option.{IfSome_then}
use Rattle.std.proofs.Common.{◌≡◌, ◌+◌, true, false, length, ap, arith}
use Rattle.parsing_places.specs.Tail.{is_written}
use Rattle.parsing_shapes.specs.Tail.{offset_at}
use Rattle.parsing_shapes.proofs.NumberLemmas.{numbers_said}
use Rattle.parsing_shapes.proofs.TailLemmas.{not_one}
use Rattle.parsing_shapes.proofs.TailedLemmas.{all_few, few, none_after, whole_in_range, of_tail, placed, zone_length}
use Rattle.parsing_shapes.proofs.dated.read_numbers.Goals.{else-not-has_second-via-then-not-has_second+else-tail-ne0, else-not-has_second-via-else-not-has_second}
use Rattle.parsing_shapes.proofs.dated.read_numbers.Goals as goal

pub fraction_of-requires : goal.fraction_of-requires
fraction_of-requires c =
    let h = of_tail c.args.shape.now c.in_ok-tail.tail c.args.text.now c.in_ok-sums.digits _ _ _ _ c.requires.tail c.in_ok-sums.ensures.sums c.in_ok-sums.ensures.fraction (λ k. (omega (arith, c.type_inv.text k))) (omega (arith, c.if-text-lt-LANES.false)) (rw c.in_ok-tail.ensures.ending c.ending_of-ending.ensures.zulu) in
    record { few = all_few _ _ _ _ _ _ _ _ _ _ _ _ _ h; rest = none_after _ _ _ _ _ _ _ _ _ _ _ _ _ h }

pub numbers_of-requires : goal.numbers_of-requires
numbers_of-requires c =
    let h = of_tail c.args.shape.now c.in_ok-tail.tail c.args.text.now c.in_ok-sums.digits _ _ _ _ c.requires.tail c.in_ok-sums.ensures.sums c.in_ok-sums.ensures.fraction (λ k. (omega (arith, c.type_inv.text k))) (omega (arith, c.if-text-lt-LANES.false)) (rw c.in_ok-tail.ensures.ending c.ending_of-ending.ensures.zulu) in
    whole_in_range _ _ _ _ _ _ _ _ _ _ _ _ _ h (omega (arith, c.if-text-lt-LANES.false, c.in_ok-tail.ensures.few))

pub returns : goal.returns
returns c = λ front fits_front.
    let tail = c.in_ok-tail.tail in
    let h = of_tail c.args.shape.now c.in_ok-tail.tail c.args.text.now c.in_ok-sums.digits _ _ _ _ c.requires.tail c.in_ok-sums.ensures.sums c.in_ok-sums.ensures.fraction (λ k. (omega (arith, c.type_inv.text k))) (omega (arith, c.if-text-lt-LANES.false)) (rw c.in_ok-tail.ensures.ending c.ending_of-ending.ensures.zulu) in
    let written : is_written c.args.has_colon tail.ending ≡ true = rw c.in_ok-tail.ensures.ending c.ending_of-ending.ensures.written in
    let all : c.args.shape.now.length + tail.fraction + 16 ≡ length c.args.text.now + offset_at tail.ending = omega (arith, c.if-text-lt-LANES.false, c.in_ok-tail.ensures.bytes h.ok, c.in_ok-tail.ensures.few, ap offset_at c.in_ok-tail.ensures.ending) in
    let fraction = c.fraction_of.ensures in
    let short = λ (e : c.args.has_second ≡ false). elim c.else-not-has_second.branch as (λ _. tail.fraction ≡ 0) [
      | else-not-has_second-via-then-not-has_second+else-tail-ne0 w ↦ w.if-tail-ne0.false
      | else-not-has_second-via-else-not-has_second w ↦ let is = w.if-not-has_second.false in absurd cc
    ] in
    let p = placed _ _ _ _ _ _ _ _ _ _ _ _ _ h c.fraction_of.result (zone_length tail.ending) all (fraction.writes c.args.text.now) in
    IfSome_then c.numbers_of.result c.numbers_of.ensures (λ n y. (tail.ending, tail.fraction, written, few _ _ _ _ _ _ _ _ _ _ _ _ _ h, numbers_said _ _ _ _ _ _ _ _ _ _ _ _ _ h c.args.has_second c.fraction_of.result tail.fraction n front y fits_front p (not_one tail.fraction h.ok) short fraction.bound))
