use Rattle.std.proofs.Common.{refl, arith}
use Rattle.parsing_shapes.proofs.NamedLemmas.{whole_few}
use Rattle.parsing_shapes.proofs.sums.sums_of.Goals as goal

pub returns : goal.returns
returns c =
    let digits = c.digits_of-lies.result.1 in
    let taken = c.digits_of-lies.ensures c.if-not-lies.false in
    let sums = c.sums.ensures in
    record {
      front = digits;
      both = digits;
      n = c.paired.result;
      front_taken = taken;
      own_lane = λ j lt mine. (refl, refl);
      paired = c.paired.ensures;
      days_are = sums.first;
      minutes_are = sums.second;
      offsets_are = sums.third;
      seconds_are = sums.fourth;
      few = whole_few c.args.shape.now c.args.text.now digits digits c.paired.result c.requires.whole taken (λ j lt mine. (refl, refl)) c.paired.ensures (λ k. (omega (arith, c.type_inv.text k)));
    }
