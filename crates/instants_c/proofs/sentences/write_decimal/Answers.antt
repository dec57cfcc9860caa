use Rattle.std.proofs.Common.{false, ap, arith}
use Rattle.std.proofs.lemmas.List.{drop_all}
use Rattle.std.specs.Fmt.{digits, digits_onto}
use Rattle.instants_c.proofs.sentences.write_decimal.Goals as goal

pub loop-at-init : goal.loop-at-init
unfolding digits
loop-at-init c = record {
  within = omega arith;
  room = c.told-digits;
  so_far = ap (digits_onto 64 10 false c.args.number) (drop_all 64 c.args.digits.now (omega (arith, c.told-digits)));
}
