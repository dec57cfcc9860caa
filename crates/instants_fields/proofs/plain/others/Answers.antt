use Rattle.std.proofs.Common.{arith}
use Rattle.std.proofs.lemmas.Bool.Decides.{nat_tests}
use Rattle.instants_fields.proofs.PlainRuns.{either_none}
use Rattle.instants_fields.proofs.plain.others.Goals as goal

pub returns : goal.returns
returns c = λ k lt none.
    let a = either_none _ _ k none in
    let b = either_none _ _ k a.0 in
    let at = c.load-bytes.ensures k lt in
    let mark = rw at at (c.bits_of.ensures k lt b.0) in
    let slash = rw at at (c.bits_of-2.ensures k lt b.1) in
    let control = rw at at (c.bits_of_controls.ensures k lt a.1) in
    record {
      no_mark = grind (arith, nat_tests, mark);
      no_backslash = grind (arith, nat_tests, slash);
      no_control = control;
    }
