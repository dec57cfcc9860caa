use Rattle.std.proofs.Common.{refl, arith}
use Rattle.instants_c.proofs.lines_kept.write_keys.Goals as goal

pub returns-in-Ok : goal.returns-in-Ok
returns-in-Ok c =
    let told = c.in-Ok.ensures in
    record {
      begins = told.begins;
      is_begin = told.is_begin;
      either = omega arith;
      ok = λ zero. told.ok c.in-Ok.len refl;
      below = λ zero. told.below c.in-Ok.len refl;
      short = λ one. absurd (omega (arith, one));
      stays = λ one. absurd (omega (arith, one));
    }
