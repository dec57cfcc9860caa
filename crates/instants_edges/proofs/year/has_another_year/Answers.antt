use Rattle.std.proofs.Common.{◌≡◌, ◌+◌, false, arith, w32, to_z, of_z}
use Rattle.std.specs.Prelude.{min}
use Rattle.std.proofs.lemmas.Bool.Decides.{nat_tests}
use Rattle.std.proofs.Math.Facts.{to_z-of_z}
use Rattle.instants_edges.specs.Beside.{after, is_year_after, has_another_year}
use Rattle.instants_edges.proofs.year.has_another_year.Goals as goal

pub returns-else-is_year_after : goal.returns-else-is_year_after
unfolding has_another_year
returns-else-is_year_after c =
    let none : is_year_after (to_z w32 (of_z w32 c.args.year)) (after c.args.line.now c.args.ends) ≡ false = cc in
    let end : c.min.result ≡ min 12 (c.args.begins + 1) = grind (arith, nat_tests) in
    rw (rw (to_z-of_z {w = w32} c.ranges.year) at none) (rw (to_z-of_z {w = w32} c.ranges.year, end) at c.has_year_before.ensures)
