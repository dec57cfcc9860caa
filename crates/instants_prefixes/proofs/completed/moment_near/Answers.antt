use Rattle.std.proofs.Common.{◌≡◌, pos, ◌+ℤ◌, ◌-ℤ◌, refl, arith, to_z, of_z, w32}
use Rattle.std.proofs.lemmas.Int.{ints}
use Rattle.instants_prefixes.specs.Given.{moment_of}
use Rattle.instants_prefixes.proofs.completed.moment_near.Goals as goal

pub returns : goal.returns
unfolding moment_of
returns c =
    let year = c.year-year.result in
    let same : to_z w32 (of_z w32 year) ≡ year = omega (arith, ints, c.year-year.ensures.bound) in
    let before : to_z w32 (of_z w32 (year -ℤ pos 1)) ≡ year -ℤ pos 1 = omega (arith, ints, c.year-year.ensures.bound) in
    let after : to_z w32 (of_z w32 (year +ℤ pos 1)) ≡ year +ℤ pos 1 = omega (arith, ints, c.year-year.ensures.bound) in
    rw (c.nearer-2.ensures, c.nearer.ensures, c.moment_in-before.ensures, c.moment_in-same.ensures, c.moment_in-after.ensures, same, before, after, c.year-year.ensures.value) refl
