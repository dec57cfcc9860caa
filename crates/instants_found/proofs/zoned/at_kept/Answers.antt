use Rattle.std.proofs.Common.{◌≡◌, sym, ap, arith, ℤ}
use Rattle.std.proofs.lemmas.Int.{ints}
use Rattle.datetime_wall.specs.Wall.{Shown}
use Rattle.parsing_values.specs.Moment.{moment_of}
use Rattle.instants_found.proofs.zoned.at_kept.Goals as goal

with_offset : (wall one other : ℤ) → one ≡ other → ◌≡◌ {A = Shown} (record { wall = wall; offset = one }) (record { wall = wall; offset = other })
with_offset wall one other e = ap (λ (offset : ℤ). record { wall = wall; offset = offset }) e

pub returns-in-Some : goal.returns-in-Some
unfolding moment_of
returns-in-Some c =
    let own : c.args.date.now ≡ moment_of c.in-Some.fields.now = sym c.in-Some.ensures in
    rw (c.of_fields.ensures, own) (with_offset _ _ _ (omega (arith, ints, c.args.kept.now.same)))
