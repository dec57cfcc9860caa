use Rattle.std.proofs.Common.{arith, ◌≡◌, true}
use Rattle.std.specs.Prelude.{nat_lt}
use Rattle.std.proofs.lemmas.Grind.{common_steps}
use Rattle.std.proofs.lemmas.Bool.Decides.{nat_tests}
use Rattle.calendar_dates.proofs.text.write_digits.Goals as goal

pub returns-in_ok-write_two : goal.returns-in_ok-write_two
returns-in_ok-write_two g c =
    let short : nat_lt c.args.years 10_000 ≡ true = grind (arith, nat_tests) in
    rw short (grind (arith, common_steps))
