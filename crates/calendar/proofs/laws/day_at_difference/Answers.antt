use Rattle.std.proofs.Common.{arith, ◌≡◌, pos, ◌-ℤ◌}
use Rattle.calendar_count.proofs.lemmas.Signed.{signed}
use Rattle.calendar_dates.specs.Arithmetic.{days_of}
use Rattle.calendar.proofs.LawLemmas.{only_some, days_of_days}
use Rattle.calendar.proofs.laws.day_at_difference.Goals as goal

pub returns : goal.returns
returns c =
    let days : days_of c.sub.result ≡ pos c.args.to -ℤ pos c.args.from = rw c.sub.ensures (days_of_days (pos c.args.to -ℤ pos c.args.from)) in
    only_some _ _ c.args.to ((rw days at c.checked_add.ensures.some).1 (omega (arith, signed), omega (arith, signed)))
    (rw days at c.checked_add.ensures.value)
    (λ n e. omega (arith, signed, e))
