use Rattle.std.proofs.Common.{arith, ◌≡◌, pos, ◌+ℤ◌, to_z, of_z, w64}
use Rattle.calendar_count.proofs.lemmas.Signed.{signed}
use Rattle.calendar_dates.specs.Arithmetic.{days_of}
use Rattle.calendar_dates.proofs.date.Date.saturating_add.Goals as goal

pub returns-clause-value : goal.returns-clause-value
returns-clause-value c =
    let same : to_z w64 (of_z w64 (to_z w64 c.count.result +ℤ to_z w64 (of_z w64 c.whole_days.result))) ≡ pos c.args.self +ℤ days_of c.args.duration = omega (arith, signed) in
    rw same at c.day_near.ensures.value
