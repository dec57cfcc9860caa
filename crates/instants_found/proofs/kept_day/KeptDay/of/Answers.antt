use Rattle.std.proofs.Common.{◌≡◌, arith}
use Rattle.std.proofs.lemmas.Int.{ints}
use Rattle.parsing_values.specs.Moment.{moment_of}
use Rattle.instants_found.specs.Zoned.{reading}
use Rattle.instants_found.proofs.kept_day.KeptDay.of.Goals as goal

pub returns : goal.returns
returns c = λ f small on.
    let at = c.first_reading-first.ensures.value f small on.0 on.1 on.2 in
    let bound = c.first_reading-first.ensures.bound in
    let from = c.in_ok-ahead.ensures.only (reading (moment_of f)) (omega (arith, ints, at, bound)) (omega (arith, ints, at, bound, f.within_a_day, f.within_a_minute)) in
    let same : c.calendar_offset.result ≡ c.in_ok-ahead.ahead = omega (arith, ints, c.calendar_offset.ensures, c.in_ok-ahead.ensures.bound) in
    rw same from
