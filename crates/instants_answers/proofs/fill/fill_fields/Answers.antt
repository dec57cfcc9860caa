use Rattle.std.proofs.Common.{◌≡◌, pos, ◌+ℤ◌, ◌-ℤ◌, arith}
use Rattle.std.specs.Prelude.{int_div}
use Rattle.calendar_count.proofs.lemmas.Signed.{signed}
use Rattle.instants_answers.proofs.MovedLemmas.{line_is, shown_is, fits}
use Rattle.instants_answers.proofs.fill.fill_fields.Goals as goal

pub returns-clause-line : goal.returns-clause-line
returns-clause-line c =
    let minutes : pos c.minutes_since.result -ℤ pos 5760 ≡ pos c.args.fields.now.minute +ℤ (int_div c.args.target (pos 60) -ℤ c.args.fields.now.offset) = omega (arith, signed, c.minutes_since.ensures.value) in
    rw (line_is c.args.fields.now c.args.target _ c.in_ok-day.day c.in_ok-day.minute c.in_ok-day.ensures c.fill_parts.ensures.clock c.fill_parts.ensures.fraction minutes) c.fill_parts.ensures.line

pub returns-clause-shown : goal.returns-clause-shown
returns-clause-shown c =
    let minutes : pos c.minutes_since.result -ℤ pos 5760 ≡ pos c.args.fields.now.minute +ℤ (int_div c.args.target (pos 60) -ℤ c.args.fields.now.offset) = omega (arith, signed, c.minutes_since.ensures.value) in
    shown_is c.args.fields.now c.args.target _ c.in_ok-day.day c.in_ok-day.minute c.in_ok-day.ensures c.fill_parts.ensures.clock c.fill_parts.ensures.fraction minutes

pub returns-clause-fits : goal.returns-clause-fits
returns-clause-fits c =
    let minutes : pos c.minutes_since.result -ℤ pos 5760 ≡ pos c.args.fields.now.minute +ℤ (int_div c.args.target (pos 60) -ℤ c.args.fields.now.offset) = omega (arith, signed, c.minutes_since.ensures.value) in
    fits c.args.fields.now c.args.target _ c.in_ok-day.day c.in_ok-day.minute c.in_ok-day.ensures c.fill_parts.ensures.clock c.fill_parts.ensures.fraction minutes
