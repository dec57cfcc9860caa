use Rattle.std.proofs.Common.{◌≡◌, sym, ◌∙◌, pos, ◌+ℤ◌, ◌-ℤ◌, arith}
use Rattle.std.specs.Prelude.{int_div}
use Rattle.calendar_count.proofs.lemmas.Signed.{signed}
use Rattle.instants_answers.proofs.MovedLemmas.{line_is, shown_is, fits}
use Rattle.instants_answers.proofs.fields_line.write_fields.Goals as goal

minutes : (c : goal.After-write_parts) → pos c.minutes_since.result -ℤ pos 5760 ≡ pos c.args.fields.now.minute +ℤ (int_div c.args.target (pos 60) -ℤ c.args.fields.now.offset)
minutes c = omega (arith, signed, c.minutes_since.ensures.value)

pub returns-clause-line : goal.returns-clause-line
returns-clause-line c = λ e. c.write_parts.ensures.line ∙ sym (line_is c.args.fields.now c.args.target _ c.in-Some.moved.0 c.in-Some.moved.1 c.in-Some.ensures c.write_parts.ensures.clock c.write_parts.ensures.fraction (minutes c))

pub returns-clause-shown : goal.returns-clause-shown
returns-clause-shown c = λ e. shown_is c.args.fields.now c.args.target _ c.in-Some.moved.0 c.in-Some.moved.1 c.in-Some.ensures c.write_parts.ensures.clock c.write_parts.ensures.fraction (minutes c)

pub returns-clause-fits : goal.returns-clause-fits
returns-clause-fits c = λ e. fits c.args.fields.now c.args.target _ c.in-Some.moved.0 c.in-Some.moved.1 c.in-Some.ensures c.write_parts.ensures.clock c.write_parts.ensures.fraction (minutes c)
