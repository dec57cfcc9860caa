use Rattle.std.proofs.Common.{rules, refl, ◌≡◌, pos, ◌+ℤ◌, ◌-ℤ◌, to_z, of_z, w32, arith}
use Rattle.std.specs.Prelude.{int_div}
use Rattle.calendar_count.proofs.lemmas.Signed.{signed}
use Rattle.instants_answers.proofs.MovedLemmas.{kept_sum}
use Rattle.instants_answers.proofs.fields_line.minutes_since.Goals as goal

kept : (c : goal.After-from) → to_z w32 (of_z w32 (to_z w32 (of_z w32 (to_z w32 (of_z w32 c.minutes_ahead.result) -ℤ to_z w32 (of_z w32 c.args.fields.now.offset))) +ℤ to_z w32 (of_z w32 c.from.result))) ≡ (pos 5760 +ℤ int_div c.args.target (pos 60) -ℤ c.args.fields.now.offset) +ℤ pos c.args.fields.now.minute
kept c =
    let f = c.args.fields.now in
    kept_sum c.minutes_ahead.result f.offset c.from.result (int_div c.args.target (pos 60)) f.offset f.minute c.minutes_ahead.ensures.value refl (search rules) c.minutes_ahead.ensures.bound f.is_offset f.within_a_day

pub overflow_cast-result : goal.overflow_cast-result
overflow_cast-result c = rw (kept c) (omega (arith, signed, c.minutes_ahead.ensures.bound, c.args.fields.now.is_offset, c.args.fields.now.within_a_day))

pub returns-clause-value : goal.returns-clause-value
returns-clause-value c = rw (kept c) (omega (arith, signed, c.minutes_ahead.ensures.bound, c.args.fields.now.is_offset, c.args.fields.now.within_a_day))

pub returns-clause-bound : goal.returns-clause-bound
returns-clause-bound c = rw (kept c) (omega (arith, signed, c.minutes_ahead.ensures.bound, c.args.fields.now.is_offset, c.args.fields.now.within_a_day))
