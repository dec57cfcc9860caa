use Rattle.std.proofs.Common.{◌≡◌, ℕ, ℤ, pos, to_z, of_z, w64, unsigned_abs, ap, ◌∙◌, arith}
use Rattle.std.specs.Int.{int_div_euclid, int_rem_euclid}
use Rattle.std.proofs.lemmas.Int.{ints}
use Rattle.datetime_wall.specs.Wall.{instant, second_nanos}
use Rattle.instants_lines.specs.LineDates.{placed}
use Rattle.instants_lines.specs.declared.line_date.LineDate.{LineDate}
use Rattle.instants_lines.proofs.Unix.{same_nanoseconds}
use Rattle.instants_lines.proofs.line_date.moment_placed.Goals as goal

made : ℕ → ℕ → ℤ → ℕ → LineDate
made start end seconds nanoseconds = record { seconds = seconds; nanoseconds = nanoseconds; reason = 0; start = start; end = end }

pub returns : goal.returns
unfolding placed made
returns c =
    let i = instant c.args.moment in
    let read : to_z w64 (of_z w64 c.unix_timestamp.result) ≡ c.unix_timestamp.result = omega (arith, ints, c.unix_timestamp.ensures.bound) in
    let seconds : to_z w64 (of_z w64 c.unix_timestamp.result) ≡ int_div_euclid i (pos second_nanos) = read ∙ c.unix_timestamp.ensures.value in
    let nanoseconds : c.nanosecond.result ≡ unsigned_abs (int_rem_euclid i (pos second_nanos)) = c.nanosecond.ensures.value ∙ same_nanoseconds c.args.moment in
    ap (λ s. made c.args.start c.args.end s c.nanosecond.result) seconds ∙ ap (made c.args.start c.args.end (int_div_euclid i (pos second_nanos))) nanoseconds
