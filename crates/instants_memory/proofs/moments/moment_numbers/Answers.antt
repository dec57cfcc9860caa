use Rattle.std.proofs.Common.{◌≡◌, ℕ, ℤ, pos, to_z, of_z, w64, unsigned_abs, ap, ◌∙◌, arith}
use Rattle.std.specs.Int.{int_div_euclid, int_rem_euclid}
use Rattle.std.proofs.lemmas.Int.{ints}
use Rattle.datetime_wall.specs.Wall.{instant, second_nanos}
use Rattle.instants_memory.specs.Numbers.{numbers_of}
use Rattle.instants_memory.specs.declared.moments.Moment.{Moment}
use Rattle.instants_memory.proofs.Unix.{same_nanoseconds}
use Rattle.instants_memory.proofs.moments.moment_numbers.Goals as goal

made : ℤ → ℕ → Moment
made seconds nanoseconds = record { seconds = seconds; nanoseconds = nanoseconds; fault = 0 }

pub returns : goal.returns
unfolding numbers_of made
returns c =
    let i = instant c.args.moment in
    let read : to_z w64 (of_z w64 c.unix_timestamp.result) ≡ c.unix_timestamp.result = omega (arith, ints, c.unix_timestamp.ensures.bound) in
    let seconds : to_z w64 (of_z w64 c.unix_timestamp.result) ≡ int_div_euclid i (pos second_nanos) = read ∙ c.unix_timestamp.ensures.value in
    let nanoseconds : c.nanosecond.result ≡ unsigned_abs (int_rem_euclid i (pos second_nanos)) = c.nanosecond.ensures.value ∙ same_nanoseconds c.args.moment in
    ap (λ s. made s c.nanosecond.result) seconds ∙ ap (made (int_div_euclid i (pos second_nanos))) nanoseconds
