use Rattle.std.proofs.Common.{◌≡◌, ℤ, ◌+◌, ◌*◌, pos, lit≤, sym, subst, arith, to_z, of_z, w32, w64}
use Rattle.std.proofs.lemmas.Int.{ints}
use Rattle.calendar_count.specs.Calendar.{IsDay, day_at, ymd}
use Rattle.parsing_values.proofs.UnixTime.{unix_moment}
use Rattle.parsing_values.proofs.fields.Fields.of_unix.Goals as goal

pub of_numbers-requires : goal.of_numbers-requires
of_numbers-requires c =
    let y : ℤ = c.day_of_count-year.result.0 in
    let valid = c.day_of_count-year.ensures.valid in
    let whole : to_z w32 (of_z w32 y) ≡ y = omega (arith, ints, valid.0) in
    let year : pos c.new.result ≡ y = omega (arith, ints, c.new.ensures, whole) in
    record {
      day_is_there = subst (λ (z : ℤ). IsDay z c.day_of_count-year.result.1 c.day_of_count-year.result.2) (sym year) valid;
      four_digits = omega (arith, ints, c.new.ensures, c.if-year-gt9999.false, whole);
      within_a_day = omega (arith, c.second_of_day-second.ensures.bound);
      within_a_minute = omega arith;
      is_offset = lit≤ tt;
    }

pub returns : goal.returns
returns c =
    let f = c.of_numbers.result in
    let n = c.of_numbers.ensures in
    let y : ℤ = c.day_of_count-year.result.0 in
    let instant : to_z w64 c.args.second ≡ pos c.args.second = omega (arith, ints) in
    let valid = c.day_of_count-year.ensures.valid in
    let whole : to_z w32 (of_z w32 y) ≡ y = omega (arith, ints, valid.0) in
    let year : pos f.year ≡ y = omega (arith, ints, n.same_year, c.new.ensures, whole) in
    let day : day_at c.count_of_seconds.result ≡ ymd (pos f.year) f.month f.day = rw (year, n.same_month, n.same_day) c.day_of_count-year.ensures.value in
    let clock : f.minute * 60 + f.second ≡ c.second_of_day-second.result = omega (arith, n.same_minute, n.same_second) in
    unix_moment f c.args.second c.args.fraction c.count_of_seconds.result c.second_of_day-second.result (rw instant at c.count_of_seconds.ensures.value) (rw instant at c.second_of_day-second.ensures.value) c.count_of_seconds.ensures.bound day clock n.same_fraction n.same_offset
