use Rattle.std.proofs.Common.{◌≡◌, arith, to_z, of_z, w16}
use Rattle.std.proofs.lemmas.Int.{ints}
use Rattle.parsing_shapes.proofs.FrontLemmas.{spaced_there}
use Rattle.parsing_shapes.proofs.WindowLemmas.{year_pairs}
use Rattle.parsing_plan.proofs.read.fields_of.Goals as goal

pub day_of-requires-clause-spaced : goal.day_of-requires-clause-spaced
day_of-requires-clause-spaced c = λ place is. (spaced_there c.args.shape.now c.args.beside.now c.requires.ready c.args.line.now _ _ _ _ c.requires.sums (λ k. (omega (arith, c.type_inv.line k))) place is).0

pub day_of-requires-clause-ones : goal.day_of-requires-clause-ones
day_of-requires-clause-ones c = λ place is. (spaced_there c.args.shape.now c.args.beside.now c.requires.ready c.args.line.now _ _ _ _ c.requires.sums (λ k. (omega (arith, c.type_inv.line k))) place is).1

pub of_digits-year-requires-clause-high : goal.of_digits-year-requires-clause-high
of_digits-year-requires-clause-high c =
    let s = c.args.shape.now in
    (year_pairs s.windows c.args.line.now c.requires.sums.front s.length s.year c.requires.sums.front_taken (λ k. (omega (arith, c.type_inv.line k))) s.year_is c.requires.long).0

pub of_digits-year-requires-clause-low : goal.of_digits-year-requires-clause-low
of_digits-year-requires-clause-low c =
    let s = c.args.shape.now in
    (year_pairs s.windows c.args.line.now c.requires.sums.front s.length s.year c.requires.sums.front_taken (λ k. (omega (arith, c.type_inv.line k))) s.year_is c.requires.long).1

pub returns : goal.returns
returns c = λ assumed assumes.
    let h = c.of_numbers.ensures in
    let o = c.offset_of-offset.result in
    let same : to_z w16 (of_z w16 o) ≡ o = omega (arith, ints, c.offset_of-offset.ensures.bound) in
    record {
      weekday = c.in_ok-_weekday._weekday;
      year_is = rw h.same_year c.of_digits-year.ensures.digits;
      read = record {
        month_is = rw h.same_month c.in_ok-month.ensures.says;
        day_is = rw h.same_day c.in_ok-day.ensures;
        weekday_is = c.in_ok-_weekday.ensures.says;
      };
      weekday_few = c.in_ok-_weekday.ensures.bound;
      minute_is = h.same_minute;
      second_is = h.same_second;
      fraction_is = rw h.same_fraction c.in_ok-fraction.ensures.says;
      fraction_few = rw h.same_fraction c.in_ok-fraction.ensures.bound;
      offset_is = rw (h.same_offset, same) (c.offset_of-offset.ensures.says assumed assumes);
      even = omega (arith, c.if-seconds-ne0.false);
    }
