use Rattle.std.proofs.Common.{◌+◌, refl, sym, arith}
use Rattle.std.proofs.lemmas.Int.{ints}
use Rattle.std.proofs.lemmas.List.{take_rest}
use Rattle.parsing_rfc2822_shapes.specs.Layout.{short_from_day}
use Rattle.parsing_rfc2822_shapes.proofs.SaysLemmas.{short_read, ended}
use Rattle.parsing_rfc2822_shapes.proofs.fields.read_short_shape.Goals as goal

pub invariant_of-date-clause-day_is_there : goal.invariant_of-date-clause-day_is_there
invariant_of-date-clause-day_is_there c =
    let date = c.in_ok-date.date.day_is_there in
    let day = c.has_day.ensures.0 c.if-not-has_day.false in
    let bound = c.full_year-year.ensures.bound in
    ((omega (arith, ints), omega (arith, ints, bound)), date.1, date.2, day.0, day.1)

pub returns : goal.returns
returns c = λ few fit.
    let text = c.args.text.now in
    let shape = c.args.shape.now in
    let count = c.args.count in
    let date = c.in_ok-date.date in
    short_read count text c.in_ok-year.field-0-1.now _ c.in_ok-year.year c.in_ok-month.month date _ few (ended shape.length text (omega (arith, c.requires.whole))) (c.in_ok-date.ensures (short_from_day count) fit) (rw (take_rest text count) at c.in_ok-month.ensures.there)
    (rw (take_rest text (count + 5)) at (sym c.in_ok-year.ensures.cut))
    (record { same_year = c.full_year-year.ensures.value; same_month = refl; same_day = refl; same_minute = refl; same_second = refl; same_fraction = refl; same_offset = refl })
