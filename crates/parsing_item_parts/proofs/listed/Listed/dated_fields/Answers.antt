use Rattle.std.proofs.Common.{◌≡◌, refl, arith, to_z, of_z, w16}
use Rattle.std.proofs.lemmas.Int.{ints}
use Rattle.parsing_layout.specs.declared.parts.Field.TheVariants as field
use Rattle.parsing_strides.specs.Found.{values_in}
use Rattle.parsing_item_parts.proofs.MomentLemmas.{day_named, moment_said}
use Rattle.parsing_item_parts.proofs.SaidLemmas.{day_said, second_said, fraction_said}
use Rattle.parsing_item_parts.proofs.listed.Listed.dated_fields.Goals as goal

pub of_numbers-requires : goal.of_numbers-requires
of_numbers-requires c =
    let range = c.requires.range in
    let month = range field.Month in
    let minute = range field.Minute in
    let second = range field.Second in
    let whole : to_z w16 (of_z w16 c.offset-offset.result) ≡ c.offset-offset.result = omega (arith, ints, c.offset-offset.ensures.bound) in
    record {
      day_is_there =
          day_named c.year-year.result c.get-month.result c.get-day.result c.year-year.ensures.bound
          (omega (arith, c.get-month.ensures, month)) (omega (arith, c.get-month.ensures, month)) (c.if-not-has_day.ensures.0 refl);
      four_digits = c.year-year.ensures.bound;
      within_a_day = omega (arith, c.hour.ensures.bound, c.get.ensures, minute);
      within_a_minute = omega (arith, c.get-second.ensures, second);
      is_offset = rw whole c.offset-offset.ensures.bound;
    }

pub returns : goal.returns
returns c =
    let l = c.args.self.now in
    let v = values_in c.args.found.now in
    let range = c.requires.range in
    let whole : to_z w16 (of_z w16 c.offset-offset.result) ≡ c.offset-offset.result = omega (arith, ints, c.offset-offset.ensures.bound) in
    let numbers = rw (whole, c.year-year.ensures.value, c.get-month.ensures, c.get-day.ensures, c.from.ensures, c.from-2.ensures, c.get.ensures, c.get-second.ensures, c.fraction.ensures.value) at c.of_numbers.ensures in
    λ has assumed way assumes.
    let said = rw (second_said l has v c.requires.dated way range, fraction_said l has v way) at numbers in
    moment_said assumed has v c.of_numbers.result c.hour.result c.offset-offset.result (λ f _. range f)
    (day_said l has v c.requires.dated way range) (c.hour.ensures.hour has assumed way) c.hour.ensures.bound (c.offset-offset.ensures.named has assumed way assumes) said
