use Rattle.std.proofs.Common.{◌∙◌, map, refl, sym}
use Rattle.std.proofs.lemmas.List.{nil_from_length}
use Rattle.parsing_values.proofs.lemmas.Moments.{of_fields}
use Rattle.parsing_layout.proofs.TestLemmas.{same}
use Rattle.parsing_layout.proofs.ItemsLemmas.{certain_said}
use Rattle.parsing_layout.specs.declared.items.Item.TheVariants as item
use Rattle.parsing_strides.specs.Found.{values_in}
use Rattle.asctime_tests.specs.Asctime.{asctime_parts}
use Rattle.asctime_tests.proofs.SaysLemmas.{text_read}
use Rattle.asctime_tests.proofs.asctime.read_fields.Goals as goal

pub returns : goal.returns
returns c =
    let v = values_in c.read.new.found in
    let few = c.in_ok-minute.ensures.some.0 refl in
    let none = nil_from_length c.in_ok-rest.rest.now (same _ 0 (sym c.is_empty.ensures ∙ c.if-not-is_empty.false)) in
    let read = c.in_ok-rest.ensures.says (map item.Part asctime_parts) c.in_ok-strides.ensures refl in
    let says = (certain_said asctime_parts c.args.text.now v c.in_ok-rest.rest.now read.0 read.1).1 in
    let numbers = rw c.new-fraction.ensures at c.new.ensures.numbers in
    of_fields _ _ c.new.result numbers (λ f h. text_read c.args.text.now v f (rw none at says) (rw c.get.ensures at few.0) (rw c.get-2.ensures at few.1)
    (rw (← c.get.ensures, ← c.get-2.ensures, ← c.in_ok-minute.ensures.value, ← c.year.ensures.value, ← c.get-month.ensures, ← c.get-day.ensures, ← c.get-second.ensures) h))
