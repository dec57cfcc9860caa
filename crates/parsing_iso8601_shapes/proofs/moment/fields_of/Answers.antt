use Rattle.std.proofs.Common.{◌≡◌, refl}
use Rattle.parsing_values.specs.declared.fields.Fields.{Fields}
use Rattle.parsing_values.specs.Numbers.{HaveNumbers}
use Rattle.parsing_values.proofs.lemmas.Moments.{of_fields}
use Rattle.parsing_shapes.specs.declared.numbers.Numbers.{Numbers}
use Rattle.parsing_iso8601_shapes.specs.Layout.{AreDated}
use Rattle.parsing_iso8601_shapes.specs.declared.form.Dating.{Dating}
use Rattle.parsing_iso8601_shapes.specs.declared.form.Dating.TheVariants.{Calendar}
use Rattle.parsing_iso8601_shapes.proofs.moment.fields_of.Goals as goal

calendar_dated : (dating : Dating) (n : Numbers) (f : Fields) → dating ≡ Calendar → HaveNumbers f n.year n.high n.low n.minute n.second n.fraction n.offset → AreDated dating n f
calendar_dated dating n f is h = record {
  month = n.high;
  day = n.low;
  names = record { there = rw (← h.same_year, ← h.same_month, ← h.same_day) f.day_is_there; calendar = λ e. (refl, refl); ordinal = λ e. absurd cc; week = λ e. absurd cc };
  numbers = h;
}

pub returns-in-Calendar : goal.returns-in-Calendar
returns-in-Calendar c = of_fields _ _ c.on_day.result c.on_day.ensures (λ f h. calendar_dated c.args.dating c.args.numbers f c.in-Calendar.is h)
