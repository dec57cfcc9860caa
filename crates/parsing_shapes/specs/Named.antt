-- The moment of a text whose month is read beside its lanes, and that has an offset.
use Rattle.std.specs.Prelude.{◌≤◌, ◌+◌, ◌*◌, ℕ, false, List}
use Rattle.parsing_values.specs.Numbers.{HaveNumbers}
use Rattle.parsing_values.specs.declared.fields.Fields.{Fields}
use Rattle.parsing_layout.specs.Layout.{Values, Says}
use Rattle.parsing_layout.specs.declared.parts.Part.{Part}
use Rattle.parsing_shapes.specs.Moment.{HasOffset}
use Rattle.parsing_layout.specs.declared.parts.Field.TheVariants as field

-- fields are those of a text that begins with a layout, in a month that its parts don't say, and this stands after them
pub record SaysNamed (parts : List Part) (month : ℕ) (text rest : List ℕ) (f : Fields) : Type 0 where
  pub values : Values
  pub says : Says parts text values rest
  pub numbers : HaveNumbers f (values field.Year) month (values field.Day) (values field.Hour * 60 + values field.Minute) (values field.Second) 0 f.offset
  pub hour_few : values field.Hour ≤ 23
  pub minute_few : values field.Minute ≤ 59
  pub offset_is : HasOffset false values f.offset
