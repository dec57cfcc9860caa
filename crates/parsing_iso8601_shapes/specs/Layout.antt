-- The layouts of usual texts, and the days that their dates name.
use Rattle.std.specs.Prelude.{◌≡◌, ◌≤◌, ◌+◌, ◌-◌, ◌*◌, ℕ, Bool, true, false, List, [], ◌∷◌, ◌++◌, pos}
use Rattle.base.specs.Bytes.{hyphen, colon}
use Rattle.calendar_count.specs.Calendar.{IsDay}
use Rattle.parsing_values.specs.Numbers.{HaveNumbers}
use Rattle.parsing_values.specs.declared.fields.Fields.{Fields}
use Rattle.parsing_shapes.specs.declared.numbers.Numbers.{Numbers}
use Rattle.parsing_layout.specs.declared.parts.Part.{Part}
use Rattle.parsing_layout.specs.declared.parts.Field.TheVariants as field
use Rattle.parsing_layout.specs.declared.parts.Part.TheVariants.{Byte, Digits}
use Rattle.parsing_iso8601.specs.Designators.{time_designator, week_designator}
use Rattle.parsing_iso8601_shapes.specs.Days.{NamesOrdinal, NamesWeekDay}
use Rattle.parsing_iso8601_shapes.specs.declared.form.Dating.{Dating}
use Rattle.parsing_iso8601_shapes.specs.declared.form.Dating.TheVariants.{Calendar, Ordinal, Week}

-- a date of the extended format or of the basic one: `1985-04-12`, `19850412`; `1985-102`, `1985102`; `1985-W15-5`, `1985W155`
abbrev pub date_parts : Dating → Bool → List Part
date_parts Calendar true = Digits field.Year 4 ∷ Byte hyphen ∷ Digits field.Month 2 ∷ Byte hyphen ∷ Digits field.Day 2 ∷ []
date_parts Calendar false = Digits field.Year 4 ∷ Digits field.Month 2 ∷ Digits field.Day 2 ∷ []
date_parts Ordinal true = Digits field.Year 4 ∷ Byte hyphen ∷ Digits field.OrdinalTens 2 ∷ Digits field.OrdinalOnes 1 ∷ []
date_parts Ordinal false = Digits field.Year 4 ∷ Digits field.OrdinalTens 2 ∷ Digits field.OrdinalOnes 1 ∷ []
date_parts Week true = Digits field.Year 4 ∷ Byte hyphen ∷ Byte week_designator ∷ Digits field.IsoWeek 2 ∷ Byte hyphen ∷ Digits field.Weekday 1 ∷ []
date_parts Week false = Digits field.Year 4 ∷ Byte week_designator ∷ Digits field.IsoWeek 2 ∷ Digits field.Weekday 1 ∷ []

-- a time of day, with a second or without: `T23:20:50`, `T23:20`; `T232050`, `T2320`
abbrev pub clock_parts : Bool → Bool → List Part
clock_parts true true = Byte time_designator ∷ Digits field.Hour 2 ∷ Byte colon ∷ Digits field.Minute 2 ∷ Byte colon ∷ Digits field.Second 2 ∷ []
clock_parts true false = Byte time_designator ∷ Digits field.Hour 2 ∷ Byte colon ∷ Digits field.Minute 2 ∷ []
clock_parts false true = Byte time_designator ∷ Digits field.Hour 2 ∷ Digits field.Minute 2 ∷ Digits field.Second 2 ∷ []
clock_parts false false = Byte time_designator ∷ Digits field.Hour 2 ∷ Digits field.Minute 2 ∷ []

-- both
abbrev pub front_parts : Dating → Bool → Bool → List Part
front_parts dating is_extended has_second = date_parts dating is_extended ++ clock_parts is_extended has_second

-- which row of a table has a form, with a second or without
abbrev pub row_of : ℕ → Bool → ℕ
row_of form true = form
row_of form false = 6 + form

-- two numbers of a date after its year are this day of a month of the year
pub record NamesDate (dating : Dating) (year high low month day : ℕ) : Type 0 where
  pub there : IsDay (pos year) month day
  pub calendar : dating ≡ Calendar → (month ≡ high) × (day ≡ low)
  pub ordinal : dating ≡ Ordinal → (1 ≤ high * 10 + low) × (high * 10 + low ≤ 365) × NamesOrdinal year (high * 10 + low) month day
  pub week : dating ≡ Week → (1 ≤ low) × (low ≤ 7) × NamesWeekDay year high (low - 1) month day

-- fields have the numbers of a text, on the day that the numbers of its date name
pub record AreDated (dating : Dating) (n : Numbers) (f : Fields) : Type 0 where
  pub month : ℕ
  pub day : ℕ
  pub names : NamesDate dating n.year n.high n.low month day
  pub numbers : HaveNumbers f n.year month day n.minute n.second n.fraction n.offset
