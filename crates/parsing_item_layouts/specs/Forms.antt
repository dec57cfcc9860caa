-- The form of the texts of each component.
use Rattle.std.specs.Prelude.{◌≡◌, ◌⊎◌, ◌&&◌, ℕ, Bool, true, false, not, List, Some, IfOk}
use Rattle.description_modifiers.specs.declared.choices.Padding.{Padding}
use Rattle.description_modifiers.specs.declared.choices.Padding.TheVariants as padding
use Rattle.description_modifiers.specs.declared.choices.SubsecondDigits.{SubsecondDigits}
use Rattle.description_modifiers.specs.declared.choices.SubsecondDigits.TheVariants as digits_of
use Rattle.description_items.specs.declared.component.Component.{Component}
use Rattle.description_items.specs.declared.component.Component.TheVariants as component
use Rattle.parsing_combinator.specs.Pieces.{sign}
use Rattle.parsing_components.specs.Component.{reads_component, reads_component_v3}
use Rattle.parsing_layout.specs.Layout.{piece_of}
use Rattle.parsing_layout.specs.declared.parts.Field.{Field}
use Rattle.parsing_layout.specs.declared.parts.Part.{Part}
use Rattle.parsing_layout.specs.declared.stretch.Stretch.{Stretch}
use Rattle.parsing_layout.specs.Stretch.{IsCut, exactly, at_least}
use Rattle.parsing_layout.specs.declared.parts.Field.TheVariants as field
use Rattle.parsing_layout.specs.declared.parts.Names.TheVariants as names
use Rattle.parsing_layout.specs.declared.parts.Part.TheVariants as part
use Rattle.parsing_layout.specs.declared.stretch.Kind.TheVariants as kind
pub use Rattle.parsing_item_layouts.specs.declared.forms.Piece.{Piece}
use Rattle.parsing_item_layouts.specs.declared.forms.Piece.TheVariants as piece
pub use Rattle.parsing_item_layouts.specs.declared.forms.Form.{Form}
use Rattle.parsing_item_layouts.specs.declared.forms.Form.TheVariants as form

-- ---- what a form says of a text

-- a line begins with a piece, and this stands after it
abbrev pub IsPiece : Piece → List ℕ → List ℕ → Type 0
IsPiece (piece.Part p) line rest = (n : ℕ) × (piece_of p line ≡ Some (n, rest))
IsPiece (piece.Bytes stretch) line rest = IsCut stretch line rest

-- with a sign, and a piece after it
pub record AfterSign (p : Piece) (line rest : List ℕ) : Type 0 where
  pub mark : ℕ
  pub after : List ℕ
  pub signed : sign line ≡ Some (mark, after)
  pub there : IsPiece p after rest

abbrev pub IsFormed : Form → List ℕ → List ℕ → Type 0
IsFormed (form.Bare p) line rest = IsPiece p line rest
IsFormed (form.Signed p) line rest = AfterSign p line rest
IsFormed (form.Either signed bare) line rest = AfterSign signed line rest ⊎ IsPiece bare line rest

-- all that a component reads has the form, in version 3 and in the languages before it
pub record HasForm (c : Component) (f : Form) : Type 0 where
  pub older : (line : List ℕ) → IfOk (reads_component c line) (λ x. IsFormed f line x.1)
  pub newer : (line : List ℕ) → IfOk (reads_component_v3 c line) (λ x. IsFormed f line x.1)

-- ---- the forms

-- a number of two digits under a padding
abbrev pub padded_part : Padding → Field → Part
padded_part padding.Zero f = part.Digits f 2
padded_part padding.Space f = part.Spaced f
padded_part padding.None f = part.Bare f

-- .. that no field is the name of: so many bytes where it is padded
abbrev pub padded_stretch : Padding → ℕ → Bool → Stretch
padded_stretch padding.Zero least whole = record { kind = kind.Digit; least = least; is_whole = whole }
padded_stretch padding.Space least whole = record { kind = kind.DigitOrSpace; least = least; is_whole = whole }
padded_stretch padding.None least whole = at_least kind.Digit 1

abbrev pub padded_bytes : Padding → ℕ → Bool → Piece
padded_bytes p least whole = piece.Bytes (padded_stretch p least whole)

-- one to nine digits of a fraction, or all of them
abbrev pub fraction_part : SubsecondDigits → Part
fraction_part digits_of.One = part.Fraction 1
fraction_part digits_of.Two = part.Fraction 2
fraction_part digits_of.Three = part.Fraction 3
fraction_part digits_of.Four = part.Fraction 4
fraction_part digits_of.Five = part.Fraction 5
fraction_part digits_of.Six = part.Fraction 6
fraction_part digits_of.Seven = part.Fraction 7
fraction_part digits_of.Eight = part.Fraction 8
fraction_part digits_of.Nine = part.Fraction 9
fraction_part digits_of.OneOrMore = part.OpenFraction

-- after a sign, or where the sign is not mandatory, without one
abbrev pub signed_form : Bool → Piece → Piece → Form
signed_form true signed bare = form.Signed signed
signed_form false signed bare = form.Either signed bare

-- four digits of a year
abbrev pub full_year : Padding → Piece
full_year padding.Zero = piece.Part (part.Digits field.Year 4)
full_year p = padded_bytes p 4 true

abbrev pub year_form : Padding → Bool → Bool → Piece → Form
year_form p mandatory extended bare = signed_form mandatory (padded_bytes p 4 (not extended)) bare

abbrev pub century_form : Padding → Bool → Bool → Form
century_form p mandatory extended = signed_form mandatory (padded_bytes p 2 (not extended)) (padded_bytes p 1 false)

abbrev pub some_digits : Piece
some_digits = piece.Bytes (at_least kind.Digit 1)

abbrev pub timestamp_form : Bool → Piece → Form
timestamp_form mandatory bare = signed_form mandatory some_digits bare

-- without a sign, the hours of an offset are no part
abbrev pub hour_form : Padding → Bool → Form
hour_form p mandatory = signed_form mandatory (piece.Part (padded_part p field.OffsetHour)) (padded_bytes p 2 true)

abbrev pub one : Part → Form
one p = form.Bare (piece.Part p)

abbrev pub some_bytes : Stretch → Form
some_bytes stretch = form.Bare (piece.Bytes stretch)

-- ---- the form of each component

-- parts of times and offsets, timestamps, and what is passed over; of the end, and of older forms, nothing is known
abbrev pub form_of_time : Component → Form
form_of_time (component.Hour24 m) = one (padded_part m.padding field.Hour)
form_of_time (component.Hour12 m) = one (padded_part m.padding field.HourOfHalf)
form_of_time (component.Minute m) = one (padded_part m.padding field.Minute)
form_of_time (component.Second m) = one (padded_part m.padding field.Second)
form_of_time (component.Period m) = one (part.Name names.HalfOfDay (m.is_uppercase && m.case_sensitive))
form_of_time (component.Subsecond m) = one (fraction_part m.digits)
form_of_time (component.OffsetHour m) = hour_form m.padding m.sign_is_mandatory
form_of_time (component.OffsetMinute m) = one (padded_part m.padding field.OffsetMinute)
form_of_time (component.OffsetSecond m) = form.Bare (padded_bytes m.padding 2 true)
form_of_time (component.UnixTimestampSecond m) = timestamp_form m.sign_is_mandatory (piece.Part (part.Run field.Unix 14))
form_of_time (component.UnixTimestampMillisecond m) = timestamp_form m.sign_is_mandatory some_digits
form_of_time (component.UnixTimestampMicrosecond m) = timestamp_form m.sign_is_mandatory some_digits
form_of_time (component.UnixTimestampNanosecond m) = timestamp_form m.sign_is_mandatory some_digits
form_of_time (component.Ignore m) = some_bytes (exactly kind.Any m.count)
form_of_time other = some_bytes (at_least kind.Any 0)

-- years
abbrev pub form_of_year : Component → Form
form_of_year (component.CalendarYearFullExtendedRange m) = year_form m.padding m.sign_is_mandatory true (full_year m.padding)
form_of_year (component.CalendarYearFullStandardRange m) = year_form m.padding m.sign_is_mandatory false (full_year m.padding)
form_of_year (component.IsoYearFullExtendedRange m) = year_form m.padding m.sign_is_mandatory true (padded_bytes m.padding 4 true)
form_of_year (component.IsoYearFullStandardRange m) = year_form m.padding m.sign_is_mandatory false (padded_bytes m.padding 4 true)
form_of_year (component.CalendarYearCenturyExtendedRange m) = century_form m.padding m.sign_is_mandatory true
form_of_year (component.CalendarYearCenturyStandardRange m) = century_form m.padding m.sign_is_mandatory false
form_of_year (component.IsoYearCenturyExtendedRange m) = century_form m.padding m.sign_is_mandatory true
form_of_year (component.IsoYearCenturyStandardRange m) = century_form m.padding m.sign_is_mandatory false
form_of_year (component.CalendarYearLastTwo m) = form.Bare (padded_bytes m.padding 2 true)
form_of_year (component.IsoYearLastTwo m) = form.Bare (padded_bytes m.padding 2 true)
form_of_year other = form_of_time other

abbrev pub form_of : Component → Form
form_of (component.Day m) = one (padded_part m.padding field.Day)
form_of (component.MonthNumerical m) = one (padded_part m.padding field.Month)
form_of (component.MonthShort m) = one (part.Name names.ShortMonth m.case_sensitive)
form_of (component.MonthLong m) = one (part.Name names.LongMonth m.case_sensitive)
form_of (component.WeekdayShort m) = one (part.Name names.ShortWeekday m.case_sensitive)
form_of (component.WeekdayLong m) = one (part.Name names.LongWeekday m.case_sensitive)
form_of (component.WeekNumberIso m) = one (padded_part m.padding field.IsoWeek)
form_of (component.Ordinal m) = form.Bare (padded_bytes m.padding 3 true)
form_of (component.WeekNumberSunday m) = form.Bare (padded_bytes m.padding 2 true)
form_of (component.WeekNumberMonday m) = form.Bare (padded_bytes m.padding 2 true)
form_of (component.WeekdaySunday m) = some_bytes (exactly kind.Digit 1)
form_of (component.WeekdayMonday m) = some_bytes (exactly kind.Digit 1)
form_of other = form_of_year other
