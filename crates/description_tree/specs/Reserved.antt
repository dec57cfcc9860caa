-- The bytes that a tree reserves: what its longest layout takes.
use Rattle.std.specs.Prelude.{◌≡◌, ℕ, ◌+◌, ◌≤◌, max, if◌then◌else◌, true, false, length, ◌⊎◌}
use Rattle.description_items.specs.declared.component.Component.{Component}
use Rattle.description_items.specs.declared.component.Component.TheVariants as component
use Rattle.description_items.specs.Tree.{Tree, Literal, Part, Compound, Optional, First, Trees, none, also}
use Rattle.description_modifiers.specs.declared.choices.SubsecondDigits.{SubsecondDigits}
use Rattle.description_modifiers.specs.declared.choices.SubsecondDigits.TheVariants.{One, Two, Three, Four, Five, Six, Seven, Eight, Nine, OneOrMore}

abbrev pub digits_width : SubsecondDigits → ℕ
digits_width One = 1
digits_width Two = 2
digits_width Three = 3
digits_width Four = 4
digits_width Five = 5
digits_width Six = 6
digits_width Seven = 7
digits_width Eight = 8
digits_width Nine = 9
digits_width OneOrMore = 9

-- The bytes of the longest value of a component, over all that the calendar has: years of six digits
-- and a sign where their range is extended, Unix timestamps from the first instant to the last.
unfoldable pub width_of : Component → ℕ
width_of (component.CalendarYearFullExtendedRange m) = 7
width_of (component.IsoYearFullExtendedRange m) = 7
width_of (component.CalendarYearFullStandardRange m) = 5
width_of (component.IsoYearFullStandardRange m) = 5
width_of (component.CalendarYearCenturyExtendedRange m) = 5
width_of (component.IsoYearCenturyExtendedRange m) = 5
width_of (component.CalendarYearCenturyStandardRange m) = 3
width_of (component.IsoYearCenturyStandardRange m) = 3
width_of (component.MonthLong m) = 9
width_of (component.MonthShort m) = 3
width_of (component.WeekdayLong m) = 9
width_of (component.WeekdayShort m) = 3
width_of (component.WeekdaySunday m) = 1
width_of (component.WeekdayMonday m) = 1
width_of (component.Ordinal m) = 3
width_of (component.Subsecond m) = digits_width m.digits
width_of (component.OffsetHour m) = 3
width_of (component.UnixTimestampSecond m) = 15
width_of (component.UnixTimestampMillisecond m) = 18
width_of (component.UnixTimestampMicrosecond m) = 21
width_of (component.UnixTimestampNanosecond m) = 24
width_of (component.Ignore m) = 0
width_of (component.End m) = 0
width_of other = 2

-- Some layout of the tree takes n bytes: a literal its own, a component no more than its width,
-- nodes in turn the sum, the first of several those of one of them, an optional one those of its
-- node where it is written.
abbrev mutual
  pub Takes : Tree → ℕ → Type 0
  Takes (Literal s) n = n ≡ length s
  Takes (Part c) n = n ≤ width_of c
  Takes (Compound ts) n = TakeInTurn ts n
  Takes (Optional true t) n = Takes t n
  Takes (Optional false t) n = n ≡ 0
  Takes (First none) n = n ≡ 0
  Takes (First (also t ts)) n = Takes t n ⊎ OneTakes ts n

  pub TakeInTurn : Trees → ℕ → Type 0
  TakeInTurn none n = n ≡ 0
  TakeInTurn (also t ts) n = (i : ℕ) × (j : ℕ) × Takes t i × TakeInTurn ts j × (n ≡ i + j)

  pub OneTakes : Trees → ℕ → Type 0
  OneTakes none n = ⊥
  OneTakes (also t ts) n = Takes t n ⊎ OneTakes ts n

-- some layout takes n bytes, and none takes more
abbrev pub IsLongest : Tree → ℕ → Type 0
IsLongest t n = Takes t n × ((m : ℕ) → Takes t m → m ≤ n)

-- the same as a number
abbrev mutual
  pub reserved : Tree → ℕ
  reserved (Literal s) = length s
  reserved (Part c) = width_of c
  reserved (Compound ts) = reserved_in_turn ts
  reserved (Optional written t) = if written then reserved t else 0
  reserved (First ts) = greatest_reserved ts

  pub reserved_in_turn : Trees → ℕ
  reserved_in_turn none = 0
  reserved_in_turn (also t ts) = reserved t + reserved_in_turn ts

  pub greatest_reserved : Trees → ℕ
  greatest_reserved none = 0
  greatest_reserved (also t ts) = max (reserved t) (greatest_reserved ts)
