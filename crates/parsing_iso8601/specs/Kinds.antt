-- Texts of the basic format have nothing between their numbers; those of the extended format have hyphens and colons (ISO 8601-1:2019, 4.2).
use Rattle.base.specs.Bytes.{hyphen, colon}
use Rattle.parsing_combinator.specs.Fault.{literal}
use Rattle.parsing_combinator.specs.Pieces.{Piece, byte}
use Rattle.parsing_combinator.specs.Readings.{Reading, ◌or◌, give, if_there}
use Rattle.parsing_iso8601.specs.AllOrNothing as part
use Rattle.parsing_iso8601.specs.declared.kind.Kind.{Kind}
use Rattle.parsing_iso8601.specs.declared.kind.Kind.TheVariants.{Unknown, Basic, Extended}

-- a value of one of three, by the kind
abbrev pub by_kind : {A : Type 0} → Kind → A → A → A → A
by_kind Unknown unknown basic extended = unknown
by_kind Basic unknown basic extended = basic
by_kind Extended unknown basic extended = extended

-- after the year: a hyphen makes the kind extended, its absence basic
unfoldable pub kind_of_date : Reading Kind
kind_of_date = if_there (byte hyphen) (λ _. give Extended) (give Basic)

-- the hyphen between two numbers of a date, which the extended kind has
abbrev pub dash : Kind → Reading (Unit {0})
dash kind = by_kind kind (give tt) (give tt) (byte hyphen or literal)

-- after the hour: a colon makes an unknown kind extended, and the basic kind has none
unfoldable pub kind_of_time : Kind → Piece Kind
kind_of_time kind =
    part.if_there (byte colon) (λ _. by_kind kind (part.give Extended) part.refuse (part.give Extended)) (part.give kind)

-- minutes without a colon make an unknown kind basic
abbrev pub settled : Kind → Kind
settled kind = by_kind kind Basic Basic Extended
