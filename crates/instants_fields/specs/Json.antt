-- Values in JSON: RFC 8259.
use Rattle.std.specs.Prelude.{ℕ, zero, suc, ◌==◌, ◌||◌, Bool, true, false, List, [], ◌∷◌, Option, Some, None, option_map, if◌then◌else◌}
use Rattle.std.specs.Char.{is_ascii_digit}
use Rattle.instants_fields.specs.Pieces.{Piece, ◌>>=◌, ◌>>◌, give, left, byte, after_byte, without, Turn, another, last, repeated}
use Rattle.instants_fields.specs.Strings.{string, text_of}
use Rattle.instants_fields.specs.declared.value.Kind.{Kind}
use Rattle.instants_fields.specs.declared.value.Kind.TheVariants as kind
use Rattle.instants_fields.specs.declared.value.Extent.{Extent}

-- section 2: white space
abbrev pub is_space : ℕ → Bool
is_space c = (c == 32) || (c == 9) || (c == 10) || (c == 13)

abbrev pub space : Piece (Unit {0})
space text = Some (tt, without is_space text)

-- section 6: digits, one at least
unfoldable pub digits : Piece (Unit {0})
digits [] = None
digits (c ∷ rest) = if is_ascii_digit c then Some (tt, without is_ascii_digit rest) else None

abbrev pub integer : Piece (Unit {0})
integer = after_byte 48 (give tt) digits

abbrev pub fraction : Piece (Unit {0})
fraction = after_byte 46 digits (give tt)

abbrev pub signed : Piece (Unit {0})
signed = after_byte 43 digits (after_byte 45 digits digits)

abbrev pub exponent : Piece (Unit {0})
exponent = after_byte 101 signed (after_byte 69 signed (give tt))

unfoldable pub number : Piece Kind
number = do
  after_byte 45 integer integer
  fraction
  exponent
  give kind.Number

-- section 3: `true`, `false` and `null`
unfoldable pub true_word : Piece Kind
true_word = do
  byte 114
  byte 117
  byte 101
  give kind.Other

unfoldable pub false_word : Piece Kind
false_word = do
  byte 97
  byte 108
  byte 115
  byte 101
  give kind.Other

unfoldable pub null_word : Piece Kind
null_word = do
  byte 117
  byte 108
  byte 108
  give kind.Other

unfoldable pub quoted : Piece Kind
quoted = do
  string
  give kind.String

-- a value without levels
unfoldable pub scalar : Piece Kind
scalar = after_byte 34 quoted (after_byte 116 true_word (after_byte 102 false_word (after_byte 110 null_word number)))

-- section 4: a name, and the colon behind it
unfoldable pub named : Piece (Option (List ℕ))
named = do
  byte 34
  characters ← string
  space
  byte 58
  space
  give (text_of characters)

-- before an item of an array nothing, and before one of an object its name
unfoldable pub key : Bool → Piece (Option (List ℕ))
key true = named
key false = give None

-- an item of an array or an object: the name, if it has one, and its value
pub record Item : Type 0 where
  pub name : Option (List ℕ)
  pub extent : Extent

-- the value of an item with such a name
abbrev pub item_named : Piece Kind → Option (List ℕ) → Piece Item
item_named value name = do
  before ← left
  its_kind ← value
  after ← left
  give (record { name = name; extent = record { kind = its_kind; before = before; after = after } })

unfoldable pub item : Bool → Piece Kind → Piece Item
item is_object value = do
  name ← key is_object
  item_named value name

abbrev pub closing : Bool → ℕ
closing true = 125
closing false = 93

-- a comma, or the closing bracket
unfoldable pub separator : Bool → Piece Bool
separator is_object = after_byte 44 (give false) (byte (closing is_object) >> give true)

abbrev pub turn_of : Item → Bool → Turn Item
turn_of one true = last (one ∷ [])
turn_of one false = another one

-- what separates an item from the next, or ends the last
abbrev pub ended : Bool → Item → Piece (Turn Item)
ended is_object one = do
  space
  is_last ← separator is_object
  give (turn_of one is_last)

-- sections 4 and 5
unfoldable pub turn : Bool → Piece Kind → Piece (Turn Item)
turn is_object value = do
  space
  one ← item is_object value
  ended is_object one

-- the items of an array or an object up to its closing bracket
unfoldable pub items : Bool → Piece Kind → Piece (List Item)
items is_object value = do
  space
  after_byte (closing is_object) (give []) (repeated (turn is_object value))

-- whether an object or an array begins
unfoldable pub opened : Piece Bool
opened = after_byte 123 (give true) (byte 91 >> give false)

abbrev pub value_in : Piece Kind → List ℕ → Option (Bool × List ℕ) → Option (Kind × List ℕ)
value_in value text None = scalar text
value_in value text (Some (is_object, rest)) = option_map (λ p. (kind.Other, p.1)) (items is_object value rest)

-- a value of at most so many levels
unfoldable pub value : ℕ → Piece Kind
value zero text = scalar text
value (suc levels) text = value_in (value levels) text (opened text)
