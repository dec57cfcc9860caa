-- Columns: RFC 4180, section 2, with any byte between them, and the type text/tab-separated-values with a tab.
use Rattle.std.specs.Prelude.{ℕ, zero, suc, ◌≢◌, ◌≤◌, ◌+◌, ◌-◌, ◌==◌, Bool, true, not, List, [], ◌∷◌, length, take, get_or, Option, Some, None, option_map, if◌then◌else◌}
use Rattle.instants_fields.specs.Pieces.{Piece, ◌>>◌, give, byte, after_byte, without}
use Rattle.instants_fields.specs.declared.columns.Part.{Part}
use Rattle.instants_fields.specs.declared.columns.Cut.{Cut}

-- what may stand between columns: no quotation mark, and no end of a line
pub record IsSeparator (separator : ℕ) : Type 0 where
  pub mark : separator ≢ 34
  pub line_feed : separator ≢ 10
  pub carriage_return : separator ≢ 13

abbrev pub is_other : ℕ → ℕ → Bool
is_other separator c = not (c == separator)

-- where a column begins and ends, by how many bytes are left there
pub record Span : Type 0 where
  pub before : ℕ
  pub after : ℕ

-- what a function cut off
abbrev pub cuts_view : Option Cut → Option (Span × List ℕ)
cuts_view cut = option_map (λ c. (record { before = c.before; after = c.after }, c.rest.now)) cut

-- a column lies in a text of so many bytes, and something is left
pub record CutsFrom (whole : ℕ) (cut : Cut) : Type 0 where
  pub before : cut.before ≤ whole
  pub after : cut.after ≤ cut.before
  pub rest : length cut.rest.now ≤ cut.after

-- a column without quotation marks
abbrev pub plain : ℕ → Piece Span
plain separator text = Some (record { before = length text; after = length (without (is_other separator) text) }, without (is_other separator) text)

-- what stands after the mark that closes a column; two marks are one that belongs to the column
unfoldable pub after_mark : List ℕ → Option (List ℕ)
after_mark [] = None
after_mark (c ∷ []) = if c == 34 then Some [] else None
after_mark (c ∷ d ∷ rest) = if c == 34 then (if d == 34 then after_mark rest else Some (d ∷ rest)) else after_mark (d ∷ rest)

-- a column between quotation marks, after the first of them
abbrev pub marked : Piece Span
marked text = option_map (λ rest. (record { before = length text; after = length rest + 1 }, rest)) (after_mark text)

-- a column that may stand between quotation marks
unfoldable pub marked_or_plain : ℕ → Piece Span
marked_or_plain separator = after_byte 34 marked (plain separator)

-- a column; with tabs no quotation mark is special
unfoldable pub one_column : ℕ → Piece Span
one_column separator = if separator == 9 then plain separator else marked_or_plain separator

-- so many columns, with a separator after each
unfoldable pub columns : ℕ → ℕ → Piece (Unit {0})
columns separator zero = give tt
columns separator (suc n) = do
  one_column separator
  byte separator
  columns separator n

-- the column after so many others
unfoldable pub column_after : ℕ → ℕ → Piece Span
column_after separator others = do
  columns separator others
  one_column separator

-- after a column the line ends, or a separator follows
abbrev pub is_ended : ℕ → List ℕ → Bool
is_ended separator [] = true
is_ended separator (c ∷ rest) = c == separator

abbrev pub part_of : ℕ → ℕ → Option (Span × List ℕ) → Option Part
part_of separator whole None = None
part_of separator whole (Some (span, rest)) = if is_ended separator rest then Some (record { start = whole - span.before; end = whole - span.after }) else None

-- the line without a carriage return at its end
abbrev pub without_return : List ℕ → List ℕ
without_return line = if get_or line (length line - 1) 0 == 13 then take (length line - 1) line else line

-- the column of a number, from 1
unfoldable pub column_of : List ℕ → ℕ → ℕ → Option Part
column_of line zero separator = None
column_of line (suc others) separator = part_of separator (length (without_return line)) (column_after separator others (without_return line))
