-- Reading a description from left to right: what it means and what follows it, or the first fault.
use Rattle.std.specs.Prelude.{ℕ, zero, suc, ◌==◌, ◌||◌, ◌&&◌, not, Bool, true, false, List, length, take, Option, Some, None, Result, Ok, Err, if◌then◌else◌, codes}
use Rattle.base.specs.Bytes.{left_bracket, backslash, right_bracket}
use Rattle.description_lexer.specs.Fault.{Fault, Expected, NotSupported}
use Rattle.description_lexer.specs.Answer.{◌>>=◌}
use Rattle.description_items.specs.declared.component.Component.{Component}
use Rattle.description_items.specs.Tree.{Tree, Literal, Part, Compound, Optional, First, listed}
use Rattle.description_tables.specs.Component.{component_of}
use Rattle.description_lexer.specs.declared.version.DescriptionVersion.{DescriptionVersion}
use Rattle.description_lexer.specs.declared.version.DescriptionVersion.TheVariants.{Three}
use Rattle.description_lexer.specs.Version.{is_one, is_three}
use Rattle.description_lexer.specs.Text.{Rest, is_space, past, after, whole}
use Rattle.description_lexer.specs.Many.{many}
use Rattle.description_lexer.specs.Words.{is_named, begins, modifiers_at, name_at, closed_at, escape_at, literal_len}

-- a bracket that version 1 spells by two
unfoldable pub doubled_at : DescriptionVersion → Rest → Option (List ℕ × Rest)
doubled_at v here =
    if is_one v && (begins left_bracket here.text && begins left_bracket (after 1 here).text) then Some (take 1 (after 1 here).text, after 1 (after 1 here))
    else None

-- a literal, or what a backslash takes as it stands
unfoldable pub text_at : DescriptionVersion → Rest → Result (List ℕ × Rest) Fault
text_at v here =
    if not (is_one v) && begins backslash here.text then escape_at here
    else Ok (take (literal_len v here.text) here.text, after (literal_len v here.text) here)

-- a component after its name
unfoldable pub component_from : DescriptionVersion → ℕ → Rest → Rest → Result (Component × Rest) Fault
component_from v bracket name here = do
  modifiers ← modifiers_at here
  rest ← closed_at bracket modifiers.1
  component ← component_of v name modifiers.0
  Ok (component, rest)

-- how a nested description is read, from its bracket on
abbrev pub Nester : Type 0
Nester = Rest → Result (Tree × Rest) Fault

abbrev pub is_same : Rest → Rest → Bool
is_same here there = length here.text == length there.text

-- the white space and the bracket that a nesting name needs
unfoldable pub opened_at : List ℕ → Rest → Result Rest Fault
opened_at what here =
    if is_same (past is_space here) here then Err (Expected what here.index)
    else (if begins left_bracket (past is_space here).text then Ok (past is_space here)
    else Err (Expected (codes "opening bracket") (past is_space here).index))

-- versions 1 and 2 have no nested items
abbrev pub unsupported_at : ℕ → Fault
unsupported_at bracket = NotSupported (codes "nested item") (codes "versions 1 and 2") bracket

abbrev pub supported : DescriptionVersion → ℕ → Tree → Rest → Result (Tree × Rest) Fault
supported v bracket t rest = if is_three v then Ok (t, rest) else Err (unsupported_at bracket)

unfoldable pub optional_at : DescriptionVersion → Nester → ℕ → Rest → Result (Tree × Rest) Fault
optional_at v inside bracket here = do
  start ← opened_at (codes "whitespace after `optional`") here
  item ← inside start
  rest ← closed_at bracket item.1
  supported v bracket (Optional true item.0) rest

abbrev pub no_bracket : Rest → Bool
no_bracket here = not (begins left_bracket here.text)

unfoldable pub first_at : DescriptionVersion → Nester → ℕ → Rest → Result (Tree × Rest) Fault
first_at v inside bracket here = do
  start ← opened_at (codes "whitespace after `first`") here
  all ← many no_bracket inside (suc (length start.text)) start
  rest ← closed_at bracket all.1
  supported v bracket (First (listed all.0)) rest

-- what a bracket opens: a nested item or a component
unfoldable pub bracket_at : DescriptionVersion → Nester → Rest → Result (Tree × Rest) Fault
bracket_at v inside here = do
  name ← name_at here.index (after 1 here)
  (if is_named v name.0.text (codes "optional") then optional_at v inside here.index name.1
      else (if is_named v name.0.text (codes "first") then first_at v inside here.index name.1
      else (component_from v here.index name.0 name.1 >>= λ c. Ok (Part c.0, c.1))))

abbrev pub literal_or : Option (List ℕ × Rest) → Result (Tree × Rest) Fault → Result (Tree × Rest) Fault
literal_or (Some x) read = Ok (Literal x.0, x.1)
literal_or None read = read

unfoldable pub element_at : DescriptionVersion → Nester → Rest → Result (Tree × Rest) Fault
element_at v inside here = literal_or (doubled_at v here) (if begins left_bracket here.text then bracket_at v inside here else (text_at v here >>= λ x. Ok (Literal x.0, x.1)))

-- at the outer level only the end ends a description
abbrev pub is_end : Bool → Rest → Bool
is_end inner here = length here.text == 0 || (inner && begins right_bracket here.text)

-- a nested description, where so many levels may be opened; past them it is refused at once
unfoldable pub nested_at : DescriptionVersion → ℕ → Nester
nested_at v zero here = Err (NotSupported (codes "nesting past 127 levels") (codes "format descriptions") here.index)
nested_at v (suc levels) here = do
  items ← many (is_end true) (element_at v (nested_at v levels)) (suc (length (after 1 here).text)) (after 1 here)
  rest ← closed_at here.index items.1
  Ok (Compound (listed items.0), past is_space rest)

-- all of a text
unfoldable pub read_items : DescriptionVersion → List ℕ → Result (List Tree) Fault
read_items v text = do
  items ← many (is_end false) (element_at v (nested_at v 127)) (suc (length text)) (whole text)
  Ok items.0

unfoldable pub read_tree : List ℕ → Result Tree Fault
read_tree text = do
  items ← read_items Three text
  Ok (Compound (listed items))
