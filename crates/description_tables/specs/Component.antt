-- Which component a name and its modifiers mean, or what is wrong with them first.
use Rattle.std.specs.Prelude.{◌&&◌, not, List, [], ◌∷◌, Option, Some, None, Result, Ok, Err, if◌then◌else◌, codes}
use Rattle.description_lexer.specs.Fault.{Fault, InvalidComponentName, InvalidModifier, MissingRequiredModifier, DuplicateModifier, InvalidModifierCombination}
use Rattle.description_lexer.specs.Answer.{◌>>=◌}
use Rattle.description_items.specs.declared.component.Component.{Component}
use Rattle.description_lexer.specs.declared.version.DescriptionVersion.{DescriptionVersion}
use Rattle.description_lexer.specs.Version.{is_three}
use Rattle.description_lexer.specs.Text.{Rest}
use Rattle.description_lexer.specs.Words.{Modifier}
use Rattle.description_tables.specs.declared.names.Name.{Name}
use Rattle.description_tables.specs.declared.keys.Key.{Key}
use Rattle.description_tables.specs.declared.chosen.Chosen.{Chosen}
use Rattle.description_tables.specs.Names.{name_of, name_text}
use Rattle.description_tables.specs.Keys.{key_of, has_key}
use Rattle.description_tables.specs.Chosen.{nothing, with_value, is_chosen, is_carried}
use Rattle.description_tables.specs.Made.{made}

-- a value that is there, or the fault
abbrev pub found : {A : Type 0} → Option A → Fault → Result A Fault
found None fault = Err fault
found (Some x) fault = Ok x

abbrev pub bad : Rest → Fault
bad word = InvalidModifier word.text word.index

-- the key among those of the component
abbrev pub key_among : Option Key → Name → Fault → Result Key Fault
key_among None n fault = Err fault
key_among (Some k) n fault = if has_key k n then Ok k else Err fault

abbrev pub key_in : DescriptionVersion → Name → Rest → Result Key Fault
key_in v n word = key_among (key_of v word.text) n (bad word)

-- its key, then in version 3 that it is the first with that key, then its value
unfoldable pub with_modifier : DescriptionVersion → Name → Chosen → Modifier → Result Chosen Fault
with_modifier v n c m = do
  k ← key_in v n m.key
  (if is_three v && is_chosen c k then Err (DuplicateModifier m.key.text m.key.index) else found (with_value v n c k m.value.text) (bad m.value))

unfoldable pub with_modifiers : DescriptionVersion → Name → Chosen → List Modifier → Result Chosen Fault
with_modifiers v n c [] = Ok c
with_modifiers v n c (m ∷ ms) = do
  d ← with_modifier v n c m
  with_modifiers v n d ms

-- in version 3 no modifier stands idle; the leftmost that does is the fault
unfoldable pub combined : DescriptionVersion → Name → Chosen → List Modifier → Result Chosen Fault
combined v n c [] = Ok c
combined v n c (m ∷ ms) = do
  k ← key_in v n m.key
  (if is_three v && not (is_carried n c.repr k) then Err (InvalidModifierCombination m.key.text (name_text n) m.key.index) else combined v n c ms)

unfoldable pub named : DescriptionVersion → Rest → Result Name Fault
named v word = found (name_of v word.text) (InvalidComponentName word.text word.index)

-- the name, then each modifier in turn, then combinations, then what is required
unfoldable pub component_of : DescriptionVersion → Rest → List Modifier → Result Component Fault
component_of v word ms = do
  n ← named v word
  c ← with_modifiers v n nothing ms
  d ← combined v n c ms
  found (made v n d) (MissingRequiredModifier (codes "count") word.index)
