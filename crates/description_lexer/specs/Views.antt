-- Rests and modifiers of the code as those of the definitions.
use Rattle.std.specs.Prelude.{List, map}
use Rattle.description_lexer.specs.declared.rest.Rest as code
use Rattle.description_lexer.specs.declared.modifiers.Modifier as code_modifier
use Rattle.description_lexer.specs.Text.{Rest}
use Rattle.description_lexer.specs.Words.{Modifier}

abbrev pub rest_of : code.Rest → Rest
rest_of here = record { index = here.index; text = here.text.now }

abbrev pub modifier : code_modifier.Modifier → Modifier
modifier m = record { key = rest_of m.key; value = rest_of m.value }

abbrev pub modifiers : List code_modifier.Modifier → List Modifier
modifiers ms = map modifier ms
