-- Versions by their number.
use Rattle.std.specs.Prelude.{Bool, true, false}
use Rattle.description_lexer.specs.declared.version.DescriptionVersion.{DescriptionVersion}
use Rattle.description_lexer.specs.declared.version.DescriptionVersion.TheVariants.{One, Two, Three}

abbrev pub is_one : DescriptionVersion → Bool
is_one One = true
is_one Two = false
is_one Three = false

abbrev pub is_three : DescriptionVersion → Bool
is_three One = false
is_three Two = false
is_three Three = true
