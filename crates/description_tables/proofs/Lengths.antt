-- A word that is a name is as long.
use Rattle.std.proofs.Common.{◌≡◌, ℕ, true, List, length, sym, ap, ◌∙◌}
use Rattle.std.proofs.lemmas.List.{length-map}
use Rattle.std.specs.Char.{to_ascii_lowercase}
use Rattle.std.specs.Str.{str_to_ascii_lowercase}
use Rattle.std.proofs.lemmas.Slice.Eq.{bytes_eq-Decides}
use Rattle.description_lexer.specs.declared.version.DescriptionVersion.{DescriptionVersion}
use Rattle.description_lexer.specs.declared.version.DescriptionVersion.TheVariants.{One, Two, Three}
use Rattle.description_lexer.specs.Words.{is_named}

alike_length : (word name : List ℕ) → str_to_ascii_lowercase word ≡ str_to_ascii_lowercase name → length name ≡ length word
alike_length word name e = sym (length-map name to_ascii_lowercase) ∙ ap length (sym e) ∙ length-map word to_ascii_lowercase

pub name_length : (v : DescriptionVersion) (word name : List ℕ) → is_named v word name ≡ true → length name ≡ length word
name_length One word name e = alike_length word name ((bytes_eq-Decides _ _).0 e)
name_length Two word name e = alike_length word name ((bytes_eq-Decides _ _).0 e)
name_length Three word name e = ap length (sym ((bytes_eq-Decides word name).0 e))
