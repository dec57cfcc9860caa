-- What the first piece of a description leads to, however nested descriptions are read.
use Rattle.std.specs.Prelude.{◌≡◌, ℕ, Result, Ok, Err}
use Rattle.description_lexer.specs.Answer.{◌>>=◌, Fails}
use Rattle.description_lexer.specs.Fault.{Fault}
use Rattle.description_lexer.specs.Text.{Rest}
use Rattle.description_lexer.specs.Words.{closed_at}
use Rattle.description_lexer.specs.Views.{rest_of}
use Rattle.description_lexer.specs.declared.description_fault.DescriptionFault.{DescriptionFault}
use Rattle.description_lexer.specs.declared.version.DescriptionVersion.{DescriptionVersion}
use Rattle.description_items.specs.Modern.{modern}
use Rattle.description_items.specs.Tree as tree
use Rattle.description_grammar.specs.declared.pieces.Piece.{Piece}
use Rattle.description_grammar.specs.declared.pieces.Piece.TheVariants.{Literal, Part, Optional, First}
use Rattle.description_grammar.specs.Reading.{Nester, supported, optional_at, first_at}

-- a nested item is read on, after its name
abbrev pub read_on : DescriptionVersion → Nester → ℕ → Piece → Result (tree.Tree × Rest) Fault
read_on v inside bracket (Literal s rest) = Ok (tree.Literal s.now, rest_of rest)
read_on v inside bracket (Part c rest) = Ok (tree.Part c, rest_of rest)
read_on v inside bracket (Optional rest) = optional_at v inside bracket (rest_of rest)
read_on v inside bracket (First rest) = first_at v inside bracket (rest_of rest)

-- the item is what its first piece leads to
abbrev pub Leads : DescriptionVersion → Nester → ℕ → Result Piece DescriptionFault → Result (tree.Tree × Rest) Fault → Type 0
Leads v inside bracket (Ok piece) read = read ≡ read_on v inside bracket piece
Leads v inside bracket (Err e) read = Fails e read

-- a component is of the newer kind
abbrev pub IsModern : Piece → Type 0
IsModern (Literal s rest) = Unit {0}
IsModern (Part c rest) = modern c ≡ c
IsModern (Optional rest) = Unit {0}
IsModern (First rest) = Unit {0}

-- a nested item that was read up to its closing bracket
abbrev pub closed_as : DescriptionVersion → ℕ → tree.Tree → Rest → Result (tree.Tree × Rest) Fault
closed_as v bracket t here = closed_at bracket here >>= supported v bracket t
