-- A format that has a name.
use Rattle.std.specs.Prelude.{ℕ, List}
use Rattle.instants_formats.specs.declared.format.Format.{Format}
use Rattle.instants_formats.specs.declared.format.Lacking.{Lacking}

-- its name, the two words that the name stands for, and what its lines do not say
pub record FormatSaid : Type 0 where
  pub name : List ℕ
  pub language : List ℕ
  pub description : List ℕ
  pub lacks : Lacking

-- the same, without where its texts lie in memory
abbrev pub format_said : Format → FormatSaid
format_said format = record { name = format.name.now; language = format.language.now; description = format.description.now; lacks = format.lacks }
