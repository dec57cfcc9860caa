-- What can be wrong with words.
use Rattle.std.specs.Prelude.{ℕ, List}
use Rattle.instants_lines_words.specs.declared.wrong_words.WrongWords.{WrongWords}
use Rattle.instants_lines_words.specs.declared.wrong_words.WrongWords.TheVariants as words

-- the first thing that is wrong: something is missing, or a word is not what stands in its place
pub data Wrong : Type 0 where
  NoMode : Wrong
  UnknownMode : List ℕ → Wrong
  NoSource : Wrong
  Target : List ℕ → Wrong
  Assumed : List ℕ → Wrong
  Limit : List ℕ → Wrong
  Zone : List ℕ → Wrong
  Year : List ℕ → Wrong
  Time : List ℕ → Wrong
  Field : List ℕ → Wrong
  Column : List ℕ → Wrong
  Separator : List ℕ → Wrong
  Label : List ℕ → Wrong
  Source : ℕ → List ℕ → Wrong
  FirstSource : List ℕ → Wrong
  NoDescription : ℕ → List ℕ → Wrong

-- the same, without where a word lies in memory
abbrev pub wrong_of : WrongWords → Wrong
wrong_of words.NoMode = NoMode
wrong_of (words.UnknownMode word) = UnknownMode word.now
wrong_of words.NoSource = NoSource
wrong_of (words.Target word) = Target word.now
wrong_of (words.Assumed word) = Assumed word.now
wrong_of (words.Limit word) = Limit word.now
wrong_of (words.Zone word) = Zone word.now
wrong_of (words.Year word) = Year word.now
wrong_of (words.Time word) = Time word.now
wrong_of (words.Field word) = Field word.now
wrong_of (words.Column word) = Column word.now
wrong_of (words.Separator word) = Separator word.now
wrong_of (words.Label word) = Label word.now
wrong_of (words.Source place word) = Source place word.now
wrong_of (words.FirstSource word) = FirstSource word.now
wrong_of (words.NoDescription place language) = NoDescription place language.now
