-- The sources that are said, and what they mean.
use Rattle.std.specs.Prelude.{◌≡◌, ℕ, ◌+◌, List, [], ◌∷◌, ◌++◌, length, ⊤}
use Rattle.description_lexer.specs.Fault.{Fault, fault_of}
use Rattle.instants_words.specs.Sources.{SourceSaid}
use Rattle.instants_sources.specs.Grammar.{Grammar, Means, IsFaulty}
use Rattle.instants_faults.specs.declared.new_fault.NewFault.{NewFault}
use Rattle.instants_faults.specs.declared.new_fault.NewFault.TheVariants as new

-- the sources that are said mean these grammars, one by one
abbrev pub AllMean : List SourceSaid → List Grammar → Type 0
AllMean [] [] = ⊤
AllMean [] (grammar ∷ grammars) = ⊥
AllMean (said ∷ others) [] = ⊥
AllMean (said ∷ others) (grammar ∷ grammars) = Means said grammar × AllMean others grammars

-- the source in this place, counted from 1, is a description with this fault, and all before it mean something
pub record IsFirstRefused (sources : List SourceSaid) (place : ℕ) (fault : Fault) : Type 0 where
  pub before : List SourceSaid
  pub refused : SourceSaid
  pub after : List SourceSaid
  pub parts : sources ≡ before ++ refused ∷ after
  pub is_place : place ≡ length before + 1
  pub grammars : List Grammar
  pub good : AllMean before grammars
  pub is_faulty : IsFaulty refused fault

-- a refusal names the first refused source and its fault; of lack of memory nothing is said
abbrev pub IsRefusal : List SourceSaid → NewFault → Type 0
IsRefusal sources (new.Source place fault) = IsFirstRefused sources place (fault_of fault)
IsRefusal sources new.Memory = ⊤
