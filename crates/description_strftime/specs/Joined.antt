-- Two texts of strftime, one after the other.
use Rattle.std.specs.Prelude.{◌≡◌, ℕ, ◌<◌, List, [], ◌∷◌, ◌++◌, length}
use Rattle.description_items.specs.Tree.{Tree, Literal}
use Rattle.description_strftime.specs.Text.{is_plain, Each, Stops, joined}
use Rattle.description_strftime.specs.Spelled.{SpellsPrefix, SpellsStrftime}

-- the last part of a text is a literal
pub record EndsInLiteral (text : List ℕ) (items : List Tree) : Type 0 where
  pub before : List (List Tree)
  pub own : List ℕ
  pub prefix : SpellsPrefix text before own
  pub some : 0 < length own
  pub plain : Each is_plain own
  pub means : items ≡ joined before ++ Literal own ∷ []

-- the first part of a text is a literal
pub record BeginsWithLiteral (text : List ℕ) (items : List Tree) : Type 0 where
  pub own : List ℕ
  pub rest : List ℕ
  pub after : List (List Tree)
  pub parts : text ≡ own ++ rest
  pub some : 0 < length own
  pub plain : Each is_plain own
  pub ends : Stops is_plain rest
  pub others : SpellsPrefix rest after []
  pub means : items ≡ Literal own ∷ joined after

-- a literal that ends the first text and one that begins the second are one; all other items stay as they are
pub record Joins (s t : List ℕ) (a b : List Tree) : Type 0 where
  pub apart : (EndsInLiteral s a × BeginsWithLiteral t b → ⊥) → SpellsStrftime (s ++ t) (a ++ b)
  pub as_one : (e : EndsInLiteral s a) (f : BeginsWithLiteral t b) → SpellsStrftime (s ++ t) (joined e.before ++ Literal (e.own ++ f.own) ∷ joined f.after)
