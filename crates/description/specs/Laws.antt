-- What holds of descriptions beside one another, and of their trees.
use Rattle.std.specs.Prelude.{◌≡◌, ℕ, ◌+◌, true, false, List, [], ◌∷◌, ◌++◌, ◌⊎◌}
use Rattle.description_items.specs.Tree.{Tree, Literal, Part, Compound, Optional, First, Trees, none, also}
use Rattle.description_lexer.specs.declared.version.DescriptionVersion.{DescriptionVersion}
use Rattle.description_lexer.specs.Text.{is_plain}
use Rattle.description_grammar.specs.Heads.{Stops, SpellsLiteral}
use Rattle.description_grammar.specs.Spelling.{SpellsItem, Spells}

-- the last item of a text, and the items before it
pub record EndsIn (v : DescriptionVersion) (text : List ℕ) (ts : List Tree) (last : List ℕ) (t : Tree) : Type 0 where
  pub prefix : List ℕ
  pub items : List Tree
  pub parts : text ≡ prefix ++ last
  pub trees : ts ≡ items ++ t ∷ []
  pub is_prefix : Spells v prefix items

-- an item that ends where it does, whatever stands after it
abbrev pub IsFirm : DescriptionVersion → List ℕ → Tree → Type 0
IsFirm v own t = (more : List ℕ) → SpellsItem v false 127 own more t

-- the second text begins with no byte that a literal goes on with; or the first one is empty, or ends in a firm item
abbrev pub AreApart : DescriptionVersion → List ℕ → List ℕ → List Tree → Type 0
AreApart v s t ss = Stops (is_plain v) t ⊎ (s ≡ []) ⊎ ((last : List ℕ) × (x : Tree) × EndsIn v s ss last x × IsFirm v last x)

-- the first text ends in a literal, and the second one goes on with it: both are one literal
pub record GoesOn (v : DescriptionVersion) (s t : List ℕ) (ss ts : List Tree) : Type 0 where
  pub bytes : List ℕ
  pub ends : EndsIn v s ss bytes (Literal bytes)
  pub is_literal : SpellsLiteral v false bytes []
  pub first : ℕ
  pub others : List ℕ
  pub next : t ≡ first ∷ others
  pub is_plain : is_plain v first ≡ true
  pub more : List ℕ
  pub back : List Tree
  pub trees : ts ≡ Literal more ∷ back
  pub joined : Spells v (s ++ t) (ends.items ++ Literal (bytes ++ more) ∷ back)

-- one text after another has the items of both, save that a literal may go on
abbrev pub Joins : DescriptionVersion → List ℕ → List ℕ → List Tree → List Tree → Type 0
Joins v s t ss ts = (AreApart v s t ss × Spells v (s ++ t) (ss ++ ts)) ⊎ GoesOn v s t ss ts

-- how many nodes a tree has
unfoldable mutual
  pub nodes : Tree → ℕ
  nodes (Literal bytes) = 1
  nodes (Part c) = 1
  nodes (Compound ts) = 1 + all_nodes ts
  nodes (Optional format t) = 1 + nodes t
  nodes (First ts) = 1 + all_nodes ts

  pub all_nodes : Trees → ℕ
  all_nodes none = 0
  all_nodes (also t ts) = nodes t + all_nodes ts
