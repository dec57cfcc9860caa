-- Which components stand in a tree.
use Rattle.std.specs.Prelude.{◌&&◌, ◌||◌, Bool, false}
use Rattle.description_items.specs.declared.component.Component.{Component}
use Rattle.description_items.specs.Tree.{Tree, Trees, Literal, Part, Compound, Optional, First, none, also}

-- a component of such a kind stands in an item: inside its choices too, or outside of all of them
abbrev mutual
  pub has : Bool → (Component → Bool) → Tree → Bool
  has in_choices kind (Literal text) = false
  has in_choices kind (Part c) = kind c
  has in_choices kind (Compound ts) = any_has in_choices kind ts
  has in_choices kind (Optional format t) = in_choices && has in_choices kind t
  has in_choices kind (First ts) = in_choices && any_has in_choices kind ts

  pub any_has : Bool → (Component → Bool) → Trees → Bool
  any_has in_choices kind none = false
  any_has in_choices kind (also t ts) = has in_choices kind t || any_has in_choices kind ts
