-- Which nodes of a tree are borrowed, and which are owned.
use Rattle.std.specs.Prelude.{◌≡◌, Bool, true, false, not, List, map}
use Rattle.description_items.specs.declared.component.Component.{Component}
use Rattle.description_items.specs.Forms.{all_true}
use Rattle.description_items.specs.Tree.{Part}
use Rattle.description_tree.specs.declared.inner.FormatDescriptionV3Inner.{FormatDescriptionV3Inner}
use Rattle.description_tree.specs.declared.inner.FormatDescriptionV3Inner.TheFolds.{fold-FormatDescriptionV3Inner}
use Rattle.description_tree.specs.declared.inner.FormatDescriptionV3Inner.TheOpen.{FormatDescriptionV3Inner-F, Lent-F}
use Rattle.description_tree.specs.Inner.{inner_tree}

-- literals are borrowed or owned as is said, all that has nodes inside is owned
abbrev pub form_step : Bool → FormatDescriptionV3Inner-F Bool (List Bool) → Bool
form_step borrowed (FormatDescriptionV3Inner-F.BorrowedLiteral s) = borrowed
form_step borrowed (FormatDescriptionV3Inner-F.OwnedLiteral s) = not borrowed
form_step borrowed (FormatDescriptionV3Inner-F.BorrowedCompound lent) = false
form_step borrowed (FormatDescriptionV3Inner-F.BorrowedOptional format item) = false
form_step borrowed (FormatDescriptionV3Inner-F.BorrowedFirst lent) = false
form_step borrowed (FormatDescriptionV3Inner-F.OwnedCompound v) = all_true v.items
form_step borrowed (FormatDescriptionV3Inner-F.OwnedOptional format item) = item.value
form_step borrowed (FormatDescriptionV3Inner-F.OwnedFirst v) = all_true v.items
form_step borrowed part = true

abbrev pub lent_forms : Lent-F Bool (List Bool) → List Bool
lent_forms lent = lent.items.now

abbrev pub has_form : Bool → FormatDescriptionV3Inner → Bool
has_form borrowed = fold-FormatDescriptionV3Inner Bool (List Bool) (form_step borrowed) lent_forms

-- as a text gives it: literals are borrowed, all else is owned
abbrev pub is_read : FormatDescriptionV3Inner → Bool
is_read = has_form true

abbrev pub are_read : List FormatDescriptionV3Inner → Bool
are_read nodes = all_true (map is_read nodes)

-- nothing is borrowed
abbrev pub is_owned : FormatDescriptionV3Inner → Bool
is_owned = has_form false

abbrev pub are_owned : List FormatDescriptionV3Inner → Bool
are_owned nodes = all_true (map is_owned nodes)

-- the node is this component, with nothing borrowed and nothing owned
pub record IsPart (component : Component) (node : FormatDescriptionV3Inner) : Type 0 where
  pub tree : inner_tree node ≡ Part component
  pub read : is_read node ≡ true
  pub owned : is_owned node ≡ true
