-- What a description of version 3 means.
use Rattle.description_items.specs.Tree.{Tree}
use Rattle.description_tree.specs.declared.description.FormatDescriptionV3.{FormatDescriptionV3}
use Rattle.description_tree.specs.declared.inner.FormatDescriptionV3Inner.{FormatDescriptionV3Inner}
use Rattle.description_tree.specs.Inner.{inner_tree}

-- its node
abbrev pub v3_node : FormatDescriptionV3 → FormatDescriptionV3Inner
v3_node description = description.inner

-- its tree
abbrev pub v3_tree : FormatDescriptionV3 → Tree
v3_tree description = inner_tree description.inner
