-- What follows of an answer that is tame.
use Rattle.std.proofs.Common.{◌≡◌, ℕ, List, Ok, Err, subst}
use Rattle.parsing_combinator.specs.Fault.{Fault}
use Rattle.parsing_combinator.specs.ShortName.{HasShortName}
use Rattle.parsing_combinator.specs.Tame.{EndsWith, Tame}
use Rattle.parsing_components.specs.declared.fields.Record.{Record}
use Rattle.parsing_record.specs.Meaning.{Answer}
use Rattle.description_items.specs.Tree.{Tree, Trees}
use Rattle.parsing_components.specs.Component.{reads_component, reads_component_v3}
use Rattle.parsing_components.specs.Reads.{reading, reading_of_all}
use Rattle.parsing_components.proofs.lemmas.Tame.{component_tame, component_tame_v3}
use Rattle.parsing_record.proofs.lemmas.Tame.{tree_tame, in_turn_tame}

pub short_of : (bytes : List ℕ) (a : Answer) (f : Fault) → Tame bytes a → a ≡ Err f → HasShortName f
short_of bytes a f t e = subst (λ b. Tame bytes b) e t

pub end_of : (bytes : List ℕ) (a : Answer) (r : Record) (rest : List ℕ) → Tame bytes a → a ≡ Ok (r, rest) → EndsWith bytes rest
end_of bytes a r rest t e = subst (λ b. Tame bytes b) e t

-- of an item, of items in turn, and of a tree of version 3
pub item_short : (t : Tree) (bytes : List ℕ) (r : Record) (f : Fault) → reading reads_component t r bytes ≡ Err f → HasShortName f
item_short t bytes r f e = short_of bytes _ f (tree_tame reads_component component_tame t r bytes) e

pub items_short : (ts : Trees) (bytes : List ℕ) (r : Record) (f : Fault) → reading_of_all reads_component ts r bytes ≡ Err f → HasShortName f
items_short ts bytes r f e = short_of bytes _ f (in_turn_tame reads_component component_tame ts r bytes) e

pub tree_short : (t : Tree) (bytes : List ℕ) (r : Record) (f : Fault) → reading reads_component_v3 t r bytes ≡ Err f → HasShortName f
tree_short t bytes r f e = short_of bytes _ f (tree_tame reads_component_v3 component_tame_v3 t r bytes) e
