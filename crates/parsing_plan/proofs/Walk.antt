-- Plans of places, of Unix time and of lists of parts.
use Rattle.std.proofs.Common.{◌≡◌, ◌∙◌, ℕ, List, [], ◌∷◌, Option, Some, None, Ok, Err, ap}
use Rattle.std.specs.Prelude.{IfSome}
use Rattle.std.specs.Result.{result_ok}
use Rattle.description_items.specs.Tree.{Tree, Compound, listed}
use Rattle.parsing_components.specs.Meaning.{Meaning, Answer}
use Rattle.parsing_components.specs.Reads.{Language, reading, reading_of_all, reads, each_reads}
use Rattle.parsing_components.specs.declared.fields.Record.{Record}
use Rattle.parsing_item_parts.specs.Items.{IsItem, parts_kept}
use Rattle.parsing_item_parts.specs.Listed.{IsListOf}
use Rattle.parsing_item_parts.specs.declared.list.Parts.{Parts}
use Rattle.parsing_item_parts.specs.declared.listed.Listed.{Listed}
use Rattle.parsing_item_parts.proofs.ItemLemmas.{first_read, nothing_left}
use Rattle.parsing_plan.specs.Places.{ArePlacesOf}
use Rattle.parsing_plan.specs.UnixTime.{IsUnixOf}
use Rattle.parsing_plan.specs.declared.places.Places.{Places}
use Rattle.parsing_plan.specs.declared.plan.Plan.{Plan}
use Rattle.parsing_plan.specs.declared.plan.Plan.TheVariants as plan
use Rattle.parsing_plan.specs.Plan.{IsPlanOf}

-- an item that holds others reads what they read, one after the other
compound_plan : (language : Language) (ts : List Tree) (plan : Plan) → IsPlanOf (reading_of_all language (listed ts)) plan → IsPlanOf (reading language (Compound (listed ts))) plan
unfolding reads each_reads
compound_plan language ts plan h = h

pub compound_plans : (language : Language) (ts : List Tree) (o : Option Plan) → IfSome o (IsPlanOf (reading_of_all language (listed ts))) → IfSome o (IsPlanOf (reading language (Compound (listed ts))))
compound_plans language ts None h = tt
compound_plans language ts (Some plan) h = compound_plan language ts plan h

pub of_places : (m : Meaning) (places : Places) → ArePlacesOf m places → IsPlanOf m (plan.Places places)
of_places m places are = (
  (λ x e. let same : x ≡ places = cc in rw same are),
  (λ u e. absurd cc),
  (λ s e. absurd cc),
)

pub of_list : (m : Meaning) (list : Listed) → IsListOf m list → IsPlanOf m (plan.Listed list)
of_list m list are = (
  (λ x e. absurd cc),
  (λ u e. absurd cc),
  (λ s e. let same : s ≡ list = cc in rw same are),
)

-- places of parts
pub places_read : (m : Meaning) (parts : Parts) (o : Option Places) → IsItem m (parts_kept parts) → IfSome o (λ places. places.parts ≡ parts) → IfSome o (ArePlacesOf m)
places_read m parts None is same = tt
places_read m parts (Some places) is same = rw same is

-- ---- Unix time alone

pub was_read : (x : Answer) (y : Record × List ℕ) → result_ok x ≡ Some y → x ≡ Ok y
was_read (Ok x) y e = ap (λ (z : Record × List ℕ). Ok z) (let same : x ≡ y = cc in same)
was_read (Err f) y e = absurd cc

pub unix_reads : (language : Language) (t : Tree) (finer : ℕ) → IsUnixOf (reading language t) finer → IsUnixOf (reading_of_all language (listed (t ∷ []))) finer
unix_reads language t finer reads_it line number is few r =
    ap result_ok (first_read language t [] r _ line [] (was_read (reading language t r line) _ (reads_it line number is few r)) ∙ nothing_left language _ [])
