-- What is named by a line that says parts.
use Rattle.std.proofs.Common.{◌≡◌, ℕ, List, [], Option, Some, None, Ok, refl, ℤ}
use Rattle.std.specs.Prelude.{IfSome}
use Rattle.datetime_wall.specs.Wall.{Shown}
use Rattle.parsing_components.specs.Meaning.{Meaning}
use Rattle.parsing_components.specs.declared.fields.Record.{Record}
use Rattle.parsing_components.specs.Whole.{whole, names, moment_named, starting}
use Rattle.parsing_components.specs.Prefix.{NamesPrefix, beginning}
use Rattle.parsing_layout.specs.Items.{SaysItems}
use Rattle.parsing_layout.specs.Layout.{Values, Says}
use Rattle.parsing_layout.specs.Range.{AreInRange, IsAllInRange}
use Rattle.parsing_layout.specs.Said.{fields_of}
use Rattle.parsing_layout.specs.declared.items.Item.{Item}
use Rattle.parsing_layout.specs.declared.parts.Part.{Part}
use Rattle.parsing_values.specs.declared.fields.Fields.{Fields}
use Rattle.parsing_values.specs.Moment.{moment_of}
use Rattle.parsing_item_parts.specs.declared.list.Items.{Items}
use Rattle.parsing_item_parts.specs.declared.listed.Listed.{Listed}
use Rattle.parsing_item_parts.specs.Listed.{IsListOf}
use Rattle.parsing_item_parts.specs.Items.{IsItem, AreItems, items_kept}
use Rattle.parsing_item_parts.specs.Recorded.{recorded}
use Rattle.parsing_item_parts.proofs.RecordLemmas.{all_set}

-- ---- a prefix that is all of the line

pub whole_is : (m : Meaning) (defaults : Option Record) (line : List ℕ) (r : Record) → m (starting defaults) line ≡ Ok (r, [])
    → whole m defaults line ≡ Ok r
unfolding whole
whole_is m defaults line r e = rw e refl

pub if_whole_named : (m : Meaning) (defaults : Option Record) (line rest : List ℕ) (assumed : Option ℤ) (o : Option Fields) → rest ≡ []
    → starting defaults ≡ beginning assumed → IfSome o (λ f. NamesPrefix m (beginning assumed) line rest (moment_of f))
    → IfSome o (λ f. names moment_named (whole m defaults line) ≡ Ok (moment_of f))
if_whole_named m defaults line rest assumed None nothing start prefix = tt
if_whole_named m defaults line rest assumed (Some f) nothing start prefix =
    let all : m (starting defaults) line ≡ Ok (prefix.set, []) = rw (start, ← nothing) prefix.reads in
    rw (whole_is m defaults line prefix.set all) prefix.names

-- ---- what the line says is read

pub prefix_named : (m : Meaning) (ps : List Part) (v : Values) (assumed : Option ℤ) (line rest : List ℕ) (moment : Shown) → IsItem m ps
    → Says ps line v rest → AreInRange (fields_of ps) v → moment_named (recorded (fields_of ps) v (beginning assumed)) ≡ Ok moment
    → NamesPrefix m (beginning assumed) line rest moment
prefix_named m ps v assumed line rest moment is says range names =
    let set = recorded (fields_of ps) v (beginning assumed) in
    record { set = set; reads = is line v rest (beginning assumed) set says (all_set ps v range (beginning assumed)); names = names }

pub items_named : (m : Meaning) (is : List Item) (way : List Part) (v : Values) (assumed : Option ℤ) (line rest : List ℕ) (o : Option Fields)
    → AreItems m is → SaysItems is line v rest way → IfSome o (λ _. IsAllInRange v)
    → IfSome o (λ f. moment_named (recorded (fields_of way) v (beginning assumed)) ≡ Ok (moment_of f))
    → IfSome o (λ f. NamesPrefix m (beginning assumed) line rest (moment_of f))
items_named m is way v assumed line rest None are says range names = tt
items_named m is way v assumed line rest (Some f) are says range names =
    let set = recorded (fields_of way) v (beginning assumed) in
    record { set = set; reads = are line v rest way (beginning assumed) set says (all_set way v (λ f _. range f) (beginning assumed)); names = names }

pub list_read : (m : Meaning) (list : Items) (o : Option Listed) → AreItems m (items_kept list) → IfSome o (λ l. l.items ≡ list) → IfSome o (IsListOf m)
list_read m list None are same = tt
list_read m list (Some l) are same = rw same are
