-- Items read what their parts say, one after the other.
use Rattle.std.proofs.Common.{◌≡◌, ◌∙◌, ◌≤◌, ℕ, Bool, List, [], ◌∷◌, ◌++◌, length, map, Option, Some, None, Ok, Err, refl, sym, ap, arith, append_assoc}
use Rattle.std.specs.Prelude.{IfSome}
use Rattle.std.specs.Option.{option_and_then}
use Rattle.parsing_combinator.specs.Fault.{Fault}
use Rattle.description_items.specs.Tree.{Tree, listed}
use Rattle.parsing_components.specs.Put.{put}
use Rattle.parsing_components.specs.declared.said.Read.{Read}
use Rattle.parsing_components.specs.Meaning.{Meaning, then_counted, all_of}
use Rattle.parsing_components.specs.Reads.{Language, reading, reading_of_all, reads, each_reads}
use Rattle.parsing_components.specs.declared.fields.Record.{Record}
use Rattle.parsing_layout.specs.Layout.{Values, field_of}
use Rattle.parsing_layout.specs.declared.parts.Part.{Part}
use Rattle.parsing_layout.proofs.ItemsLemmas.{certain_said, said_certain}
use Rattle.parsing_layout.proofs.LayoutLemmas.{says_first}
use Rattle.parsing_layout.proofs.PieceLemmas.{inside}
use Rattle.parsing_layout.specs.Items.{SaysItems, all_certain}
use Rattle.parsing_layout.specs.declared.items.Item.{Item}
use Rattle.parsing_layout.specs.declared.items.Item.TheVariants as item
use Rattle.parsing_item_parts.specs.Items.{said_by, set_all, IsItem, AreItems, AddsItem, items_kept, parts_kept, parts_of_item, parts_of_items}
use Rattle.parsing_item_parts.specs.declared.list.Items.{Items}
use Rattle.parsing_item_parts.specs.declared.list.Parts.{Parts}
use Rattle.std.proofs.lemmas.Bool.Decides.{nat_tests}

-- ---- what two lists set

pub chosen : (o : Option Read) (ps : List Part) (v : Values) (r new : Record) → option_and_then (λ x. set_all ps v (put x r)) o ≡ Some new
    → (x : Read) × (o ≡ Some x) × (set_all ps v (put x r) ≡ Some new)
chosen o ps v r new e = grind (arith, nat_tests)

pub record SetsBoth (ps qs : List Part) (v : Values) (r new : Record) : Type 0 where
  pub mid : Record
  pub first : set_all ps v r ≡ Some mid
  pub second : set_all qs v mid ≡ Some new

pub set_both : (ps qs : List Part) (v : Values) (r new : Record) → set_all (ps ++ qs) v r ≡ Some new → SetsBoth ps qs v r new
set_both [] qs v r new e = record { mid = r; first = refl; second = e }
set_both (p ∷ ps) qs v r new e =
    let c = chosen (said_by (field_of p) v) (ps ++ qs) v r new e in
    let b = set_both ps qs v (put c.0 r) new c.2 in
    record { mid = b.mid; first = ap (option_and_then (λ y. set_all ps v (put y r))) c.1 ∙ b.first; second = b.second }

-- ---- items, one after the other

pub first_read : (language : Language) (t : Tree) (ts : List Tree) (r new : Record) (line rest : List ℕ) → reading language t r line ≡ Ok (new, rest)
    → reading_of_all language (listed (t ∷ ts)) r line ≡ reading_of_all language (listed ts) new rest
unfolding each_reads all_of
first_read language t ts r new line rest e = ap (λ a. (then_counted a (reads language t r line).1 (all_of (each_reads language (listed ts)))).0) e

pub no_parts : (language : Language) → IsItem (reading_of_all language (listed [])) []
unfolding each_reads all_of
no_parts language line v rest r new says sets = let same : r ≡ new = inside r new sets in rw (same, says) refl

pub item_and_items : (language : Language) (t : Tree) (ts : List Tree) (ps qs : List Part) → IsItem (reading language t) ps
    → IsItem (reading_of_all language (listed ts)) qs → IsItem (reading_of_all language (listed (t ∷ ts))) (ps ++ qs)
item_and_items language t ts ps qs first others line v rest r new says sets =
    let s = says_first ps qs line rest v says in
    let b = set_both ps qs v r new sets in
    first_read language t ts r b.mid line s.0 (first line v s.0 r b.mid s.1 b.first) ∙ others s.0 v rest b.mid new s.2 b.second

-- ---- items, and what a text says by them

-- what a text says by two lists
pub record SaysBoth (xs ys : List Item) (line : List ℕ) (v : Values) (rest : List ℕ) (way : List Part) : Type 0 where
  pub mid : List ℕ
  pub first : List Part
  pub second : List Part
  pub both : way ≡ first ++ second
  pub by_first : SaysItems xs line v mid first
  pub by_second : SaysItems ys mid v rest second

pub says_split : (xs ys : List Item) (line : List ℕ) (v : Values) (rest : List ℕ) (way : List Part) → SaysItems (xs ++ ys) line v rest way
    → SaysBoth xs ys line v rest way
says_split [] ys line v rest way says =
    record { mid = line; first = []; second = way; both = refl; by_first = (refl, refl); by_second = says }
says_split (i ∷ xs) ys line v rest way says =
    let b = says_split xs ys says.0 v rest says.2 says.5 in
    record {
      mid = b.mid;
      first = says.1 ++ b.first;
      second = b.second;
      both = says.3 ∙ ap (λ (zs : List Part). says.1 ++ zs) b.both ∙ sym (append_assoc says.1 b.first b.second);
      by_first = (says.0, says.1, b.first, refl, says.4, b.by_first);
      by_second = b.by_second;
    }

pub items_of_parts : (m : Meaning) (ps : List Part) → IsItem m ps → AreItems m (map item.Part ps)
items_of_parts m ps is line v rest way r new says sets =
    let there = certain_said ps line v rest way says in is line v rest r new there.1 (rw there.0 at sets)

-- ---- an item more

pub refused : (language : Language) (t : Tree) (ts : List Tree) (r : Record) (line : List ℕ) (f : Fault) → reading language t r line ≡ Err f
    → reading_of_all language (listed (t ∷ ts)) r line ≡ Err f
unfolding each_reads all_of
refused language t ts r line f e = ap (λ a. (then_counted a (reads language t r line).1 (all_of (each_reads language (listed ts)))).0) e

pub nothing_left : (language : Language) (r : Record) (rest : List ℕ) → reading_of_all language (listed []) r rest ≡ Ok (r, rest)
unfolding each_reads all_of
nothing_left language r rest = refl

pub items_first : (language : Language) (t : Tree) (ts : List Tree) (xs ys : List Item) → AreItems (reading language t) xs
    → AreItems (reading_of_all language (listed ts)) ys → AreItems (reading_of_all language (listed (t ∷ ts))) (xs ++ ys)
items_first language t ts xs ys one others line v rest way r new says sets =
    let s = says_split xs ys line v rest way says in
    let b = set_both s.first s.second v r new (rw s.both at sets) in
    first_read language t ts r b.mid line s.mid (one line v s.mid s.first r b.mid s.by_first b.first)
    ∙ others s.mid v rest s.second b.mid new s.by_second b.second

-- ---- lists that grow

pub parts_more : (is_all : Bool) (i : Item) (is : List Item) → parts_of_items is_all (i ∷ is) ≡ parts_of_item is_all i ++ parts_of_items is_all is
parts_more is_all i is = grind (arith, nat_tests)

pub no_more : (is_all : Bool) → parts_of_items is_all [] ≡ []
no_more is_all = grind (arith, nat_tests)

few_certain : (is : List Item) → length (all_certain is) ≤ length is
few_certain [] = omega arith
few_certain (item.Part p ∷ is) = let few = few_certain is in omega (arith, few)
few_certain (item.Optional b p ∷ is) = let few = few_certain is in omega (arith, few)

-- where each item is a part
pub all_alone : (is : List Item) → length (all_certain is) ≡ length is → map item.Part (all_certain is) ≡ is
all_alone [] e = refl
all_alone (item.Part p ∷ is) e = ap (λ (xs : List Item). item.Part p ∷ xs) (all_alone is (omega (arith, e)))
all_alone (item.Optional b p ∷ is) e = absurd (let few = few_certain is in omega (arith, e, few))

pub node_added : (language : Language) (t : Tree) (more : List Item) (old : Items) (o : Option Items) → AreItems (reading language t) more
    → IfSome o (λ l. items_kept l ≡ items_kept old ++ more) → IfSome o (AddsItem language t old)
node_added language t more old o are h = grind (arith, nat_tests)

pub alone_read : (m : Meaning) (is : List Item) (o : Option Parts) → AreItems m is → IfSome o (λ l. map item.Part (parts_kept l) ≡ is)
    → IfSome o (λ l. IsItem m (parts_kept l))
alone_read m is None are same = tt
alone_read m is (Some l) are same = λ line v rest r new says sets. (let kept : AreItems m (map item.Part (parts_kept l)) = rw same are in kept) line v rest (parts_kept l) r new (said_certain (parts_kept l) line v rest says) sets
