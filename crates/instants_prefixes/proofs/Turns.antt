-- Items that are read one after the other, taken apart.
use Rattle.std.proofs.Common.{◌≡◌, ◌+◌, ℕ, List, [], ◌∷◌, ◌++◌, length, take, drop, Option, Some, None, Ok, Err, refl, sym, ap, ◌∙◌, arith, take-append-drop}
use Rattle.std.specs.Prelude.{option_map}
use Rattle.std.specs.Borrow.{Bor}
use Rattle.std.proofs.lemmas.Grind.{common_steps}
use Rattle.std.proofs.lemmas.Slice.Eq.{bytes_eq-Decides}
use Rattle.description_items.specs.Tree.{Tree, Trees, Literal, Compound, none, also, listed}
use Rattle.parsing_combinator.specs.Readings.{then_read}
use Rattle.parsing_components.specs.declared.fields.Record.{Record}
use Rattle.parsing_components.specs.declared.node.NodeStep.{NodeStep}
use Rattle.parsing_components.specs.declared.node.NodeStep.TheVariants as steps
use Rattle.parsing_record.specs.Meaning.{Answer, literally, all_of}
use Rattle.parsing_record.specs.Node.{step_tree}
use Rattle.parsing_record.specs.Reads.{Language, reads, each_reads, reading, reading_of_all}
use Rattle.instants_prefixes.specs.Ends.{text_length}
use Rattle.instants_prefixes.specs.Lengths.{items_of, children}

pub more_texts : (text : List ℕ) (o : Option ℕ) (long : ℕ) → option_map (λ n. length text + n) o ≡ Some long → (rest : ℕ) × (o ≡ Some rest) × (long ≡ length text + rest)
more_texts text (Some n) long e = (n, refl, cc)
more_texts text None long e = absurd cc

read_then : (a : Answer) (f : Record → List ℕ → Answer) (read : Record × List ℕ) → then_read a f ≡ Ok read → (between : Record × List ℕ) × (a ≡ Ok between) × (f between.0 between.1 ≡ Ok read)
read_then (Ok x) f read e = (x, refl, e)
read_then (Err g) f read e = absurd cc

module _ (language : Language) where
  in_turn : (xs ys : List Tree) (r : Record) (text : List ℕ) → reading_of_all language (listed (xs ++ ys)) r text ≡ then_read (reading_of_all language (listed xs) r text) (reading_of_all language (listed ys))
  unfolding all_of each_reads
  in_turn [] ys r text = refl
  in_turn (x ∷ xs) ys r text = let others = in_turn xs ys in grind arith

  -- the items before a place read, and then those after it
  pub split_at : (n : ℕ) (items : List Tree) (r : Record) (text : List ℕ) (read : Record × List ℕ) → reading_of_all language (listed items) r text ≡ Ok read
      → (between : Record × List ℕ) × (reading_of_all language (listed (take n items)) r text ≡ Ok between) × (reading_of_all language (listed (drop n items)) between.0 between.1 ≡ Ok read)
  split_at n items r text read e =
      read_then (reading_of_all language (listed (take n items)) r text) (reading_of_all language (listed (drop n items))) read (sym (in_turn (take n items) (drop n items) r text) ∙ rw (take-append-drop n items) e)

  -- ---- a tree as its items

  one_item : (t : Tree) (r : Record) (text : List ℕ) → reading_of_all language (listed (t ∷ [])) r text ≡ reading language t r text
  unfolding all_of each_reads
  one_item t r text = grind arith

  -- ---- texts

  text_read : (text bytes : List ℕ) (r : Record) (read : Record × List ℕ) → reading language (Literal text) r bytes ≡ Ok read → length bytes ≡ length text + length read.1
  unfolding reads literally
  text_read text bytes r read e = let same = bytes_eq-Decides (take (length text) bytes) text in grind (arith, common_steps)

  -- texts read as many bytes as they have
  pub texts_read : (items : List Tree) (long : ℕ) (r : Record) (text : List ℕ) (read : Record × List ℕ) → text_length items ≡ Some long → reading_of_all language (listed items) r text ≡ Ok read → length text ≡ long + length read.1
  unfolding all_of each_reads
  texts_read [] long r text read are e = let same : (r, text) ≡ read = cc in let none : 0 ≡ long = cc in omega (arith, none, ap (λ (x : Record × List ℕ). length x.1) same)
  texts_read (Literal piece ∷ items) long r text read are e =
      let (rest, others, sum) = more_texts piece (text_length items) long are in
      let (between, one, all) = read_then (reading_of_all language (listed (Literal piece ∷ [])) r text) (reading_of_all language (listed items)) read (sym (in_turn (Literal piece ∷ []) items r text) ∙ e) in
      omega (arith, text_read piece text r between (sym (one_item (Literal piece) r text) ∙ one), texts_read items rest between.0 between.1 read others all, sum)
  texts_read (t ∷ items) long r text read are e = absurd cc

listed_children : (ts : Trees) → listed (children ts) ≡ ts
listed_children none = refl
listed_children (also t ts) = ap (also t) (listed_children ts)

children_listed : (items : List Tree) → children (listed items) ≡ items
children_listed [] = refl
children_listed (t ∷ items) = ap (λ ts. t ∷ ts) (children_listed items)

-- a tree reads what its items read
pub by_items : (language : Language) (t : Tree) (r : Record) (text : List ℕ) → reading_of_all language (listed (items_of t)) r text ≡ reading language t r text
unfolding reads
by_items language (Compound ts) r text = ap (λ x. reading_of_all language x r text) (listed_children ts)
by_items language t r text = one_item language t r text

pub compound_items : (t : Tree) (items : List Tree) → Compound (listed items) ≡ t → items_of t ≡ items
compound_items t items e = ap items_of (sym e) ∙ children_listed items

-- what is no list of nodes is one item
pub single_items : {N : Type 0} (tree : N → Tree) (step : NodeStep N) (t : Tree) → ((nodes : Bor (List N)) → step ≡ steps.Compound nodes → ⊥) → step_tree tree step ≡ t → items_of t ≡ t ∷ []
single_items tree (steps.Compound nodes) t other e = absurd (other nodes refl)
single_items tree step t other e = ap items_of (sym e) ∙ ap (λ x. x ∷ []) e
