-- What lists of items read, one after the other, and a literal that is cut in two.
use Rattle.std.proofs.Common.{◌≡◌, ℕ, Bool, true, false, cond, List, [], ◌∷◌, ◌++◌, length, take, drop, Result, Ok, Err, refl, sym, ap, ◌∙◌, append_assoc}
use Rattle.std.specs.Prelude.{◌&&◌, nat_eq, bytes_eq}
use Rattle.description_items.specs.Tree.{Tree, Trees, Literal, also, listed}
use Rattle.parsing_combinator.specs.Fault.{Fault, literal}
use Rattle.parsing_combinator.specs.Readings.{Reading, then_read}
use Rattle.parsing_components.specs.declared.fields.Record.{Record}
use Rattle.parsing_record.specs.Meaning.{Answer, Meaning, Counted, meaning, literally, unchanged, then_counted, all_of}
use Rattle.parsing_record.specs.Reads.{Language, reads, each_reads, reading, reading_of_all}
use Rattle.parsing.specs.Joined.{in_turn, IsReadInTurn}

-- what items read in a language
abbrev pub items_read : Language → List Tree → Meaning
items_read l items = reading_of_all l (listed items)

-- ---- the first item and those after it

pub first_in_turn : (l : Language) (t : Tree) (ts : Trees) (r : Record) (bytes : List ℕ) → reading_of_all l (also t ts) r bytes ≡ in_turn (reading l t) (reading_of_all l ts) r bytes
unfolding all_of each_reads
first_in_turn l t ts r bytes = step (reads l t r bytes).0 (reads l t r bytes).1
  where
    step : (a : Answer) (n : ℕ) → (then_counted a n (all_of (each_reads l ts))).0 ≡ then_read a (reading_of_all l ts)
    step (Ok x) n = refl
    step (Err f) n = refl

-- two readings that are alike, after one
pub same_after : (m n : Meaning) (a : Answer) → ((r : Record) (bytes : List ℕ) → m r bytes ≡ n r bytes) → then_read a m ≡ then_read a n
same_after m n (Ok x) h = h x.0 x.1
same_after m n (Err f) h = refl

-- a reading, and another after it, after one
regrouped : {A B C : Type 0} (a : Result (A × List ℕ) Fault) (f : A → Reading B) (g : B → Reading C) → then_read (then_read a f) g ≡ then_read a (λ x rest. then_read (f x rest) g)
regrouped (Ok x) f g = refl
regrouped (Err e) f g = refl

-- ---- items after others

items_in_turn : (l : Language) (xs ys : List Tree) (r : Record) (bytes : List ℕ) → items_read l (xs ++ ys) r bytes ≡ in_turn (items_read l xs) (items_read l ys) r bytes
unfolding all_of each_reads
items_in_turn l [] ys r bytes = refl
items_in_turn l (x ∷ xs) ys r bytes =
    first_in_turn l x (listed (xs ++ ys)) r bytes
    ∙ same_after _ _ (reading l x r bytes) (items_in_turn l xs ys)
    ∙ sym (regrouped (reading l x r bytes) (items_read l xs) (items_read l ys))
    ∙ ap (λ (a : Answer). then_read a (items_read l ys)) (sym (first_in_turn l x (listed xs) r bytes))

-- ---- a literal that is cut in two

-- after a byte that is there, or is not
abbrev after_byte : Bool → List ℕ → List ℕ → Result (Unit {0} × List ℕ) Fault
after_byte same text bytes = cond (same && bytes_eq (take (length text) bytes) text) (Ok (tt, drop (length text) bytes)) (Err literal)

one_byte_more : (same : Bool) (xs ys bytes : List ℕ) → literally (xs ++ ys) bytes ≡ then_read (literally xs bytes) (λ _. literally ys) → after_byte same (xs ++ ys) bytes ≡ then_read (after_byte same xs bytes) (λ _. literally ys)
unfolding literally
one_byte_more true xs ys bytes h = h
one_byte_more false xs ys bytes h = refl

cut : (xs ys bytes : List ℕ) → literally (xs ++ ys) bytes ≡ then_read (literally xs bytes) (λ _. literally ys)
unfolding literally
cut [] ys bytes = refl
cut (x ∷ xs) ys [] = refl
cut (x ∷ xs) ys (b ∷ bytes) = one_byte_more (nat_eq b x) xs ys bytes (cut xs ys bytes)

literal_in_turn : (l : Language) (xs ys : List ℕ) (r : Record) (bytes : List ℕ) → reading l (Literal (xs ++ ys)) r bytes ≡ in_turn (reading l (Literal xs)) (reading l (Literal ys)) r bytes
unfolding reads
literal_in_turn l xs ys r bytes =
    ap (λ (a : Result (Unit {0} × List ℕ) Fault). then_read a (λ _ rest. Ok (r, rest))) (cut xs ys bytes)
    ∙ regrouped (literally xs bytes) _ _ ∙ sym (regrouped (literally xs bytes) _ _)

cut_first : (l : Language) (xs ys : List ℕ) (after : List Tree) (r : Record) (bytes : List ℕ) → items_read l (Literal (xs ++ ys) ∷ after) r bytes ≡ items_read l (Literal xs ∷ Literal ys ∷ after) r bytes
cut_first l xs ys after r bytes =
    first_in_turn l (Literal (xs ++ ys)) (listed after) r bytes
    ∙ ap (λ (a : Answer). then_read a (items_read l after)) (literal_in_turn l xs ys r bytes)
    ∙ regrouped (reading l (Literal xs) r bytes) (reading l (Literal ys)) (items_read l after)
    ∙ same_after _ _ (reading l (Literal xs) r bytes) (λ q rest. sym (first_in_turn l (Literal ys) (listed after) q rest))
    ∙ sym (first_in_turn l (Literal xs) (listed (Literal ys ∷ after)) r bytes)

one_literal : (l : Language) (before : List Tree) (xs ys : List ℕ) (after : List Tree) (r : Record) (bytes : List ℕ) → items_read l (before ++ Literal (xs ++ ys) ∷ after) r bytes ≡ in_turn (items_read l (before ++ Literal xs ∷ [])) (items_read l (Literal ys ∷ after)) r bytes
one_literal l before xs ys after r bytes =
    items_in_turn l before (Literal (xs ++ ys) ∷ after) r bytes
    ∙ same_after _ _ (items_read l before r bytes) (cut_first l xs ys after)
    ∙ sym (items_in_turn l before (Literal xs ∷ Literal ys ∷ after) r bytes)
    ∙ ap (λ (ts : List Tree). items_read l ts r bytes) (sym (append_assoc before (Literal xs ∷ []) (Literal ys ∷ after)))
    ∙ items_in_turn l (before ++ Literal xs ∷ []) (Literal ys ∷ after) r bytes

-- ---- items that a text spells

pub spelled_apart : (l : Language) (Spelled : List Tree → Type 0) (a b : List Tree) → Spelled (a ++ b) → IsReadInTurn Spelled (items_read l) a b
spelled_apart l Spelled a b h = (a ++ b, h, items_in_turn l a b)

pub spelled_as_one : (l : Language) (Spelled : List Tree → Type 0) (a b before : List Tree) (xs ys : List ℕ) (after : List Tree) → a ≡ before ++ Literal xs ∷ [] → b ≡ Literal ys ∷ after → Spelled (before ++ Literal (xs ++ ys) ∷ after) → IsReadInTurn Spelled (items_read l) a b
spelled_as_one l Spelled a b before xs ys after is_a is_b h =
    (before ++ Literal (xs ++ ys) ∷ after, h, λ r bytes. one_literal l before xs ys after r bytes ∙ ap (λ (ts : List Tree). in_turn (items_read l ts) (items_read l (Literal ys ∷ after)) r bytes) (sym is_a) ∙ ap (λ (ts : List Tree). in_turn (items_read l a) (items_read l ts) r bytes) (sym is_b))
