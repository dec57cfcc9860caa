-- One text has one outcome.
use Rattle.std.proofs.Common.{◌≡◌, ℕ, List, Result, Ok, Err, false, refl, sym, ap, subst, ◌∙◌, inl, inr, ◌⊎◌}
use Rattle.description_lexer.specs.Fault.{Fault, fault_of}
use Rattle.description_lexer.specs.Answer.{◌>>=◌, Gives}
use Rattle.description_lexer.specs.declared.description_fault.DescriptionFault.{DescriptionFault}
use Rattle.description_lexer.specs.declared.description_fault.DescriptionFault.TheVariants as errors
use Rattle.description_items.specs.Tree.{Tree, Literal, Part, Compound, Optional, First, Trees}
use Rattle.description_lexer.specs.declared.version.DescriptionVersion.{DescriptionVersion}
use Rattle.description_lexer.specs.declared.version.DescriptionVersion.TheVariants.{Three}
use Rattle.description_lexer.proofs.Readings.{bind_ok, ok_is, made_err, err_is, not_err}
use Rattle.description_grammar.specs.Reading.{read_items, read_tree}
use Rattle.description_grammar.specs.Spelling.{SpellsItems, Spells, SpellsTree}
use Rattle.description_grammar.specs.Faulty.{Faulty}
use Rattle.description_grammar.specs.Outcomes.{OneOutcome, Outcome, joined}
use Rattle.description_grammar.proofs.Items.{text_read}
use Rattle.description_grammar.proofs.ItemsComplete.{unlisted, listed_again, spelled_is_read}
use Rattle.description_grammar.proofs.FaultyComplete.{faulty_is_refused}

pub one_outcome_holds : (v : DescriptionVersion) (text : List ℕ) → OneOutcome v text
one_outcome_holds v text = record {
  some = of_read (read_items v text) refl;
  one_tree = λ a b h k. ok_is a b (sym (spelled_is_read v text a h) ∙ spelled_is_read v text b k);
  one_fault = λ e f h k. err_is {A = List Tree} e f (sym (faulty_is_refused v text e h) ∙ faulty_is_refused v text f k);
  not_both = λ a e h k. not_err a e (sym (spelled_is_read v text a h) ∙ faulty_is_refused v text e k);
}
  where
    of_read : (r : Result (List Tree) Fault) → read_items v text ≡ r → ((ts : List Tree) × Spells v text ts) ⊎ ((e : Fault) × Faulty v text e)
    of_read (Ok ts) h = inl (ts, (text_read v text).ok ts h)
    of_read (Err e) h = inr (e, (text_read v text).err e h)

-- ---- answers

spells_tree : (v : DescriptionVersion) (text : List ℕ) (t : Tree) → SpellsTree v text t → (ts : List Tree) × (t ≡ joined ts) × Spells v text ts
spells_tree v text (Compound ts) h = (unlisted ts, sym (ap Compound (listed_again ts)), subst (λ (x : Trees). SpellsItems v false 127 text x) (sym (listed_again ts)) h)
spells_tree v text (Literal bytes) h = absurd h
spells_tree v text (Part c) h = absurd h
spells_tree v text (Optional f t) h = absurd h
spells_tree v text (First ts) h = absurd h

-- the tree of what is read
abbrev pub tree_of_read : Result (List Tree) Fault → Result Tree Fault
tree_of_read r = r >>= λ ts. Ok (joined ts)

-- a call that gives the items that are read gives their tree
pub as_tree : {X : Type 0} (items : X → List Tree) (r : Result X DescriptionFault) (read : Result (List Tree) Fault) → Gives items r read → Gives (λ x. joined (items x)) r (tree_of_read read)
as_tree items (Ok x) read h = ap tree_of_read h
as_tree items (Err errors.Memory) read h = tt
as_tree items (Err (errors.Description e)) read h = ap tree_of_read h

abbrev ok_tree : Tree → Result Tree Fault
ok_tree t = Ok t

-- a call that gives the tree that is read answers the text's outcome
pub has_outcome : {X : Type 0} (view : X → Tree) (v : DescriptionVersion) (text : List ℕ) (r : Result X DescriptionFault) → Gives view r (tree_of_read (read_items v text)) → Outcome view v text r
has_outcome view v text (Ok x) h =
    let a = bind_ok (read_items v text) (λ ts. ok_tree (joined ts)) (view x) h in
    subst (SpellsTree v text) (ok_is (joined a.0) (view x) a.2) ((text_read v text).ok a.0 a.1)
has_outcome view v text (Err errors.Memory) h = tt
has_outcome view v text (Err (errors.Description e)) h = (text_read v text).err (fault_of e) (made_err (read_items v text) (λ ts. joined ts) (fault_of e) h)

pub gives_tree : {X : Type 0} (view : X → Tree) (v : DescriptionVersion) (text : List ℕ) (r : Result X DescriptionFault) → Gives view r (tree_of_read (read_items v text)) → (t : Tree) → SpellsTree v text t → Gives view r (Ok t)
gives_tree view v text r h t spelled =
    let s = spells_tree v text t spelled in
    subst (λ (read : Result Tree Fault). Gives view r read) (ap tree_of_read (spelled_is_read v text s.0 s.2) ∙ ap ok_tree (sym s.1)) h

pub gives_fault : {X : Type 0} (view : X → Tree) (v : DescriptionVersion) (text : List ℕ) (r : Result X DescriptionFault) → Gives view r (tree_of_read (read_items v text)) → (e : Fault) → Faulty v text e → Gives view r (Err e)
gives_fault view v text r h e faulty = subst (λ (read : Result Tree Fault). Gives view r read) (ap tree_of_read (faulty_is_refused v text e faulty)) h

pub tree_is_spelled : (text : List ℕ) (t : Tree) → read_tree text ≡ Ok t → SpellsTree Three text t
unfolding read_tree
tree_is_spelled text t e =
    let a = bind_ok (read_items Three text) (λ ts. ok_tree (joined ts)) t e in
    subst (SpellsTree Three text) (ok_is (joined a.0) t a.2) ((text_read Three text).ok a.0 a.1)
