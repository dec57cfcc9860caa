-- What is known of the first bytes of lines, by the items that read them.
use Rattle.std.proofs.Common.{◌≡◌, ◌<◌, ◌≤◌, ◌==◌, ◌+◌, ◌-◌, ◌∙◌, ℕ, suc, Bool, true, false, List, [], ◌∷◌, ◌++◌, length, get_or, map, take, drop, Option, Some, None, Result, Ok, Err, refl, sym, ap, arith, inl, inr}
use Rattle.std.specs.Prelude.{bytes_eq, IfOk, IfSome, if◌then◌else◌}
use Rattle.std.proofs.lemmas.Bool.{cases_lt}
use Rattle.std.proofs.lemmas.Bool.Decides.{nat_tests}
use Rattle.std.proofs.lemmas.List.{take-append-drop, drop_more, drop_all, get_or_default}
use Rattle.std.proofs.lemmas.Slice.Eq.{bytes_eq-Decides}
use Rattle.description_items.specs.declared.component.Component.{Component}
use Rattle.description_items.specs.Tree.{Tree, Trees, Literal, Compound, Optional, First, none, also, listed}
use Rattle.description_items.specs.Tree as tree
use Rattle.parsing_combinator.specs.Fault.{Fault, literal}
use Rattle.parsing_combinator.specs.Readings.{then_read, give}
use Rattle.parsing_components.proofs.lemmas.Sizes.{from, split}
use Rattle.parsing_components.specs.Put.{put}
use Rattle.parsing_components.specs.declared.said.Read.{Read}
use Rattle.parsing_components.specs.Meaning.{Meaning, Answer, Counted, then_counted, all_of, or_unchanged, optionally, or_next, first_success, found_or, or_found, first_of, literally}
use Rattle.parsing_components.specs.Reads.{Language, reading, reading_of_all, reads, each_reads}
use Rattle.parsing_components.specs.declared.fields.Record.{Record}
use Rattle.parsing_item_layouts.specs.Forms.{Form, IsFormed}
use Rattle.parsing_item_layouts.specs.Fronts.{Leads}

mapped : {A : Type 0} (P Q : List ℕ → Type 0) (x : Result (A × List ℕ) Fault) → ((rest : List ℕ) → P rest → Q rest) → IfOk x (λ y. P y.1) → IfOk x (λ y. Q y.1)
mapped P Q (Ok y) f h = f y.1 h
mapped P Q (Err e) f h = tt

put_at : (P : List ℕ → Type 0) (r : Record) (x : Result (Read × List ℕ) Fault) → IfOk x (λ y. P y.1) → IfOk (then_read x (λ said. give (put said r))) (λ y. P y.1)
put_at P r (Ok y) h = h
put_at P r (Err e) h = tt

module _ {F : Type 0} (fits : Bool → F → List ℕ → Type 0) (language : Language) where
  -- whatever fits the one fits the other
  abbrev pub Kept : F → F → Type 0
  Kept some all = (whole : Bool) (line : List ℕ) → fits whole some line → fits whole all line

  -- what was read, if something was, leaves this, and began so
  abbrev Passes : Bool → Answer → F → F → List ℕ → Type 0
  Passes whole x after before line = IfOk x (λ y. fits whole after y.1 → fits whole before line)

  widened : (whole : Bool) (x : Answer) (after mid before : F) (line : List ℕ) → Kept mid before → Passes whole x after mid line → Passes whole x after before line
  widened whole x after mid before line more h = mapped (λ rest. fits whole after rest → fits whole mid line) (λ rest. fits whole after rest → fits whole before line) x (λ rest k there. more whole line (k there)) h

  pub leads_kept : (m : Meaning) (after mid before : F) → Leads fits m after mid → Kept mid before → Leads fits m after before
  leads_kept m after mid before h more whole r line = widened whole (m r line) after mid before line more (h whole r line)

  -- ---- literals and components

  text_passes : (whole : Bool) (text line : List ℕ) (r : Record) (after before : F) (same : Bool) → bytes_eq (take (length text) line) text ≡ same → ((rest : List ℕ) → fits whole after rest → fits whole before (text ++ rest))
      → Passes whole (then_read {A = Unit {0}} {B = Record} (if same then Ok (tt, drop (length text) line) else Err literal) (λ _ rest. Ok (r, rest))) after before line
  text_passes whole text line r after before true e h = λ there.
      let first : take (length text) line ≡ text = (bytes_eq-Decides (take (length text) line) text).0 e in
      let both : text ++ drop (length text) line ≡ line = ap (λ (t : List ℕ). t ++ drop (length text) line) (sym first) ∙ take-append-drop (length text) line in
      rw both at (h (drop (length text) line) there)
  text_passes whole text line r after before false e h = tt

  pub literal_leads : (text : List ℕ) (after before : F) → ((whole : Bool) (rest : List ℕ) → fits whole after rest → fits whole before (text ++ rest)) → Leads fits (reading language (Literal text)) after before
  unfolding reads literally
  literal_leads text after before h whole r line = text_passes whole text line r after before (bytes_eq (take (length text) line) text) refl (h whole)

  pub part_leads : (c : Component) (f : Form) (after before : F) → ((whole : Bool) (line rest : List ℕ) → IsFormed f line rest → fits whole after rest → fits whole before line) → ((line : List ℕ) → IfOk (language c line) (λ x. IsFormed f line x.1)) → Leads fits (reading language (tree.Part c)) after before
  unfolding reads
  part_leads c f after before h formed whole r line =
      put_at (λ rest. fits whole after rest → fits whole before line) r (language c line) (mapped (IsFormed f line) (λ rest. fits whole after rest → fits whole before line) (language c line) (h whole line) (formed line))

  -- ---- items one after another

  pub nothing_leads : (front : F) → Leads fits (reading_of_all language none) front front
  unfolding each_reads all_of
  nothing_leads front whole r line = λ there. there

  counted_passes : (whole : Bool) (x : Answer) (n : ℕ) (next : Counted) (after mid before : F) (line : List ℕ) → Passes whole x mid before line → ((r : Record) (rest : List ℕ) → Passes whole (next r rest).0 after mid rest) → Passes whole (then_counted x n next).0 after before line
  counted_passes whole (Ok y) n next after mid before line h k = mapped (λ rest. fits whole after rest → fits whole mid y.1) (λ rest. fits whole after rest → fits whole before line) (next y.0 y.1).0 (λ rest inner there. h (inner there)) (k y.0 y.1)
  counted_passes whole (Err e) n next after mid before line h k = tt

  pub next_leads : (t : Tree) (ts : Trees) (after mid before : F) → Leads fits (reading language t) mid before → Leads fits (reading_of_all language ts) after mid → Leads fits (reading_of_all language (also t ts)) after before
  unfolding each_reads all_of
  next_leads t ts after mid before h k whole r line = counted_passes whole (reads language t r line).0 (reads language t r line).1 (all_of (each_reads language ts)) after mid before line (h whole r line) (k whole)

  pub compound_leads : (ts : Trees) (after before : F) → Leads fits (reading_of_all language ts) after before → Leads fits (reading language (Compound ts)) after before
  unfolding reads
  compound_leads ts after before h whole r line = h whole r line

  -- ---- choices

  or_passes : (whole : Bool) (x : Answer) (r : Record) (after before : F) (line : List ℕ) → Passes whole x after before line → (fits whole after line → fits whole before line) → Passes whole (or_unchanged x r line) after before line
  or_passes whole (Ok y) r after before line h k = h
  or_passes whole (Err e) r after before line h k = k

  pub optional_leads : (format : Bool) (t : Tree) (after inside before : F) → Leads fits (reading language t) after inside → Kept inside before → Kept after before → Leads fits (reading language (Optional format t)) after before
  unfolding reads optionally
  optional_leads format t after inside before h taken left whole r line =
      or_passes whole (reads language t r line).0 r after before line (widened whole (reads language t r line).0 after inside before line taken (h whole r line)) (left whole line)

  -- each of the items at these places leads so
  abbrev pub EachLeads : {X : Type 0} → (X → Tree) → List X → ℕ → F → F → Type 0
  EachLeads {X} t xs n after before = (i : ℕ) (default : X) → i < n → Leads fits (reading language (t (get_or xs i default))) after before

  abbrev Succeeds : Bool → Option Answer → F → F → List ℕ → Type 0
  Succeeds whole o after before line = IfSome o (λ x. Passes whole x after before line)

  next_succeeds : (whole : Bool) (x : Answer) (n : ℕ) (others : Option Answer × ℕ) (after before : F) (line : List ℕ) → Passes whole x after before line → Succeeds whole others.0 after before line → Succeeds whole (or_next x n others).0 after before line
  next_succeeds whole (Ok y) n others after before line h k = h
  next_succeeds whole (Err e) n others after before line h k = k

  each_succeeds : {X : Type 0} (t : X → Tree) (xs : List X) (whole : Bool) (r : Record) (line : List ℕ) (after before : F) → EachLeads t xs (length xs) after before → Succeeds whole (first_success (each_reads language (listed (map t xs))) r line).0 after before line
  unfolding each_reads first_success
  each_succeeds t [] whole r line after before h = tt
  each_succeeds t (x ∷ xs) whole r line after before h =
      next_succeeds whole (reads language (t x) r line).0 (reads language (t x) r line).1 (first_success (each_reads language (listed (map t xs))) r line) after before line (h 0 x (omega arith) whole r line) (each_succeeds t xs whole r line after before (λ i default lt. h (suc i) default (omega (arith, lt))))

  found_passes : (whole : Bool) (f : Fault) (o : Option Answer) (after before : F) (line : List ℕ) → Succeeds whole o after before line → Passes whole (found_or f o) after before line
  found_passes whole f None after before line h = tt
  found_passes whole f (Some x) after before line h = h

  first_passes : (whole : Bool) (x : Answer) (n : ℕ) (others : Option Answer × ℕ) (after before : F) (line : List ℕ) → Passes whole x after before line → Succeeds whole others.0 after before line → Passes whole (or_found x n others).0 after before line
  first_passes whole (Ok y) n others after before line h k = h
  first_passes whole (Err e) n others after before line h k = found_passes whole e others.0 after before line k

  pub first_leads : {X : Type 0} (t : X → Tree) (xs : List X) (n : ℕ) (after before : F) → length xs ≤ n → (length xs == 0) ≡ false → EachLeads t xs n after before → Leads fits (reading language (First (listed (map t xs)))) after before
  unfolding reads each_reads first_of first_success
  first_leads t [] n after before all some h = absurd cc
  first_leads t (x ∷ xs) n after before all some h = λ whole r line.
      first_passes whole (reads language (t x) r line).0 (reads language (t x) r line).1 (first_success (each_reads language (listed (map t xs))) r line) after before line (h 0 x (omega (arith, all)) whole r line)
      (each_succeeds t xs whole r line after before (λ i default lt. h (suc i) default (omega (arith, lt, all))))

  pub no_choice : {X : Type 0} (t : X → Tree) (xs : List X) (front : F) → (length xs == 0) ≡ true → Leads fits (reading language (First (listed (map t xs)))) front front
  unfolding reads each_reads first_of
  no_choice t [] front e = λ whole r line there. there
  no_choice t (x ∷ xs) front e = absurd (let none : length (x ∷ xs) ≡ 0 = grind (arith, nat_tests, e) in omega (arith, none))

  -- ---- one item more

  pub each_more : {X : Type 0} (t : X → Tree) (xs : List X) (i : ℕ) (x : X) (after some choice all : F) → i < length xs → x ≡ get_or xs i x → EachLeads t xs i after some → Leads fits (reading language (t x)) after choice → Kept some all → Kept choice all → EachLeads t xs (i + 1) after all
  each_more t xs i x after some choice all within is h k keeps takes n default lt = elim (cases_lt n i) [
    | inl before ↦ leads_kept (reading language (t (get_or xs n default))) after some all (h n default before) keeps
    | inr from ↦
        let here : n ≡ i = omega (arith, from, lt) in
        let same : get_or xs n default ≡ x = ap (λ k. get_or xs k default) here ∙ get_or_default xs i default x within ∙ sym is in
        rw same (leads_kept (reading language (t x)) after choice all k takes)
  ]

  -- the one before the last so many
  pub back_leads : {X : Type 0} (t : X → Tree) (xs : List X) (i at : ℕ) (x : X) (after mid before : F) → i < length xs → at ≡ length xs - 1 - i → x ≡ get_or xs at x → Leads fits (reading_of_all language (from t xs (length xs - i))) after mid → Leads fits (reading language (t x)) mid before
      → Leads fits (reading_of_all language (from t xs (length xs - (i + 1)))) after before
  back_leads t xs i at x after mid before lt place is h k =
      let here : length xs - (i + 1) ≡ at = omega (arith, lt, place) in
      let next : length xs - i ≡ at + 1 = omega (arith, lt, place) in
      let others : Leads fits (reading_of_all language (from t xs (at + 1))) after mid = rw next at h in
      rw (here, split t xs at x (omega (arith, lt, place)) is) (next_leads (t x) (from t xs (at + 1)) after mid before k others)

  pub none_leads : {X : Type 0} (t : X → Tree) (xs : List X) (front : F) → Leads fits (reading_of_all language (from t xs (length xs - 0))) front front
  none_leads t xs front = let none : drop (length xs - 0) xs ≡ [] = drop_all (length xs - 0) xs (omega arith) in rw none (nothing_leads front)

  pub all_lead : {X : Type 0} (t : X → Tree) (xs : List X) (i : ℕ) (after before : F) → length xs ≤ i → Leads fits (reading_of_all language (from t xs (length xs - i))) after before → Leads fits (reading_of_all language (listed (map t xs))) after before
  all_lead t xs i after before le h = let first : length xs - i ≡ 0 = omega (arith, le) in rw first at h
