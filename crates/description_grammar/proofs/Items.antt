-- What is read as items is spelled so, and what is refused has that fault.
use Rattle.std.proofs.Common.{◌≡◌, ℕ, zero, suc, ◌+◌, ◌<◌, List, [], ◌∷◌, ◌++◌, length, drop, Option, Some, None, Result, Ok, Bool, true, false, cond, eqb, refl, sym, ap, subst, ◌∙◌, arith, inl, inr}
use Rattle.std.specs.Prelude.{codes, ◌&&◌, ◌||◌}
use Rattle.std.proofs.lemmas.List.{append-nil, nil_from_length}
use Rattle.std.proofs.lemmas.Bool.Decides.{nat_tests}
use Rattle.std.proofs.lemmas.Bool.{both_ways, false_from_ne_true, or_parts, or_from, not-false, not-true}
use Rattle.base.specs.Bytes.{left_bracket, right_bracket}
use Rattle.description_lexer.specs.Fault.{Fault, UnclosedOpeningBracket, NotSupported}
use Rattle.description_lexer.specs.Answer.{◌>>=◌}
use Rattle.description_items.specs.Tree.{Tree, Literal, Part, Compound, Optional, First, listed}
use Rattle.description_lexer.specs.declared.version.DescriptionVersion.{DescriptionVersion}
use Rattle.description_lexer.specs.declared.version.DescriptionVersion.TheVariants.{One, Two, Three}
use Rattle.description_lexer.specs.Text.{Rest, is_space, run, past, after, whole}
use Rattle.description_lexer.specs.Many.{many}
use Rattle.description_lexer.specs.Words.{is_named, begins}
use Rattle.description_lexer.proofs.Steps.{Steps, Shortens, Read}
use Rattle.description_grammar.specs.Reading.{doubled_at, text_at, component_from, Nester, optional_at, no_bracket, first_at, bracket_at, literal_or, element_at, is_end, nested_at, read_items}
use Rattle.description_grammar.specs.Heads.{Stops}
use Rattle.description_grammar.specs.Spelling.{SpellsItems, SpellsItem, SpellsNested, SpellsAlternatives, Spells}
use Rattle.description_grammar.specs.Faulty.{After, IsSingle, IsOne, AreSome, IsNothing, AreBefore, BadItem, FaultyItems, FaultyNested, Faulty}
use Rattle.description_grammar.proofs.Results.{above}
use Rattle.description_grammar.proofs.ValueOrFault.{Reads, gives, refuses, either, in_turn, reads_as, many_read}
use Rattle.description_grammar.proofs.Places.{further_none, at_first, after_both}
use Rattle.description_grammar.proofs.Runs.{each_run, stops_past, Takes, takes_then, takes_run, takes_length, takes_byte, begins_cons, stops_91, closed_reads}
use Rattle.description_grammar.proofs.TextsSound.{text_prefix, text_some, TakesText, text_reads, doubled_takes}
use Rattle.description_grammar.proofs.ComponentText.{TakesName, name_reads, BadComponent, component_reads}
use Rattle.description_grammar.proofs.Nesting.{TakesInside, RefusesInside, nesting_reads}

-- ---- nested descriptions

pub record TakesNested (v : DescriptionVersion) (levels : ℕ) (s : Rest) (x : Tree × Rest) : Type 0 where
  pub own : List ℕ
  pub takes : Takes s own x.1
  pub some : 0 < length own
  pub spells : SpellsNested v levels own x.0
  pub no_space : Stops is_space x.1.text

-- how nested descriptions are read where so many levels may be opened
abbrev pub NestedReads : DescriptionVersion → ℕ → Type 0
NestedReads v levels = (s : Rest) → begins left_bracket s.text ≡ true → Reads (TakesNested v levels s) (After s.index (FaultyNested v levels s.text)) (nested_at v levels s)

one_reads : (v : DescriptionVersion) (levels : ℕ) → NestedReads v levels → (start : Rest) → begins left_bracket start.text ≡ true → Reads (TakesInside (SpellsNested v levels) (IsOne v levels) start) (RefusesInside IsNothing (FaultyNested v levels) start) (nested_at v levels start)
one_reads v levels nested start opens = reads_as _ (nested start opens) (
    λ x n. record { own = n.own; takes = n.takes; means = n.spells; inside = (x.0, n.spells); no_space = n.no_space }
    ) (λ e bad. record { before = []; bad = start; takes = record { parts = refl; index = omega arith }; is_before = refl; is_bad = bad })

abbrev MeansSome : DescriptionVersion → ℕ → List ℕ → List Tree → Type 0
MeansSome v levels own ts = (0 < length own) × SpellsAlternatives v levels own (listed ts)

record TakesAlternatives (v : DescriptionVersion) (levels : ℕ) (s : Rest) (ts : List Tree) (rest : Rest) : Type 0 where
  own : List ℕ
  takes : Takes s own rest
  spells : SpellsAlternatives v levels own (listed ts)
  no_space : Stops is_space rest.text

alternatives_take : (v : DescriptionVersion) (levels : ℕ) → NestedReads v levels → (ts : List Tree) (s rest : Rest) → Stops is_space s.text → Steps no_bracket (nested_at v levels) s ts rest → TakesAlternatives v levels s ts rest
alternatives_take v levels nested [] s rest stops e = subst (λ (r : Rest). TakesAlternatives v levels s [] r) e (record { own = []; takes = record { parts = refl; index = omega arith }; spells = refl; no_space = stops })
alternatives_take v levels nested (t ∷ ts) s rest stops (next, goes, is_t, more) =
    let one : TakesNested v levels s (t, next) = (nested s (not-false (begins left_bracket s.text) goes)).ok (t, next) is_t in
    let others : TakesAlternatives v levels next ts rest = alternatives_take v levels nested ts next rest one.no_space more in
    record {
      own = one.own ++ others.own;
      takes = takes_then s one.own next others.own rest one.takes others.takes;
      spells = (one.own, others.own, refl, one.spells, others.spells);
      no_space = others.no_space;
    }

pub alternatives_shorten : (v : DescriptionVersion) (levels : ℕ) → NestedReads v levels → Shortens no_bracket (nested_at v levels)
alternatives_shorten v levels nested s x goes e =
    let t : TakesNested v levels s x = (nested s (not-false (begins left_bracket s.text) goes)).ok x e in
    omega (arith, t.some, takes_length s t.own x.1 t.takes)

abbrev pub read_some : DescriptionVersion → ℕ → Rest → Result (List Tree × Rest) Fault
read_some v levels start = many no_bracket (nested_at v levels) (suc (length start.text)) start

some_reads : (v : DescriptionVersion) (levels : ℕ) → NestedReads v levels → (start : Rest) → begins left_bracket start.text ≡ true → Reads (TakesInside (MeansSome v levels) (AreSome v levels) start) (RefusesInside (AreBefore v levels) (FaultyNested v levels) start) (read_some v levels start)
some_reads v levels nested start opens = reads_as _ (many_read no_bracket (nested_at v levels) (alternatives_shorten v levels nested) start) taken (
    λ e f.
    let a : TakesAlternatives v levels start f.prefix f.bad = alternatives_take v levels nested f.prefix start f.bad (stops_91 start.text opens) f.steps in
    let fails = nested f.bad (not-false (begins left_bracket f.bad.text) f.goes_on) in
    record { before = a.own; bad = f.bad; takes = a.takes; is_before = (listed f.prefix, a.spells); is_bad = fails.err e f.fails }
    )
  where
    some_own : (own more : List ℕ) → start.text ≡ own ++ more → begins left_bracket more ≡ false → 0 < length own
    some_own [] more parts none = absurd (both_ways (begins left_bracket more) none (ap (begins left_bracket) (sym parts) ∙ opens))
    some_own (b ∷ bs) more parts none = omega arith

    taken : (x : List Tree × Rest) → Read no_bracket (nested_at v levels) start x → TakesInside (MeansSome v levels) (AreSome v levels) start x
    taken x read =
        let a : TakesAlternatives v levels start x.0 x.1 = alternatives_take v levels nested x.0 start x.1 (stops_91 start.text opens) read.0 in
        let none : begins left_bracket x.1.text ≡ false = not-true (begins left_bracket x.1.text) read.1 in
        let some : 0 < length a.own = some_own a.own x.1.text a.takes.parts none in
        record { own = a.own; takes = a.takes; means = (some, a.spells); inside = (listed x.0, some, a.spells, none); no_space = a.no_space }

-- ---- one item

pub record TakesItem (v : DescriptionVersion) (inner : Bool) (levels : ℕ) (s : Rest) (t : Tree) (rest : Rest) : Type 0 where
  pub own : List ℕ
  pub takes : Takes s own rest
  pub some : 0 < length own
  pub spells : SpellsItem v inner levels own rest.text t

of_text : (v : DescriptionVersion) (inner : Bool) (levels : ℕ) (s : Rest) (bytes : List ℕ) (rest : Rest) → TakesText v inner s bytes rest → TakesItem v inner levels s (Literal bytes) rest
of_text v inner levels s bytes rest t = record { own = t.own; takes = t.takes; some = text_some v inner t.own rest.text bytes t.spells; spells = t.spells }

abbrev pub first_of_list : List Tree → Tree
first_of_list ts = First (listed ts)

-- the three things that a name may open
abbrev pub part_from : DescriptionVersion → ℕ → Rest × Rest → Result (Tree × Rest) Fault
part_from v bracket name = component_from v bracket name.0 name.1 >>= λ c. Ok (Part c.0, c.1)

abbrev pub named_item : DescriptionVersion → Nester → ℕ → Rest × Rest → Result (Tree × Rest) Fault
named_item v inside bracket name =
    cond (is_named v name.0.text (codes "optional")) (optional_at v inside bracket name.1) (cond (is_named v name.0.text (codes "first")) (first_at v inside bracket name.1) (part_from v bracket name))

bracket_reads : (v : DescriptionVersion) (inner : Bool) (levels : ℕ) → NestedReads v levels → (s : Rest) → begins left_bracket s.text ≡ true → IsSingle v (after 1 s).text
    → Reads (λ (x : Tree × Rest). TakesItem v inner levels s x.0 x.1) (After s.index (BadItem v levels (FaultyNested v levels) s.text)) (bracket_at v (nested_at v levels) s)
unfolding bracket_at optional_at first_at
bracket_reads v inner levels nested s opens single =
    in_turn _ _ (name_reads v s opens single) (λ e h. (h.0, inr (inl h.1), h.2)) (λ name n. either _ _ _ (λ is_name. as_optional name n is_name) (λ no_optional. either _ _ _ (λ is_name. as_first name n is_name) (λ no_first. as_part name n no_optional no_first)))
  where
    Item : Result (Tree × Rest) Fault → Type 0
    Item r = Reads (λ (x : Tree × Rest). TakesItem v inner levels s x.0 x.1) (After s.index (BadItem v levels (FaultyNested v levels) s.text)) r

    as_optional : (name : Rest × Rest) → TakesName (after 1 s) name.0 name.1 → is_named v name.0.text (codes "optional") ≡ true → Item (optional_at v (nested_at v levels) s.index name.1)
    as_optional name n is_name =
        reads_as _ (nesting_reads v (codes "optional") (codes "whitespace after `optional`") (nested_at v levels) (Optional true) (SpellsNested v levels) (IsOne v levels) IsNothing (FaultyNested v levels) (one_reads v levels nested) s name.0 name.1 opens n is_name)
        (λ x t. record { own = t.own; takes = t.takes; some = t.some; spells = subst (λ (y : Tree). SpellsItem v inner levels t.own x.1.text y) t.made (t.three, refl, t.spells) })
        (λ e bad. (bad.0, inr (inr (inr (inr (inr (inl bad.1))))), bad.2))

    as_first : (name : Rest × Rest) → TakesName (after 1 s) name.0 name.1 → is_named v name.0.text (codes "first") ≡ true → Item (first_at v (nested_at v levels) s.index name.1)
    as_first name n is_name =
        reads_as _ (nesting_reads v (codes "first") (codes "whitespace after `first`") (read_some v levels) first_of_list (MeansSome v levels) (AreSome v levels) (AreBefore v levels) (FaultyNested v levels) (some_reads v levels nested) s name.0 name.1 opens n is_name)
        (λ x t. record { own = t.own; takes = t.takes; some = t.some; spells = subst (λ (y : Tree). SpellsItem v inner levels t.own x.1.text y) t.made (t.three, t.spells) })
        (λ e bad. (bad.0, inr (inr (inr (inr (inr (inr bad.1))))), bad.2))

    bad_part : (e : Fault) → After s.index (BadComponent v s.text) e → After s.index (BadItem v levels (FaultyNested v levels) s.text) e
    bad_part e (d, inl h, is) = (d, inr (inr (inl h)), is)
    bad_part e (d, inr (inl h), is) = (d, inr (inr (inr (inl h))), is)
    bad_part e (d, inr (inr h), is) = (d, inr (inr (inr (inr (inl h)))), is)

    as_part : (name : Rest × Rest) → TakesName (after 1 s) name.0 name.1 → is_named v name.0.text (codes "optional") ≡ false → is_named v name.0.text (codes "first") ≡ false → Item (part_from v s.index name)
    as_part name n no_optional no_first =
        in_turn _ _ (component_reads v s name.0 name.1 opens n (or_from _ _ no_optional no_first)) bad_part (λ c t. gives _ (record { own = t.own; takes = t.takes; some = t.some; spells = t.spells }))

single_of : (v : DescriptionVersion) (s : Rest) → begins left_bracket s.text ≡ true → doubled_at v s ≡ None → IsSingle v (after 1 s).text
unfolding doubled_at
single_of One s opens e = false_from_ne_true (begins left_bracket (after 1 s).text) (λ next. absurd (some_not _ (rw (opens, next) at e)))
  where
    some_not : (a : List ℕ × Rest) → Some a ≡ None → ⊥
    some_not a e = cc
single_of Two s opens e = tt
single_of Three s opens e = tt

element_reads : (v : DescriptionVersion) (inner : Bool) (levels : ℕ) → NestedReads v levels → (s : Rest) → is_end inner s ≡ false
    → Reads (λ (x : Tree × Rest). TakesItem v inner levels s x.0 x.1) (After s.index (BadItem v levels (FaultyNested v levels) s.text)) (element_at v (nested_at v levels) s)
unfolding element_at
element_reads v inner levels nested s goes = by_doubled (doubled_at v s) refl
  where
    open_text : (eqb (length s.text) 0 ≡ false) × ((inner && begins right_bracket s.text) ≡ false)
    open_text = or_parts _ _ goes

    by_doubled : (d : Option (List ℕ × Rest)) → doubled_at v s ≡ d
        → Reads (λ (x : Tree × Rest). TakesItem v inner levels s x.0 x.1) (After s.index (BadItem v levels (FaultyNested v levels) s.text)) (literal_or d (cond (begins left_bracket s.text) (bracket_at v (nested_at v levels) s) (text_at v s >>= λ x. Ok (Literal x.0, x.1))))
    by_doubled (Some y) is_d = gives _ (of_text v inner levels s y.0 y.1 (doubled_takes v inner s y is_d))
    by_doubled None is_d = either _ _ _ (λ g. bracket_reads v inner levels nested s g (single_of v s g is_d)) (
        λ g. in_turn _ _ (text_reads v inner s (above _ open_text.0) g open_text.1) (λ e bad. (bad.0, inl bad.1, bad.2)) (λ x t. gives _ (of_text v inner levels s x.0 x.1 t))
        )

-- only the byte after it matters to an item
pub item_prefix : (v : DescriptionVersion) (inner : Bool) (levels : ℕ) (own more tail : List ℕ) (t : Tree) → SpellsItem v inner levels own (more ++ tail) t → SpellsItem v inner levels own more t
item_prefix v inner levels own more tail (Literal bytes) h = text_prefix v inner own more tail bytes h
item_prefix v inner levels own more tail (Part c) h = h
item_prefix v inner levels own more tail (Optional f t) h = h
item_prefix v inner levels own more tail (First ts) h = h
item_prefix v inner levels own more tail (Compound ts) h = h

pub record TakesItems (v : DescriptionVersion) (inner : Bool) (levels : ℕ) (s : Rest) (ts : List Tree) (rest : Rest) : Type 0 where
  pub own : List ℕ
  pub takes : Takes s own rest
  pub spells : SpellsItems v inner levels own (listed ts)

pub items_shorten : (v : DescriptionVersion) (inner : Bool) (levels : ℕ) → NestedReads v levels → Shortens (is_end inner) (element_at v (nested_at v levels))
items_shorten v inner levels nested s x goes e =
    let t : TakesItem v inner levels s x.0 x.1 = (element_reads v inner levels nested s goes).ok x e in
    omega (arith, t.some, takes_length s t.own x.1 t.takes)

items_take : (v : DescriptionVersion) (inner : Bool) (levels : ℕ) → NestedReads v levels → (ts : List Tree) (s rest : Rest) → Steps (is_end inner) (element_at v (nested_at v levels)) s ts rest → TakesItems v inner levels s ts rest
items_take v inner levels nested [] s rest e = subst (λ (r : Rest). TakesItems v inner levels s [] r) e (record { own = []; takes = record { parts = refl; index = omega arith }; spells = refl })
items_take v inner levels nested (t ∷ ts) s rest (next, goes, is_t, more) =
    let one : TakesItem v inner levels s t next = (element_reads v inner levels nested s goes).ok (t, next) is_t in
    let others : TakesItems v inner levels next ts rest = items_take v inner levels nested ts next rest more in
    let spelled : SpellsItem v inner levels one.own (others.own ++ rest.text) t = subst (λ (m : List ℕ). SpellsItem v inner levels one.own m t) others.takes.parts one.spells in
    record {
      own = one.own ++ others.own;
      takes = takes_then s one.own next others.own rest one.takes others.takes;
      spells = (one.own, others.own, refl, item_prefix v inner levels one.own others.own rest.text t spelled, others.spells);
    }

-- all items up to the end
record TakesAll (v : DescriptionVersion) (inner : Bool) (levels : ℕ) (s : Rest) (x : List Tree × Rest) : Type 0 where
  items : TakesItems v inner levels s x.0 x.1
  ends : is_end inner x.1 ≡ true

items_read : (v : DescriptionVersion) (inner : Bool) (levels : ℕ) → NestedReads v levels → (s : Rest) → Reads (TakesAll v inner levels s) (After s.index (FaultyItems v inner levels (FaultyNested v levels) s.text)) (many (is_end inner) (element_at v (nested_at v levels)) (suc (length s.text)) s)
items_read v inner levels nested s = reads_as _ (many_read (is_end inner) (element_at v (nested_at v levels)) (items_shorten v inner levels nested) s) (λ x read. record { items = items_take v inner levels nested x.0 s x.1 read.0; ends = read.1 }) (
    λ e f.
    let i : TakesItems v inner levels s f.prefix f.bad = items_take v inner levels nested f.prefix s f.bad f.steps in
    let bad = (element_reads v inner levels nested f.bad f.goes_on).err e f.fails in
    let b = after_both s.index (length i.own) f.bad.index (BadItem v levels (FaultyNested v levels) f.bad.text) e i.takes.index bad in
    (b.0, record { items = listed f.prefix; prefix = i.own; bad = f.bad.text; parts = i.takes.parts; is_prefix = i.spells; is_bad = b.1 }, b.2)
    )

-- where nothing is left, the items are the whole text
all_spelled : (v : DescriptionVersion) (inner : Bool) (levels : ℕ) (s : Rest) (x : List Tree × Rest) → TakesAll v inner levels s x → (inner && begins right_bracket x.1.text) ≡ false → SpellsItems v inner levels s.text (listed x.0)
all_spelled v inner levels s x all open_still =
    let ended : x.1.text ≡ [] = nil_from_length x.1.text (at_the_end (length x.1.text) (inner && begins right_bracket x.1.text) all.ends open_still) in
    subst (λ (t : List ℕ). SpellsItems v inner levels t (listed x.0)) (sym (append-nil all.items.own) ∙ ap (λ (t : List ℕ). all.items.own ++ t) (sym ended) ∙ sym all.items.takes.parts) all.items.spells
  where
    at_the_end : (n : ℕ) (b : Bool) → (eqb n 0 || b) ≡ true → b ≡ false → n ≡ 0
    at_the_end n b h k = grind (arith, nat_tests)

pub nested_reads : (v : DescriptionVersion) (levels : ℕ) → NestedReads v levels
unfolding nested_at FaultyNested
nested_reads v zero s opens = refuses _ (NotSupported (codes "nesting past 127 levels") (codes "format descriptions") 0, (drop 1 s.text, begins_cons left_bracket s.text opens, refl), at_first (λ i. NotSupported (codes "nesting past 127 levels") (codes "format descriptions") i) s.index)
nested_reads v (suc levels) s opens = in_turn _ _ (items_read v true levels (nested_reads v levels) (after 1 s)) (λ e bad. let b = after_both s.index 1 (s.index + 1) (FaultyItems v true levels (FaultyNested v levels) (after 1 s).text) e refl bad in (b.0, (drop 1 s.text, begins_cons left_bracket s.text opens, inl b.1), b.2)) (
    λ x all. in_turn _ _ (closed_reads s.index x.1) (λ e k. (UnclosedOpeningBracket 0, (drop 1 s.text, begins_cons left_bracket s.text opens, inr (listed x.0, all_spelled v true levels (after 1 s) x all k.0, refl)), k.1 ∙ at_first (λ i. UnclosedOpeningBracket i) s.index)) (
    λ rest close.
    let blank : List ℕ = (run is_space rest).text in
    let ends : Takes x.1 (right_bracket ∷ blank) (past is_space rest) = takes_then x.1 (right_bracket ∷ []) rest blank (past is_space rest) close (takes_run is_space rest) in
    let inside : Takes (after 1 s) (all.items.own ++ right_bracket ∷ blank) (past is_space rest) = takes_then (after 1 s) all.items.own x.1 (right_bracket ∷ blank) (past is_space rest) all.items.takes ends in
    gives _ (record {
      own = left_bracket ∷ (all.items.own ++ right_bracket ∷ blank);
      takes = takes_then s (left_bracket ∷ []) (after 1 s) (all.items.own ++ right_bracket ∷ blank) (past is_space rest) (takes_byte left_bracket s opens) inside;
      some = omega arith;
      spells = (levels, all.items.own, blank, refl, refl, each_run is_space rest.text, all.items.spells);
      no_space = stops_past is_space rest.text;
    })
    )
    )

-- ---- the whole text

pub text_read : (v : DescriptionVersion) (text : List ℕ) → Reads (Spells v text) (Faulty v text) (read_items v text)
unfolding read_items
text_read v text = in_turn _ _ (items_read v false 127 (nested_reads v 127) (whole text)) begun (λ x all. gives _ (all_spelled v false 127 (whole text) x all refl))
  where
    begun : (e : Fault) → After 0 (FaultyItems v false 127 (FaultyNested v 127) text) e → Faulty v text e
    begun e (own, h, is_own) = subst (Faulty v text) (sym (is_own ∙ further_none (length h.prefix) _ own h.is_bad)) h
