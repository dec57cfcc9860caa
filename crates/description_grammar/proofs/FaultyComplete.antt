-- What is faulty is refused with that fault.
use Rattle.std.proofs.Common.{◌≡◌, ℕ, zero, suc, ◌+◌, ◌<◌, List, [], ◌∷◌, ◌++◌, length, drop, None, Result, Ok, Err, Bool, true, false, not, eqb, refl, sym, ap, ◌∙◌, append_assoc, arith, inl, inr, ◌⊎◌}
use Rattle.std.specs.Prelude.{codes, ◌&&◌}
use Rattle.std.proofs.lemmas.List.{append-nil}
use Rattle.std.proofs.lemmas.Bool.{eqb-true, cond-false, and_right, or_from}
use Rattle.base.specs.Bytes.{left_bracket, right_bracket}
use Rattle.description_lexer.specs.Fault.{Fault, UnclosedOpeningBracket, NotSupported}
use Rattle.description_lexer.specs.Answer.{◌>>=◌}
use Rattle.description_lexer.specs.Further.{further}
use Rattle.description_items.specs.declared.component.Component.{Component}
use Rattle.description_items.specs.Tree.{Tree, Part, Compound, Optional, Trees, none, also, listed}
use Rattle.description_lexer.specs.declared.version.DescriptionVersion.{DescriptionVersion}
use Rattle.description_lexer.specs.declared.version.DescriptionVersion.TheVariants.{One, Two, Three}
use Rattle.description_lexer.specs.Version.{is_three}
use Rattle.description_lexer.specs.Text.{Rest, is_space, is_word_byte, is_plain, past, after}
use Rattle.description_lexer.specs.Many.{many}
use Rattle.description_lexer.specs.Words.{Modifier, begins, name_at, closed_at}
use Rattle.description_lexer.proofs.Readings.{failed}
use Rattle.description_lexer.proofs.Steps.{steps_many, steps_failing}
use Rattle.description_grammar.specs.Reading.{doubled_at, component_from, unsupported_at, no_bracket, bracket_at, element_at, is_end, nested_at, read_items}
use Rattle.description_grammar.specs.Heads.{Stops, SpellsHead}
use Rattle.description_grammar.specs.Spelling.{SpellsItems, SpellsAlternatives}
use Rattle.description_grammar.specs.Faulty.{After, Wrong, IsSingle, LacksName, HasBadWord, IsUnclosed, MeansNothing, BadEscape, BadNesting, IsOne, AreSome, IsNothing, AreBefore, BadItem, FaultyItems, FaultyNested, Faulty}
use Rattle.description_grammar.proofs.Results.{not_zero}
use Rattle.description_grammar.proofs.Places.{at_once, after_further, further_none, further_on}
use Rattle.description_grammar.proofs.Runs.{at_index, word_stops, space_first, stops_91}
use Rattle.description_grammar.proofs.Meaning.{head_elsewhere}
use Rattle.description_grammar.proofs.TextsSound.{RefusesText, bad_escape_again}
use Rattle.description_grammar.proofs.ComponentText.{no_name_again, bad_word_refused, unclosed_refused, nothing_refused}
use Rattle.description_grammar.proofs.Nesting.{Reader, opening_len, from_start, unclosed_here, lacks_space_again, lacks_bracket_again, ok_tree}
use Rattle.description_grammar.proofs.Items.{alternatives_shorten, items_shorten, nested_reads, first_of_list, read_some, named_item}
use Rattle.description_grammar.proofs.ItemsComplete.{unlisted, open_goes, no_double, head_opens, IsNesting, name_opens, opening_opens, nesting_again, optional_nests, first_nests, nested_opens, alternatives_steps, some_opens, some_again, items_steps, nested_again}

-- a text whose first construct is refused
record RefusesItem (v : DescriptionVersion) (levels i : ℕ) (text : List ℕ) (e : Fault) : Type 0 where
  goes : (inner : Bool) → is_end inner (at_index i text) ≡ false
  stops : Stops (is_plain v) text
  refuses : element_at v (nested_at v levels) (at_index i text) ≡ Err (further i e)

open_stops : (v : DescriptionVersion) (text : List ℕ) → begins left_bracket text ≡ true → Stops (is_plain v) text
open_stops v [] h = tt
open_stops v (b ∷ bs) h = let e : b ≡ left_bracket = eqb-true b left_bracket h in rw e (plain v)
  where
    plain : (v : DescriptionVersion) → is_plain v left_bracket ≡ false
    plain One = refl
    plain Two = refl
    plain Three = refl

opened_refuses : (v : DescriptionVersion) (levels i : ℕ) (text : List ℕ) (e : Fault) → begins left_bracket text ≡ true → element_at v (nested_at v levels) (at_index i text) ≡ Err (further i e) → RefusesItem v levels i text e
opened_refuses v levels i text e opens h = record { goes = λ inner. open_goes inner i text opens; stops = open_stops v text opens; refuses = h }

-- ---- escapes and components

escape_refuses : (v : DescriptionVersion) (levels i : ℕ) (text : List ℕ) (e : Fault) → BadEscape v text e → RefusesItem v levels i text e
unfolding element_at
escape_refuses v levels i text e h =
    let r : RefusesText v i text e = bad_escape_again v i text e h in
    record {
      goes = λ inner. or_from (eqb (length text) 0) (inner && begins right_bracket text) (not_zero (length text) r.some) (and_right inner (begins right_bracket text) r.no_end);
      stops = back_stops v text e h;
      refuses = rw (r.single, r.no_bracket, r.refuses) refl;
    }
  where
    back_stops : (v : DescriptionVersion) (text : List ℕ) (e : Fault) → BadEscape v text e → Stops (is_plain v) text
    back_stops One text e h = absurd h
    back_stops Two text e (rest, parts, no_escape, f) = rw parts refl
    back_stops Three text e (rest, parts, no_escape, f) = rw parts refl

lacking_single : (v : DescriptionVersion) (i : ℕ) (text rest : List ℕ) → text ≡ left_bracket ∷ rest → IsSingle v rest → doubled_at v (at_index i text) ≡ None
unfolding doubled_at
lacking_single One i text rest parts single = no_double One (at_index i text) (ap (λ (t : List ℕ). begins left_bracket (drop 1 t)) parts ∙ single)
lacking_single Two i text rest parts single = refl
lacking_single Three i text rest parts single = refl

lacks_name_refuses : (v : DescriptionVersion) (levels i : ℕ) (text : List ℕ) (e : Fault) → LacksName v text e → RefusesItem v levels i text e
unfolding element_at bracket_at
lacks_name_refuses v levels i text e h =
    let opens : begins left_bracket text ≡ true = ap (begins left_bracket) h.parts in
    let name = ap (λ (t : List ℕ). name_at i (after 1 (at_index i t))) h.parts ∙ no_name_again i h.blank h.rest h.spaces h.no_space h.no_word in
    opened_refuses v levels i text e opens (rw (lacking_single v i text (h.blank ++ h.rest) h.parts h.single, opens) (ap (λ (r : Result (Rest × Rest) Fault). r >>= named_item v (nested_at v levels) i) name ∙ rw h.fault_is refl))

-- a head, and what is refused after it
head_refuses : (v : DescriptionVersion) (levels i : ℕ) (text head tail : List ℕ) (name : Rest) (ms : List Modifier) (e : Fault) (h : SpellsHead v i head name ms) → text ≡ head ++ tail → Stops is_word_byte (h.last ++ tail)
    → component_from v i name (at_index (i + 1 + length h.first + length name.text) (h.middle ++ (h.last ++ tail))) ≡ Err (further i e) → RefusesItem v levels i text e
head_refuses v levels i text head tail name ms e h parts stops refused =
    let b = head_opens v levels i text head tail name ms h parts stops in
    opened_refuses v levels i text e b.0 (b.1 ∙ ap (λ (r : Result (Component × Rest) Fault). r >>= λ c. ok_tree (Part c.0) c.1) refused)

bad_word_refuses : (v : DescriptionVersion) (levels i : ℕ) (text : List ℕ) (e : Fault) → HasBadWord v text e → RefusesItem v levels i text e
bad_word_refuses v levels i text e h =
    let g = head_elsewhere v 0 i h.head h.name h.modifiers h.is_head in
    let apart : 0 < length g.is_head.last = rw g.last_is h.apart in
    head_refuses v levels i text h.head (h.word ++ h.rest) g.name_there g.modifiers e g.is_head h.parts (space_first g.is_head.last (h.word ++ h.rest) apart g.is_head.is_last) (
    bad_word_refused v i h.head h.word h.rest g.name_there g.modifiers h.bad.0 g.is_head apart h.is_word h.no_word h.bad.1
    ∙ ap (λ (e : Fault). failed {A = Component × Rest} e) (after_further i (length h.head) _ e h.bad)
    )

unclosed_refuses : (v : DescriptionVersion) (levels i : ℕ) (text : List ℕ) (e : Fault) → IsUnclosed v text e → RefusesItem v levels i text e
unclosed_refuses v levels i text e h =
    let g = head_elsewhere v 0 i h.head h.name h.modifiers h.is_head in
    head_refuses v levels i text h.head h.rest g.name_there g.modifiers e g.is_head h.parts (word_stops g.is_head.last h.rest g.is_head.is_last h.no_word) (
    unclosed_refused v i h.head h.rest g.name_there g.modifiers g.is_head h.no_space h.no_word h.open_still ∙ at_once (λ n. UnclosedOpeningBracket n) i e refl h.fault_is
    )

nothing_refuses : (v : DescriptionVersion) (levels i : ℕ) (text : List ℕ) (e : Fault) → MeansNothing v text e → RefusesItem v levels i text e
nothing_refuses v levels i text e h =
    let g = head_elsewhere v 0 i h.head h.name h.modifiers h.is_head in
    let d = g.agrees.err e h.means in
    head_refuses v levels i text h.head (right_bracket ∷ h.rest) g.name_there g.modifiers e g.is_head h.parts (word_stops g.is_head.last (right_bracket ∷ h.rest) g.is_head.is_last refl) (
    nothing_refused v i h.head h.rest g.name_there g.modifiers d.0 g.is_head d.1 ∙ ap (λ (e : Fault). failed {A = Component × Rest} e) (further_on i e d.0 d.2)
    )

-- ---- nested items

-- how nested descriptions are read again, and how their faults are
record ReadsAgain {A : Type 0} (v : DescriptionVersion) (read : Reader A) (make : A → Tree) (Before : List ℕ → Type 0) (Inside : List ℕ → List ℕ → Type 0) (Deeper : Wrong) : Type 0 where
  opens_inside : (inside rest tail : List ℕ) → Inside inside rest → begins left_bracket (inside ++ tail) ≡ true
  reads : (i : ℕ) (inside rest : List ℕ) → Inside inside rest → Stops is_space rest → (a : A) × (read (at_index i (inside ++ rest)) ≡ Ok (a, at_index (i + length inside) rest))
  opens_before : (before rest : List ℕ) (e : Fault) → Before before → Deeper rest e → begins left_bracket (before ++ rest) ≡ true
  fails : (i : ℕ) (before rest : List ℕ) (e : Fault) → Before before → Deeper rest e → read (at_index i (before ++ rest)) ≡ Err (further (i + length before) e)

nesting_refuses : {A : Type 0} (v : DescriptionVersion) (levels : ℕ) (nesting what : List ℕ) (read : Reader A) (make : A → Tree) (Before : List ℕ → Type 0) (Inside : List ℕ → List ℕ → Type 0) (Deeper : Wrong) → IsNesting v levels nesting what read make → ReadsAgain v read make Before Inside Deeper
    → (i : ℕ) (text : List ℕ) (e : Fault) → BadNesting v nesting what Before Inside Deeper text e → RefusesItem v levels i text e
nesting_refuses v levels nesting what read make Before Inside Deeper nests again i text e (inl h) =
    let c = name_opens v levels nesting what read make nests i text h.first h.word h.rest h.parts h.is_first h.is_word h.is_name h.no_word in
    let len : i + 1 + length h.first + length h.word ≡ i + (1 + length h.first + length h.word) = omega arith in
    opened_refuses v levels i text e c.0 (c.1 ∙ lacks_space_again v what read make i (i + 1 + length h.first + length h.word) h.rest h.no_space ∙ rw (h.fault_is, len) refl)
nesting_refuses v levels nesting what read make Before Inside Deeper nests again i text e (inr (inl h)) =
    let o = h.is_opening in
    let c = name_opens v levels nesting what read make nests i text o.first o.word (o.blank ++ h.rest) (h.parts ∙ rw o.parts (simp append_assoc)) o.is_first o.is_word o.is_name (space_first o.blank h.rest o.some_space o.spaces) in
    opened_refuses v levels i text e c.0 (c.1 ∙ lacks_bracket_again v what read make i (i + 1 + length o.first + length o.word) o.blank h.rest o.spaces o.some_space h.no_space h.no_bracket ∙ rw (h.fault_is, opening_len v nesting h.opening i o) refl)
nesting_refuses v levels nesting what read make Before Inside Deeper nests again i text e (inr (inr (inl h))) =
    let prefix : ℕ = length h.opening + length h.before in
    let c = opening_opens v levels nesting what read make nests i text h.opening (h.before ++ h.rest) h.is_opening h.parts (again.opens_before h.before h.rest h.is_bad.0 h.is_before h.is_bad.1) in
    let place : i + length h.opening + length h.before ≡ i + prefix = omega arith in
    opened_refuses v levels i text e c.0 (
    c.1
    ∙ ap (from_start v make i) (again.fails (i + length h.opening) h.before h.rest h.is_bad.0 h.is_before h.is_bad.1)
    ∙ ap (λ (e : Fault). failed {A = Tree × Rest} e) (ap (λ (n : ℕ). further n h.is_bad.0) place ∙ after_further i prefix _ e h.is_bad)
    )
nesting_refuses v levels nesting what read make Before Inside Deeper nests again i text e (inr (inr (inr (inl h)))) =
    let c = opening_opens v levels nesting what read make nests i text h.opening (h.inside ++ h.rest) h.is_opening h.parts (again.opens_inside h.inside h.rest h.rest h.is_inside) in
    let r = again.reads (i + length h.opening) h.inside h.rest h.is_inside h.no_space in
    opened_refuses v levels i text e c.0 (c.1 ∙ ap (from_start v make i) r.1 ∙ unclosed_here v make i (i + length h.opening + length h.inside) h.rest r.0 h.open_still ∙ at_once (λ n. UnclosedOpeningBracket n) i e refl h.fault_is)
nesting_refuses v levels nesting what read make Before Inside Deeper nests again i text e (inr (inr (inr (inr h)))) =
    let n = h.is_own in
    let r = again.reads (i + length n.opening) n.inside (right_bracket ∷ h.rest) n.is_inside refl in
    let c = nesting_again v levels nesting what read make nests i h.own h.rest _ n r.0 (again.opens_inside n.inside (right_bracket ∷ h.rest) (right_bracket ∷ h.rest) n.is_inside) r.1 in
    opened_refuses v levels i text e (ap (begins left_bracket) h.parts ∙ c.0) (
    ap (λ (t : List ℕ). element_at v (nested_at v levels) (at_index i t)) h.parts
    ∙ c.1
    ∙ cond-false (is_three v) (ok_tree (make r.0) (at_index (i + length h.own) h.rest)) (Err (unsupported_at i)) h.not_three
    ∙ at_once (λ n. NotSupported (codes "nested item") (codes "versions 1 and 2") n) i e refl h.fault_is
    )

-- ---- nested descriptions

-- what is faulty where so many levels may be opened is refused
record NestedFails (v : DescriptionVersion) (levels : ℕ) : Type 0 where
  opens : (text : List ℕ) (e : Fault) → FaultyNested v levels text e → begins left_bracket text ≡ true
  fails : (i : ℕ) (text : List ℕ) (e : Fault) → FaultyNested v levels text e → nested_at v levels (at_index i text) ≡ Err (further i e)

one_reads : (v : DescriptionVersion) (levels : ℕ) → NestedFails v levels → ReadsAgain v (nested_at v levels) (Optional true) IsNothing (IsOne v levels) (FaultyNested v levels)
one_reads v levels deeper = record {
  opens_inside = λ inside rest tail h. nested_opens v levels inside tail h.0 h.1;
  reads = λ i inside rest h stops. (h.0, nested_again v levels i inside rest h.0 h.1 stops);
  opens_before = λ before rest e is_nothing h. ap (λ (t : List ℕ). begins left_bracket (t ++ rest)) is_nothing ∙ deeper.opens rest e h;
  fails = λ i before rest e is_nothing h. bare_fails i before rest e is_nothing h;
}
  where
    bare_fails : (i : ℕ) (before rest : List ℕ) (e : Fault) → before ≡ [] → FaultyNested v levels rest e → nested_at v levels (at_index i (before ++ rest)) ≡ Err (further (i + length before) e)
    bare_fails i before rest e is_nothing h =
        let len : i ≡ i + length before = omega (arith, ap (length {A = ℕ}) is_nothing) in
        ap (λ (t : List ℕ). nested_at v levels (at_index i (t ++ rest))) is_nothing ∙ deeper.fails i rest e h ∙ ap (λ (n : ℕ). failed {A = Tree × Rest} (further n e)) len

some_reads : (v : DescriptionVersion) (levels : ℕ) → NestedFails v levels → ReadsAgain v (read_some v levels) first_of_list (AreBefore v levels) (AreSome v levels) (FaultyNested v levels)
some_reads v levels deeper = record {
  opens_inside = λ inside rest tail h. some_opens v levels h.0 inside tail h.1 h.2;
  reads = λ i inside rest h stops. (unlisted h.0, some_again v levels (nested_again v levels) h.0 i inside rest h.2 stops h.3);
  opens_before = λ before rest e h bad. before_opens h.0 before rest h.1 (deeper.opens rest e bad);
  fails = λ i before rest e h bad. some_fail i before rest e h.0 h.1 bad;
}
  where
    before_opens : (ts : Trees) (before rest : List ℕ) → SpellsAlternatives v levels before ts → begins left_bracket rest ≡ true → begins left_bracket (before ++ rest) ≡ true
    before_opens none before rest e opens = ap (λ (t : List ℕ). begins left_bracket (t ++ rest)) e ∙ opens
    before_opens (also t ts) before rest (nested, others, parts, one, more) opens =
        ap (λ (t : List ℕ). begins left_bracket (t ++ rest)) parts ∙ ap (begins left_bracket) (append_assoc nested others rest) ∙ nested_opens v levels nested (others ++ rest) t one

    some_fail : (i : ℕ) (before rest : List ℕ) (e : Fault) (ts : Trees) → SpellsAlternatives v levels before ts → FaultyNested v levels rest e → read_some v levels (at_index i (before ++ rest)) ≡ Err (further (i + length before) e)
    some_fail i before rest e ts h bad =
        let opens = deeper.opens rest e bad in
        steps_failing no_bracket (nested_at v levels) (alternatives_shorten v levels (nested_reads v levels)) (suc (length (before ++ rest))) (at_index i (before ++ rest)) (unlisted ts) (at_index (i + length before) rest) (further (i + length before) e) (omega arith) (alternatives_steps v levels (nested_again v levels) ts i before rest h (stops_91 rest opens)) (ap not opens) (deeper.fails (i + length before) rest e bad)

-- ---- items

item_refuses : (v : DescriptionVersion) (levels : ℕ) → NestedFails v levels → (i : ℕ) (text : List ℕ) (e : Fault) → BadItem v levels (FaultyNested v levels) text e → RefusesItem v levels i text e
item_refuses v levels deeper i text e (inl h) = escape_refuses v levels i text e h
item_refuses v levels deeper i text e (inr (inl h)) = lacks_name_refuses v levels i text e h
item_refuses v levels deeper i text e (inr (inr (inl h))) = bad_word_refuses v levels i text e h
item_refuses v levels deeper i text e (inr (inr (inr (inl h)))) = unclosed_refuses v levels i text e h
item_refuses v levels deeper i text e (inr (inr (inr (inr (inl h))))) = nothing_refuses v levels i text e h
item_refuses v levels deeper i text e (inr (inr (inr (inr (inr (inl h)))))) =
    nesting_refuses v levels (codes "optional") (codes "whitespace after `optional`") (nested_at v levels) (Optional true) IsNothing (IsOne v levels) (FaultyNested v levels) (optional_nests v levels) (one_reads v levels deeper) i text e h
item_refuses v levels deeper i text e (inr (inr (inr (inr (inr (inr h)))))) =
    nesting_refuses v levels (codes "first") (codes "whitespace after `first`") (read_some v levels) first_of_list (AreBefore v levels) (AreSome v levels) (FaultyNested v levels) (first_nests v levels) (some_reads v levels deeper) i text e h

items_fail : (v : DescriptionVersion) (inner : Bool) (levels : ℕ) → NestedFails v levels → (i : ℕ) (text : List ℕ) (e : Fault) → FaultyItems v inner levels (FaultyNested v levels) text e → many (is_end inner) (element_at v (nested_at v levels)) (suc (length text)) (at_index i text) ≡ Err (further i e)
items_fail v inner levels deeper i text e h =
    let step = element_at v (nested_at v levels) in
    let r : RefusesItem v levels (i + length h.prefix) h.bad h.is_bad.0 = item_refuses v levels deeper (i + length h.prefix) h.bad h.is_bad.0 h.is_bad.1 in
    let steps = items_steps v inner levels (nested_again v levels) h.items i h.prefix h.bad h.is_prefix r.stops in
    let fails = steps_failing (is_end inner) step (items_shorten v inner levels (nested_reads v levels)) (suc (length (h.prefix ++ h.bad))) (at_index i (h.prefix ++ h.bad)) (unlisted h.items) (at_index (i + length h.prefix) h.bad) (further (i + length h.prefix) h.is_bad.0) (omega arith) steps (r.goes inner) r.refuses in
    ap (λ (t : List ℕ). many (is_end inner) step (suc (length t)) (at_index i t)) h.parts ∙ fails ∙ ap (λ (e : Fault). failed {A = List Tree × Rest} e) (after_further i (length h.prefix) _ e h.is_bad)

-- the text ends in it
ends_inside : (v : DescriptionVersion) (levels i : ℕ) (text : List ℕ) (items : Trees) → SpellsItems v true levels text items → many (is_end true) (element_at v (nested_at v levels)) (suc (length text)) (at_index (i + 1) text) ≡ Ok (unlisted items, at_index (i + 1 + length text) [])
ends_inside v levels i text items h =
    let step = element_at v (nested_at v levels) in
    let steps = items_steps v true levels (nested_again v levels) items (i + 1) text [] h tt in
    ap (λ (t : List ℕ). many (is_end true) step (suc (length t)) (at_index (i + 1) t)) (sym (append-nil text))
    ∙ steps_many (is_end true) step (items_shorten v true levels (nested_reads v levels)) (suc (length (text ++ []))) (at_index (i + 1) (text ++ [])) (unlisted items) (at_index (i + 1 + length text) []) (omega arith) steps refl

nested_fails : (v : DescriptionVersion) (levels : ℕ) → NestedFails v levels
unfolding nested_at FaultyNested closed_at
nested_fails v zero = record {
  opens = λ text e h. ap (begins left_bracket) h.1;
  fails = λ i text e h. at_once (λ n. NotSupported (codes "nesting past 127 levels") (codes "format descriptions") n) i e refl h.2;
}
nested_fails v (suc levels) = record {
  opens = λ text e h. ap (begins left_bracket) h.1;
  fails = λ i text e h. ap (λ (t : List ℕ). nested_at v (suc levels) (at_index i t)) h.1 ∙ inside (nested_fails v levels) i h.0 e h.2;
}
  where
    Inside : ℕ → List ℕ → Fault → Type 0
    Inside i rest e = nested_at v (suc levels) (at_index i (left_bracket ∷ rest)) ≡ Err (further i e)

    inside : NestedFails v levels → (i : ℕ) (rest : List ℕ) (e : Fault) → After 1 (FaultyItems v true levels (FaultyNested v levels) rest) e ⊎ ((items : Trees) × SpellsItems v true levels rest items × (e ≡ UnclosedOpeningBracket 0)) → Inside i rest e
    inside deeper i rest e (inl h) =
        ap (λ (r : Result (List Tree × Rest) Fault). r >>= λ items. closed_at i items.1 >>= λ rest. ok_tree (Compound (listed items.0)) (past is_space rest)) (items_fail v true levels deeper (i + 1) rest h.0 h.1) ∙ ap (λ (e : Fault). failed {A = Tree × Rest} e) (after_further i 1 _ e h)
    inside deeper i rest e (inr (items, h, f)) =
        ap (λ (r : Result (List Tree × Rest) Fault). r >>= λ items. closed_at i items.1 >>= λ rest. ok_tree (Compound (listed items.0)) (past is_space rest)) (ends_inside v levels i rest items h) ∙ at_once (λ n. UnclosedOpeningBracket n) i e refl f

-- ---- the whole text

pub faulty_is_refused : (v : DescriptionVersion) (text : List ℕ) (e : Fault) → Faulty v text e → read_items v text ≡ Err e
unfolding read_items
faulty_is_refused v text e h =
    ap (λ (r : Result (List Tree × Rest) Fault). r >>= λ items. ok_trees items.0) (items_fail v false 127 (nested_fails v 127) 0 text e h) ∙ ap (λ (e : Fault). failed {A = List Tree} e) (further_none (length h.prefix) _ e h.is_bad)
  where
    ok_trees : List Tree → Result (List Tree) Fault
    ok_trees ts = Ok ts
