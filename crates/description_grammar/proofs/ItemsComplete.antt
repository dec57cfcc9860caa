-- Items that are spelled so are read.
use Rattle.std.proofs.Common.{◌≡◌, ℕ, zero, suc, ◌+◌, ◌<◌, List, [], ◌∷◌, ◌++◌, length, None, Result, Ok, Bool, true, false, not, eqb, refl, sym, ap, subst, ◌∙◌, append_assoc, arith, inl, inr}
use Rattle.std.specs.Prelude.{codes, ◌&&◌}
use Rattle.std.proofs.lemmas.List.{length-append, append-nil}
use Rattle.std.proofs.lemmas.Bool.{or_right, eqb-true, cond-false, and_right, or_parts, or_from}
use Rattle.base.specs.Bytes.{left_bracket, right_bracket}
use Rattle.description_lexer.specs.Fault.{Fault}
use Rattle.description_lexer.specs.Answer.{◌>>=◌}
use Rattle.description_items.specs.declared.component.Component.{Component}
use Rattle.description_items.specs.Tree.{Tree, Literal, Part, Compound, Optional, First, Trees, none, also, listed}
use Rattle.description_lexer.specs.declared.version.DescriptionVersion.{DescriptionVersion}
use Rattle.description_lexer.specs.declared.version.DescriptionVersion.TheVariants.{One, Two, Three}
use Rattle.description_lexer.specs.Version.{is_one, is_three}
use Rattle.description_lexer.specs.Text.{Rest, is_space, is_word_byte, is_plain, past, after}
use Rattle.description_lexer.specs.Words.{Modifier, is_named, begins, name_at, closed_at}
use Rattle.description_grammar.specs.Reading.{doubled_at, supported, optional_at, no_bracket, first_at, bracket_at, element_at, is_end, nested_at, read_items}
use Rattle.description_grammar.specs.Heads.{Each, Stops, IsWord, SpellsHead, SpellsComponent, SpellsOpening, SpellsNesting}
use Rattle.description_grammar.specs.Spelling.{SpellsItems, SpellsItem, SpellsNested, SpellsAlternatives, Spells}
use Rattle.description_grammar.proofs.Results.{not_zero}
use Rattle.description_grammar.proofs.Runs.{at_index, same_index, past_is, word_stops, space_first, stops_91, closed_again}
use Rattle.description_lexer.proofs.Steps.{Steps, steps_many}
use Rattle.description_grammar.proofs.TextsSound.{SpellsText, text_more, text_some, BeginsText, text_again}
use Rattle.description_grammar.proofs.Meaning.{head_elsewhere}
use Rattle.description_grammar.proofs.Modifiers.{modifiers_stop}
use Rattle.description_grammar.proofs.ComponentText.{name_again, no_bracket_first, component_again}
use Rattle.description_grammar.proofs.Nesting.{not_optional, opening_len, from_start, from_opening, closed_here, ok_tree, Reader, nesting_at}
use Rattle.description_grammar.proofs.Items.{alternatives_shorten, items_shorten, nested_reads, first_of_list, read_some, part_from, named_item}

-- ---- lists of trees

abbrev pub unlisted : Trees → List Tree
unlisted none = []
unlisted (also t ts) = t ∷ unlisted ts

pub listed_again : (ts : Trees) → listed (unlisted ts) ≡ ts
listed_again none = refl
listed_again (also t ts) = ap (also t) (listed_again ts)

pub unlisted_again : (ts : List Tree) → unlisted (listed ts) ≡ ts
unlisted_again [] = refl
unlisted_again (t ∷ ts) = ap (λ (ts : List Tree). t ∷ ts) (unlisted_again ts)

-- ---- brackets

pub no_close : (text : List ℕ) → begins left_bracket text ≡ true → begins right_bracket text ≡ false
no_close [] h = refl
no_close (b ∷ bs) h = let e : b ≡ left_bracket = eqb-true b left_bracket h in rw e refl

opens_some : (text : List ℕ) → begins left_bracket text ≡ true → 0 < length text
opens_some [] h = absurd cc
opens_some (b ∷ bs) h = omega arith

pub open_goes : (inner : Bool) (i : ℕ) (text : List ℕ) → begins left_bracket text ≡ true → is_end inner (at_index i text) ≡ false
open_goes inner i text h = or_from (eqb (length text) 0) (inner && begins right_bracket text) (not_zero (length text) (opens_some text h)) (and_right inner (begins right_bracket text) (no_close text h))

pub no_double : (v : DescriptionVersion) (s : Rest) → begins left_bracket (after 1 s).text ≡ false → doubled_at v s ≡ None
unfolding doubled_at
no_double v s h = cond-false (is_one v && (begins left_bracket s.text && begins left_bracket (after 1 s).text)) _ None (and_right (is_one v) _ (and_right (begins left_bracket s.text) _ h))

-- a bracket and a name, and what they open
name_begins : (v : DescriptionVersion) (levels i : ℕ) (text first more : List ℕ) (name : Rest) → text ≡ left_bracket ∷ (first ++ (name.text ++ more)) → Each is_space first → IsWord name.text → name.index ≡ i + 1 + length first → Stops is_word_byte more
    → (begins left_bracket text ≡ true) × (element_at v (nested_at v levels) (at_index i text) ≡ named_item v (nested_at v levels) i (name, at_index (i + 1 + length first + length name.text) more))
unfolding element_at bracket_at
name_begins v levels i text first more name parts is_first is_name placed stops =
    let opens : begins left_bracket text ≡ true = ap (begins left_bracket) parts in
    let once = ap (λ (t : List ℕ). begins left_bracket (after 1 (at_index i t)).text) parts ∙ no_bracket_first first name.text more is_first is_name in
    let named = ap (λ (t : List ℕ). name_at i (after 1 (at_index i t))) parts ∙ name_again i (i + 1) first name more is_first is_name placed stops in
    (opens, rw (no_double v (at_index i text) once, opens) (ap (λ (r : Result (Rest × Rest) Fault). r >>= named_item v (nested_at v levels) i) named))

names_part : (v : DescriptionVersion) (levels bracket : ℕ) (name next : Rest) → is_named v name.text (codes "optional") ≡ false → is_named v name.text (codes "first") ≡ false → named_item v (nested_at v levels) bracket (name, next) ≡ part_from v bracket (name, next)
names_part v levels bracket name next no_optional no_first = rw (no_optional, no_first) refl

-- a head, and what is read after it
pub head_opens : (v : DescriptionVersion) (levels i : ℕ) (text head tail : List ℕ) (name : Rest) (ms : List Modifier) (h : SpellsHead v i head name ms) → text ≡ head ++ tail → Stops is_word_byte (h.last ++ tail)
    → (begins left_bracket text ≡ true) × (element_at v (nested_at v levels) (at_index i text) ≡ part_from v i (name, at_index (i + 1 + length h.first + length name.text) (h.middle ++ (h.last ++ tail))))
head_opens v levels i text head tail name ms h parts stops =
    let more : List ℕ = h.middle ++ (h.last ++ tail) in
    let not_nesting = or_parts _ _ h.no_nesting in
    let c = name_begins v levels i text h.first more name (parts ∙ rw h.parts (simp append_assoc)) h.is_first h.is_name h.name_at (modifiers_stop (i + 1 + length h.first + length name.text) h.middle ms (h.last ++ tail) h.modifiers stops) in
    (c.0, c.1 ∙ names_part v levels i name (at_index (i + 1 + length h.first + length name.text) more) not_nesting.0 not_nesting.1)

-- ---- nested descriptions

abbrev pub NestedAgain : DescriptionVersion → ℕ → Type 0
NestedAgain v levels = (i : ℕ) (own rest : List ℕ) (t : Tree) → SpellsNested v levels own t → Stops is_space rest → nested_at v levels (at_index i (own ++ rest)) ≡ Ok (t, at_index (i + length own) rest)

pub nested_opens : (v : DescriptionVersion) (levels : ℕ) (own rest : List ℕ) (t : Tree) → SpellsNested v levels own t → begins left_bracket (own ++ rest) ≡ true
nested_opens v levels own rest (Compound ts) (fewer, text, blank, e, parts, spaces, items) = ap (λ (t : List ℕ). begins left_bracket (t ++ rest)) parts
nested_opens v levels own rest (Literal bytes) h = absurd h
nested_opens v levels own rest (Part c) h = absurd h
nested_opens v levels own rest (Optional f t) h = absurd h
nested_opens v levels own rest (First ts) h = absurd h

alternatives_stop : (v : DescriptionVersion) (levels : ℕ) (ts : Trees) (own rest : List ℕ) → SpellsAlternatives v levels own ts → Stops is_space rest → Stops is_space (own ++ rest)
alternatives_stop v levels none own rest e stops = rw e stops
alternatives_stop v levels (also t ts) own rest (nested, others, parts, one, more) stops =
    stops_91 (own ++ rest) (ap (λ (t : List ℕ). begins left_bracket (t ++ rest)) parts ∙ ap (begins left_bracket) (append_assoc nested others rest) ∙ nested_opens v levels nested (others ++ rest) t one)

pub alternatives_steps : (v : DescriptionVersion) (levels : ℕ) → NestedAgain v levels → (ts : Trees) (i : ℕ) (own rest : List ℕ) → SpellsAlternatives v levels own ts → Stops is_space rest → Steps no_bracket (nested_at v levels) (at_index i (own ++ rest)) (unlisted ts) (at_index (i + length own) rest)
alternatives_steps v levels again none i own rest e stops = ap (λ (t : List ℕ). at_index i (t ++ rest)) e ∙ same_index _ _ rest (omega (arith, ap (length {A = ℕ}) e))
alternatives_steps v levels again (also t ts) i own rest (nested, others, parts, one, more) stops =
    let whole_text : own ++ rest ≡ nested ++ (others ++ rest) = ap (λ (t : List ℕ). t ++ rest) parts ∙ append_assoc nested others rest in
    let len : i + length nested + length others ≡ i + length own = omega (arith, ap (length {A = ℕ}) parts, length-append nested others) in
    let opens : begins left_bracket (nested ++ (others ++ rest)) ≡ true = nested_opens v levels nested (others ++ rest) t one in
    let later = subst (λ (j : ℕ). Steps no_bracket (nested_at v levels) (at_index (i + length nested) (others ++ rest)) (unlisted ts) (at_index j rest)) len (alternatives_steps v levels again ts (i + length nested) others rest more stops) in
    subst (λ (t0 : List ℕ). Steps no_bracket (nested_at v levels) (at_index i t0) (t ∷ unlisted ts) (at_index (i + length own) rest)) (sym whole_text) (
      at_index (i + length nested) (others ++ rest),
      ap not opens,
      again i nested (others ++ rest) t one (alternatives_stop v levels ts others rest more stops),
      later,
    )

pub some_opens : (v : DescriptionVersion) (levels : ℕ) (ts : Trees) (own rest : List ℕ) → 0 < length own → SpellsAlternatives v levels own ts → begins left_bracket (own ++ rest) ≡ true
some_opens v levels none own rest some e = absurd (omega (arith, ap (length {A = ℕ}) e))
some_opens v levels (also t ts) own rest some (nested, others, parts, one, more) =
    ap (λ (t : List ℕ). begins left_bracket (t ++ rest)) parts ∙ ap (begins left_bracket) (append_assoc nested others rest) ∙ nested_opens v levels nested (others ++ rest) t one

pub some_again : (v : DescriptionVersion) (levels : ℕ) → NestedAgain v levels → (ts : Trees) (i : ℕ) (own rest : List ℕ) → SpellsAlternatives v levels own ts → Stops is_space rest → begins left_bracket rest ≡ false → read_some v levels (at_index i (own ++ rest)) ≡ Ok (unlisted ts, at_index (i + length own) rest)
some_again v levels again ts i own rest h stops none_left =
    steps_many no_bracket (nested_at v levels) (alternatives_shorten v levels (nested_reads v levels)) (suc (length (own ++ rest))) (at_index i (own ++ rest)) (unlisted ts) (at_index (i + length own) rest) (omega arith) (alternatives_steps v levels again ts i own rest h stops) (ap not none_left)

-- ---- one item

pub record ReadsItem (v : DescriptionVersion) (inner : Bool) (levels i : ℕ) (own rest : List ℕ) (t : Tree) : Type 0 where
  pub goes : is_end inner (at_index i (own ++ rest)) ≡ false
  pub reads : element_at v (nested_at v levels) (at_index i (own ++ rest)) ≡ Ok (t, at_index (i + length own) rest)

text_reads : (v : DescriptionVersion) (inner : Bool) (levels i : ℕ) (own rest bytes : List ℕ) → SpellsText v inner own rest bytes → ReadsItem v inner levels i own rest (Literal bytes)
unfolding element_at
text_reads v inner levels i own rest bytes h =
    let b : BeginsText v inner i own rest bytes = text_again v inner i own bytes rest h in
    let some : 0 < length (own ++ rest) = omega (arith, length-append own rest, text_some v inner own rest bytes h) in
    record {
      goes = or_from (eqb (length (own ++ rest)) 0) (inner && begins right_bracket (own ++ rest)) (not_zero (length (own ++ rest)) some) b.no_end;
      reads = elim b.reads [
        | inl g ↦ rw (g.0, g.1, g.2) refl
        | inr g ↦ rw g refl
      ];
    }

part_reads : (v : DescriptionVersion) (inner : Bool) (levels i : ℕ) (own rest : List ℕ) (c : Component) → SpellsComponent v own c → ReadsItem v inner levels i own rest (Part c)
part_reads v inner levels i own rest c h =
    let g = head_elsewhere v 0 i h.head h.name h.modifiers h.is_head in
    let parts : own ++ rest ≡ h.head ++ right_bracket ∷ rest = rw h.parts (simp append_assoc) in
    let b = head_opens v levels i (own ++ rest) h.head (right_bracket ∷ rest) g.name_there g.modifiers g.is_head parts (word_stops g.is_head.last (right_bracket ∷ rest) g.is_head.is_last refl) in
    let len : i + length h.head + 1 ≡ i + length own = omega (arith, ap (length {A = ℕ}) h.parts, length-append h.head (right_bracket ∷ [])) in
    record {
      goes = open_goes inner i (own ++ rest) b.0;
      reads =
          b.1
          ∙ ap (λ (r : Result (Component × Rest) Fault). r >>= λ c. ok_tree (Part c.0) c.1) (component_again v i h.head rest g.name_there g.modifiers c g.is_head (g.agrees.ok c h.means))
          ∙ ap (ok_tree (Part c)) (same_index _ _ rest len);
    }

-- ---- nested items

-- a nesting name hands on to what reads after it
abbrev pub IsNesting : {A : Type 0} → DescriptionVersion → ℕ → List ℕ → List ℕ → Reader A → (A → Tree) → Type 0
IsNesting v levels nesting what read make = (bracket : ℕ) (name next : Rest) → is_named v name.text nesting ≡ true → named_item v (nested_at v levels) bracket (name, next) ≡ nesting_at v what read make bracket next

pub name_opens : {A : Type 0} (v : DescriptionVersion) (levels : ℕ) (nesting what : List ℕ) (read : Reader A) (make : A → Tree) → IsNesting v levels nesting what read make
    → (i : ℕ) (text first word more : List ℕ) → text ≡ left_bracket ∷ (first ++ (word ++ more)) → Each is_space first → IsWord word → is_named v word nesting ≡ true → Stops is_word_byte more
    → (begins left_bracket text ≡ true) × (element_at v (nested_at v levels) (at_index i text) ≡ nesting_at v what read make i (at_index (i + 1 + length first + length word) more))
name_opens v levels nesting what read make nests i text first word more parts is_first is_word is_name stops =
    let name : Rest = at_index (i + 1 + length first) word in
    let c = name_begins v levels i text first more name parts is_first is_word refl stops in
    (c.0, c.1 ∙ nests i name (at_index (i + 1 + length first + length word) more) is_name)

pub opening_opens : {A : Type 0} (v : DescriptionVersion) (levels : ℕ) (nesting what : List ℕ) (read : Reader A) (make : A → Tree) → IsNesting v levels nesting what read make
    → (i : ℕ) (text opening tail : List ℕ) → SpellsOpening v nesting opening → text ≡ opening ++ tail → begins left_bracket tail ≡ true
    → (begins left_bracket text ≡ true) × (element_at v (nested_at v levels) (at_index i text) ≡ from_start v make i (read (at_index (i + length opening) tail)))
opening_opens v levels nesting what read make nests i text opening tail o parts opens =
    let c = name_opens v levels nesting what read make nests i text o.first o.word (o.blank ++ tail) (parts ∙ rw o.parts (simp append_assoc)) o.is_first o.is_word o.is_name (space_first o.blank tail o.some_space o.spaces) in
    (c.0, c.1 ∙ from_opening v what read make i (i + 1 + length o.first + length o.word) o.blank tail o.spaces o.some_space opens ∙ ap (λ (j : ℕ). from_start v make i (read (at_index j tail))) (opening_len v nesting opening i o))

-- where what is nested is read, and closed
pub nesting_again : {A : Type 0} (v : DescriptionVersion) (levels : ℕ) (nesting what : List ℕ) (read : Reader A) (make : A → Tree) → IsNesting v levels nesting what read make
    → (i : ℕ) (own rest : List ℕ) (Inside : List ℕ → Type 0) (h : SpellsNesting v nesting own Inside) (a : A) → begins left_bracket (h.inside ++ right_bracket ∷ rest) ≡ true
    → read (at_index (i + length h.opening) (h.inside ++ right_bracket ∷ rest)) ≡ Ok (a, at_index (i + length h.opening + length h.inside) (right_bracket ∷ rest))
    → (begins left_bracket (own ++ rest) ≡ true) × (element_at v (nested_at v levels) (at_index i (own ++ rest)) ≡ supported v i (make a) (at_index (i + length own) rest))
nesting_again v levels nesting what read make nests i own rest Inside h a opens reads =
    let c = opening_opens v levels nesting what read make nests i (own ++ rest) h.opening (h.inside ++ right_bracket ∷ rest) h.is_opening (rw h.parts (simp append_assoc)) opens in
    let len : i + length h.opening + length h.inside + 1 ≡ i + length own = omega (arith, ap (length {A = ℕ}) h.parts, length-append h.opening (h.inside ++ right_bracket ∷ []), length-append h.inside (right_bracket ∷ [])) in
    (c.0, c.1 ∙ ap (from_start v make i) reads ∙ closed_here v make i (i + length h.opening + length h.inside) rest a ∙ ap (supported v i (make a)) (same_index _ _ rest len))

pub is_supported : (v : DescriptionVersion) (bracket : ℕ) (t : Tree) (rest : Rest) → is_three v ≡ true → supported v bracket t rest ≡ ok_tree t rest
is_supported v bracket t rest three = rw three refl

pub optional_nests : (v : DescriptionVersion) (levels : ℕ) → IsNesting v levels (codes "optional") (codes "whitespace after `optional`") (nested_at v levels) (Optional true)
unfolding optional_at
optional_nests v levels bracket name next h = rw h refl

pub first_nests : (v : DescriptionVersion) (levels : ℕ) → IsNesting v levels (codes "first") (codes "whitespace after `first`") (read_some v levels) first_of_list
unfolding first_at
first_nests v levels bracket name next h = rw (not_optional v name.text h, h) refl

optional_reads : (v : DescriptionVersion) (inner : Bool) (levels : ℕ) → NestedAgain v levels → (i : ℕ) (own rest : List ℕ) (t : Tree) → is_three v ≡ true → SpellsNesting v (codes "optional") own (λ inside. SpellsNested v levels inside t) → ReadsItem v inner levels i own rest (Optional true t)
optional_reads v inner levels again i own rest t three h =
    let r = nesting_again v levels (codes "optional") (codes "whitespace after `optional`") (nested_at v levels) (Optional true) (optional_nests v levels) i own rest _ h t (nested_opens v levels h.inside (right_bracket ∷ rest) t h.is_inside) (again (i + length h.opening) h.inside (right_bracket ∷ rest) t h.is_inside refl) in
    record { goes = open_goes inner i (own ++ rest) r.0; reads = r.1 ∙ is_supported v i (Optional true t) (at_index (i + length own) rest) three }

first_reads : (v : DescriptionVersion) (inner : Bool) (levels : ℕ) → NestedAgain v levels → (i : ℕ) (own rest : List ℕ) (ts : Trees) → is_three v ≡ true → SpellsNesting v (codes "first") own (λ inside. (0 < length inside) × SpellsAlternatives v levels inside ts) → ReadsItem v inner levels i own rest (First ts)
first_reads v inner levels again i own rest ts three h =
    let r = nesting_again v levels (codes "first") (codes "whitespace after `first`") (read_some v levels) first_of_list (first_nests v levels) i own rest _ h (unlisted ts) (some_opens v levels ts h.inside (right_bracket ∷ rest) h.is_inside.0 h.is_inside.1) (some_again v levels again ts (i + length h.opening) h.inside (right_bracket ∷ rest) h.is_inside.1 refl refl) in
    record {
      goes = open_goes inner i (own ++ rest) r.0;
      reads = r.1 ∙ is_supported v i (first_of_list (unlisted ts)) (at_index (i + length own) rest) three ∙ ap (λ (ts : Trees). ok_tree (First ts) (at_index (i + length own) rest)) (listed_again ts);
    }

pub item_reads : (v : DescriptionVersion) (inner : Bool) (levels : ℕ) → NestedAgain v levels → (i : ℕ) (own rest : List ℕ) (t : Tree) → SpellsItem v inner levels own rest t → ReadsItem v inner levels i own rest t
item_reads v inner levels again i own rest (Literal bytes) h = text_reads v inner levels i own rest bytes h
item_reads v inner levels again i own rest (Part c) h = part_reads v inner levels i own rest c h
item_reads v inner levels again i own rest (Optional format t) (three, written, h) = subst (λ (f : Bool). ReadsItem v inner levels i own rest (Optional f t)) (sym written) (optional_reads v inner levels again i own rest t three h)
item_reads v inner levels again i own rest (First ts) (three, h) = first_reads v inner levels again i own rest ts three h
item_reads v inner levels again i own rest (Compound ts) h = absurd h

-- ---- items

pub item_more : (v : DescriptionVersion) (inner : Bool) (levels : ℕ) (own more tail : List ℕ) (t : Tree) → Stops (is_plain v) tail → SpellsItem v inner levels own more t → SpellsItem v inner levels own (more ++ tail) t
item_more v inner levels own more tail (Literal bytes) stops h = text_more v inner own more tail bytes stops h
item_more v inner levels own more tail (Part c) stops h = h
item_more v inner levels own more tail (Optional f t) stops h = h
item_more v inner levels own more tail (First ts) stops h = h
item_more v inner levels own more tail (Compound ts) stops h = h

pub items_steps : (v : DescriptionVersion) (inner : Bool) (levels : ℕ) → NestedAgain v levels → (ts : Trees) (i : ℕ) (own tail : List ℕ) → SpellsItems v inner levels own ts → Stops (is_plain v) tail
    → Steps (is_end inner) (element_at v (nested_at v levels)) (at_index i (own ++ tail)) (unlisted ts) (at_index (i + length own) tail)
items_steps v inner levels again none i own tail e stops = ap (λ (t : List ℕ). at_index i (t ++ tail)) e ∙ same_index _ _ tail (omega (arith, ap (length {A = ℕ}) e))
items_steps v inner levels again (also t ts) i own tail (mine, more, parts, one, others) stops =
    let whole_text : own ++ tail ≡ mine ++ (more ++ tail) = ap (λ (t : List ℕ). t ++ tail) parts ∙ append_assoc mine more tail in
    let len : i + length mine + length more ≡ i + length own = omega (arith, ap (length {A = ℕ}) parts, length-append mine more) in
    let r : ReadsItem v inner levels i mine (more ++ tail) t = item_reads v inner levels again i mine (more ++ tail) t (item_more v inner levels mine more tail t stops one) in
    let later = subst (λ (j : ℕ). Steps (is_end inner) (element_at v (nested_at v levels)) (at_index (i + length mine) (more ++ tail)) (unlisted ts) (at_index j tail)) len (items_steps v inner levels again ts (i + length mine) more tail others stops) in
    subst (λ (t0 : List ℕ). Steps (is_end inner) (element_at v (nested_at v levels)) (at_index i t0) (t ∷ unlisted ts) (at_index (i + length own) tail)) (sym whole_text) (at_index (i + length mine) (more ++ tail), r.goes, r.reads, later)

pub bracket_stops : (v : DescriptionVersion) → is_plain v right_bracket ≡ false
bracket_stops One = refl
bracket_stops Two = refl
bracket_stops Three = refl

pub nested_again : (v : DescriptionVersion) (levels : ℕ) → NestedAgain v levels
unfolding nested_at
nested_again v levels i own rest (Literal bytes) h stops = absurd h
nested_again v levels i own rest (Part c) h stops = absurd h
nested_again v levels i own rest (Optional f t) h stops = absurd h
nested_again v levels i own rest (First ts) h stops = absurd h
nested_again v zero i own rest (Compound ts) (fewer, text, blank, e, parts, spaces, items) stops = absurd (omega arith)
nested_again v (suc levels) i own rest (Compound ts) (fewer, text, blank, e, parts, spaces, items) stops =
    let same : fewer ≡ levels = omega arith in
    let tail : List ℕ = right_bracket ∷ (blank ++ rest) in
    let s : Rest = at_index (i + 1) (text ++ tail) in
    let end : Rest = at_index (i + 1 + length text) tail in
    let step = element_at v (nested_at v levels) in
    let whole_text : own ++ rest ≡ left_bracket ∷ (text ++ tail) = rw parts (simp append_assoc) in
    let steps = items_steps v true levels (nested_again v levels) ts (i + 1) text tail (subst (λ (n : ℕ). SpellsItems v true n text ts) same items) (bracket_stops v) in
    let all = steps_many (is_end true) step (items_shorten v true levels (nested_reads v levels)) (suc (length (text ++ tail))) s (unlisted ts) end (omega arith) steps (or_right (eqb (length tail) 0) true refl) in
    let space_past = past_is is_space (i + 1 + length text + 1) blank rest spaces stops in
    let len : i + 1 + length text + 1 + length blank ≡ i + length own = omega (arith, ap (length {A = ℕ}) parts, length-append text (right_bracket ∷ blank)) in
    ap (λ (t : List ℕ). nested_at v (suc levels) (at_index i t)) whole_text
    ∙ ap (λ (r : Result (List Tree × Rest) Fault). r >>= λ items. closed_at i items.1 >>= λ rest. ok_tree (Compound (listed items.0)) (past is_space rest)) all
    ∙ ap (λ (r : Result Rest Fault). r >>= λ rest. ok_tree (Compound (listed (unlisted ts))) (past is_space rest)) (closed_again i (i + 1 + length text) (blank ++ rest))
    ∙ ap (ok_tree (Compound (listed (unlisted ts)))) (space_past ∙ same_index _ _ rest len)
    ∙ ap (λ (ts : Trees). ok_tree (Compound ts) (at_index (i + length own) rest)) (listed_again ts)

-- ---- the whole text

pub spelled_is_read : (v : DescriptionVersion) (text : List ℕ) (ts : List Tree) → Spells v text ts → read_items v text ≡ Ok ts
unfolding read_items
spelled_is_read v text ts h =
    let step = element_at v (nested_at v 127) in
    let end : Rest = at_index (0 + length text) [] in
    let steps = items_steps v false 127 (nested_again v 127) (listed ts) 0 text [] h tt in
    let all = steps_many (is_end false) step (items_shorten v false 127 (nested_reads v 127)) (suc (length (text ++ []))) (at_index 0 (text ++ [])) (unlisted (listed ts)) end (omega arith) steps refl in
    ap (λ (t : List ℕ). read_items v t) (sym (append-nil text))
    ∙ ap (λ (r : Result (List Tree × Rest) Fault). r >>= λ items. ok_trees items.0) all
    ∙ ap (λ (ts : List Tree). ok_trees ts) (unlisted_again ts)
  where
    ok_trees : List Tree → Result (List Tree) Fault
    ok_trees ts = Ok ts
