-- Components: what is read is spelled so, what is refused is faulty so, and the other way round.
use Rattle.std.proofs.Common.{◌≡◌, ℕ, zero, suc, ◌+◌, ◌<◌, List, [], ◌∷◌, ◌++◌, length, Ok, Bool, true, false, cond, eqb, refl, sym, ap, subst, ◌∙◌, append_assoc, arith, inl, inr, ◌⊎◌, Result, Err}
use Rattle.std.specs.List.{prefix_len}
use Rattle.std.proofs.lemmas.List.{length-append}
use Rattle.std.proofs.lemmas.List.Folds.{length-prefix_len}
use Rattle.base.specs.Bytes.{left_bracket, right_bracket}
use Rattle.description_lexer.specs.Fault.{Fault, UnclosedOpeningBracket, MissingComponentName}
use Rattle.description_lexer.specs.Answer.{◌>>=◌}
use Rattle.description_items.specs.declared.component.Component.{Component}
use Rattle.description_lexer.specs.declared.version.DescriptionVersion.{DescriptionVersion}
use Rattle.description_lexer.specs.Text.{Rest, is_space, is_word_byte, run, past, after}
use Rattle.description_lexer.specs.Words.{Modifier, begins, name_at, closed_at, has_word}
use Rattle.description_lexer.proofs.Readings.{bind_ok, ok_is, made_err, failed}
use Rattle.description_tables.specs.Component.{component_of}
use Rattle.description_grammar.specs.Reading.{component_from}
use Rattle.description_grammar.specs.Heads.{Each, Stops, IsWord, SpellsModifiers, is_nesting, SpellsHead, SpellsComponent}
use Rattle.description_grammar.specs.Faulty.{After, BadWord, missing_at, IsSingle, LacksName, HasBadWord, IsUnclosed, MeansNothing}
use Rattle.description_grammar.proofs.Results.{not_zero}
use Rattle.description_grammar.proofs.ValueOrFault.{Reads, gives, refuses, either, in_turn}
use Rattle.description_grammar.proofs.Runs.{each_run, stops_past, stops_from_none, cut_run, past_index, Takes, takes_then, takes_run, begins_cons, closed_reads, at_index, same_index, run_again, past_is, closed_again}
use Rattle.description_grammar.proofs.Modifiers.{none_there, some_there, TakesModifiers, Refuses, modifiers_read, after_space, no_word_there, modifiers_again, bad_modifiers_again}
use Rattle.description_grammar.proofs.Meaning.{head_elsewhere}
use Rattle.description_grammar.proofs.Places.{at_first, after_both, further_back}
use Rattle.std.proofs.lemmas.Bool.Decides.{nat_tests}
use Rattle.std.proofs.lemmas.Bool.{cond-false}
use Rattle.description_lexer.specs.Further.{further}

-- ---- the name

pub record TakesName (s : Rest) (name : Rest) (rest : Rest) : Type 0 where
  pub first : List ℕ
  pub takes : Takes s (first ++ name.text) rest
  pub is_first : Each is_space first
  pub is_name : IsWord name.text
  pub name_at : name.index ≡ s.index + length first
  pub no_word : Stops is_word_byte rest.text

pub name_reads : (v : DescriptionVersion) (s : Rest) → begins left_bracket s.text ≡ true → IsSingle v (after 1 s).text → Reads (λ (x : Rest × Rest). TakesName (after 1 s) x.0 x.1) (After s.index (LacksName v s.text)) (name_at s.index (after 1 s))
unfolding name_at
name_reads v s opens single = either _ _ _ (
    λ h. gives _ (record {
      first = (run is_space (after 1 s)).text;
      takes = takes_then (after 1 s) (run is_space (after 1 s)).text start (run is_word_byte start).text (past is_word_byte start) (takes_run is_space (after 1 s)) (takes_run is_word_byte start);
      is_first = each_run is_space (after 1 s).text;
      is_name = (omega (arith, some_there start h, length-prefix_len is_word_byte start.text), each_run is_word_byte start.text);
      name_at = past_index is_space (after 1 s);
      no_word = stops_past is_word_byte start.text;
    })
    ) (
    λ h. refuses _ (
      MissingComponentName (missing_at (run is_space (after 1 s)).text),
      record {
        blank = (run is_space (after 1 s)).text;
        rest = start.text;
        parts = begins_cons left_bracket s.text opens ∙ ap (λ (t : List ℕ). left_bracket ∷ t) (cut_run is_space (after 1 s));
        single = subst (IsSingle v) (cut_run is_space (after 1 s)) single;
        spaces = each_run is_space (after 1 s).text;
        no_space = stops_past is_space (after 1 s).text;
        no_word = stops_from_none is_word_byte start.text (none_there start h);
        fault_is = refl;
      },
      ap (λ (i : ℕ). MissingComponentName i) (place (prefix_len is_space (after 1 s).text) (run is_space (after 1 s)).text (length-prefix_len is_space (after 1 s).text)),
    )
    )
  where
    start : Rest
    start = past is_space (after 1 s)

    place : (n : ℕ) (blank : List ℕ) → length blank ≡ n → cond (eqb n 0) s.index (s.index + 1) ≡ s.index + missing_at blank
    place zero [] l = omega arith
    place zero (b ∷ bs) l = absurd (omega arith)
    place (suc n) [] l = absurd (omega arith)
    place (suc n) (b ∷ bs) l = ap (λ (t : Bool). cond t s.index (s.index + 1)) (not_zero (suc n) (omega arith))

-- ---- the head

-- a bracket, a name, modifiers and white space make a head
record MakesHead (v : DescriptionVersion) (s name next : Rest) (own last : List ℕ) (ms : List Modifier) : Type 0 where
  head : List ℕ
  is_head : SpellsHead v s.index head name ms
  last_is : is_head.last ≡ last
  place : s.index + length head ≡ next.index + length own + length last
  parts : (tail : List ℕ) → next.text ≡ own ++ (last ++ tail) → s.text ≡ head ++ tail

head_of : (v : DescriptionVersion) (s name next : Rest) (own last : List ℕ) (ms : List Modifier) → begins left_bracket s.text ≡ true → TakesName (after 1 s) name next → is_nesting v name.text ≡ false → SpellsModifiers next.index own ms → Each is_space last
    → MakesHead v s name next own last ms
head_of v s name next own last ms opens n no_nesting spells is_last = record {
  head = left_bracket ∷ (n.first ++ (name.text ++ (own ++ last)));
  is_head = record {
    first = n.first;
    middle = own;
    last = last;
    parts = refl;
    is_first = n.is_first;
    is_name = n.is_name;
    no_nesting = no_nesting;
    name_at = n.name_at;
    modifiers = subst (λ (i : ℕ). SpellsModifiers i own ms) (sym index_is) spells;
    is_last = is_last;
  };
  last_is = refl;
  place = omega (arith, index_is, length-append n.first (name.text ++ (own ++ last)), length-append name.text (own ++ last), length-append own last);
  parts = λ tail e. begins_cons left_bracket s.text opens ∙ ap (λ (t : List ℕ). left_bracket ∷ t) (n.takes.parts ∙ ap (λ (t : List ℕ). (n.first ++ name.text) ++ t) e ∙ regroup n.first name.text own last tail);
}
  where
    index_is : s.index + 1 + length n.first + length name.text ≡ next.index
    index_is = omega (arith, n.takes.index, length-append n.first name.text)

    regroup : (a b c d t : List ℕ) → (a ++ b) ++ (c ++ (d ++ t)) ≡ (a ++ (b ++ (c ++ d))) ++ t
    regroup a b c d t = simp append_assoc

-- ---- the component

pub record TakesComponent (v : DescriptionVersion) (s : Rest) (c : Component) (rest : Rest) : Type 0 where
  pub own : List ℕ
  pub takes : Takes s own rest
  pub some : 0 < length own
  pub spells : SpellsComponent v own c

abbrev pub BadComponent : DescriptionVersion → List ℕ → Fault → Type 0
BadComponent v text e = HasBadWord v text e ⊎ IsUnclosed v text e ⊎ MeansNothing v text e

pub component_reads : (v : DescriptionVersion) (s name next : Rest) → begins left_bracket s.text ≡ true → TakesName (after 1 s) name next → is_nesting v name.text ≡ false
    → Reads (λ (x : Component × Rest). TakesComponent v s x.0 x.1) (After s.index (BadComponent v s.text)) (component_from v s.index name next)
unfolding component_from
component_reads v s name next opens n no_nesting = in_turn _ _ (modifiers_read next n.no_word) bad_word after
  where
    bad_word : (e : Fault) → Refuses next e → After s.index (BadComponent v s.text) e
    bad_word e r =
        let g : MakesHead v s name next r.own r.last r.ms = head_of v s name next r.own r.last r.ms opens n no_nesting r.spells r.is_last in
        let h = head_elsewhere v s.index 0 g.head name r.ms g.is_head in
        let b = after_both s.index (length g.head) (next.index + length r.own + length r.last) (BadWord r.word) e (sym g.place) r.bad in (
          b.0,
          inl (record {
            head = g.head;
            name = h.name_there;
            modifiers = h.modifiers;
            word = r.word;
            rest = r.rest;
            parts = g.parts (r.word ++ r.rest) r.parts;
            is_head = h.is_head;
            apart = rw (h.last_is, g.last_is) r.apart;
            is_word = r.is_word;
            no_word = r.no_word;
            bad = b.1;
          }),
          b.2,
        )

    after : (m : List Modifier × Rest) → TakesModifiers next m.0 m.1 → Reads (λ (x : Component × Rest). TakesComponent v s x.0 x.1) (After s.index (BadComponent v s.text)) (closed_at s.index m.1 >>= λ rest. component_of v name m.0 >>= λ component. Ok (component, rest))
    after m ms =
        let g : MakesHead v s name next ms.own ms.last m.0 = head_of v s name next ms.own ms.last m.0 opens n no_nesting ms.spells ms.is_last in
        let split : next.text ≡ ms.own ++ (ms.last ++ m.1.text) = ms.takes.parts ∙ append_assoc ms.own ms.last m.1.text in
        let whole : Takes s g.head m.1 = record { parts = g.parts m.1.text split; index = omega (arith, g.place, ms.takes.index, length-append ms.own ms.last) } in
        let h = head_elsewhere v s.index 0 g.head name m.0 g.is_head in
        in_turn _ _ (closed_reads s.index m.1) (λ e k. (
          UnclosedOpeningBracket 0,
          inr (inl (record {
            head = g.head;
            name = h.name_there;
            modifiers = h.modifiers;
            rest = m.1.text;
            parts = whole.parts;
            is_head = h.is_head;
            no_space = ms.no_space;
            no_word = ms.no_word;
            open_still = k.0;
            fault_is = refl;
          })),
          k.1 ∙ at_first (λ i. UnclosedOpeningBracket i) s.index,
        )) (λ rest close. record {
          ok = λ x e.
              let d = bind_ok (component_of v name m.0) (λ component. Ok (component, rest)) x e in
              subst (λ (y : Component × Rest). TakesComponent v s y.0 y.1) (ok_is (d.0, rest) x d.2) (record {
                own = g.head ++ right_bracket ∷ [];
                takes = takes_then s g.head m.1 (right_bracket ∷ []) rest whole close;
                some = omega (arith, length-append g.head (right_bracket ∷ []));
                spells = record { head = g.head; name = h.name_there; modifiers = h.modifiers; parts = refl; is_head = h.is_head; means = h.agrees.ok d.0 d.1 };
              });
          err = λ e fails.
              let d = h.agrees.err e (made_err (component_of v name m.0) (λ component. (component, rest)) e fails) in
              let parts : s.text ≡ g.head ++ right_bracket ∷ rest.text = whole.parts ∙ ap (λ (x : List ℕ). g.head ++ x) close.parts in
              (d.0, inr (inr (record { head = g.head; name = h.name_there; modifiers = h.modifiers; rest = rest.text; parts = parts; is_head = h.is_head; means = d.1 })), further_back s.index e d.0 d.2);
        })

-- ---- a name that is spelled so is read

abbrev ok_pair : Rest → Rest → Result (Rest × Rest) Fault
ok_pair a b = Ok (a, b)

pub name_again : (bracket at : ℕ) (first : List ℕ) (name : Rest) (rest : List ℕ) → Each is_space first → IsWord name.text → name.index ≡ at + length first → Stops is_word_byte rest
    → name_at bracket (at_index at (first ++ (name.text ++ rest))) ≡ Ok (name, at_index (at + length first + length name.text) rest)
unfolding name_at
name_again bracket at first name rest is_first is_name placed stops =
    let b = after_space at first name.text rest is_first is_name stops in
    rw b.there (pair (b.the_word ∙ same_index _ _ name.text (sym placed)) b.after)
  where
    pair : {a b c d : Rest} → a ≡ c → b ≡ d → ok_pair a b ≡ ok_pair c d
    pair {a} {b} {c} {d} e f = ap (λ (a : Rest). ok_pair a b) e ∙ ap (λ (b : Rest). ok_pair c b) f

pub no_name_again : (at : ℕ) (blank rest : List ℕ) → Each is_space blank → Stops is_space rest → Stops is_word_byte rest → name_at at (at_index (at + 1) (blank ++ rest)) ≡ Err (MissingComponentName (at + missing_at blank))
unfolding name_at
no_name_again at blank rest spaces no_space no_word =
    let start = past_is is_space (at + 1) blank rest spaces no_space in
    let none : has_word (past is_space (at_index (at + 1) (blank ++ rest))) ≡ false = ap has_word start ∙ no_word_there rest (at + 1 + length blank) no_word in
    let n = run_again is_space blank rest spaces no_space in
    rw (none, n, place blank) refl
  where
    place : (blank : List ℕ) → cond (eqb (length blank) 0) at (at + 1) ≡ at + missing_at blank
    place [] = omega arith
    place (b ∷ bs) = cond-false (eqb (length (b ∷ bs)) 0) at (at + 1) (not_zero (length (b ∷ bs)) (omega arith))

-- a name's first byte opens nothing
pub no_bracket_first : (first w more : List ℕ) → Each is_space first → IsWord w → begins left_bracket (first ++ (w ++ more)) ≡ false
no_bracket_first [] [] more is_f is_w = absurd (omega arith)
no_bracket_first [] (b ∷ bs) more is_f is_w = word_is_none b is_w.1.0
  where
    word_is_none : (b : ℕ) → is_word_byte b ≡ true → eqb b left_bracket ≡ false
    word_is_none b e = grind (arith, nat_tests)
no_bracket_first (b ∷ bs) w more is_f is_w = space_is_none b is_f.0
  where
    space_is_none : (b : ℕ) → is_space b ≡ true → eqb b left_bracket ≡ false
    space_is_none b e = grind (arith, nat_tests)

-- ---- so is a head

head_len : (v : DescriptionVersion) (at : ℕ) (head : List ℕ) (name : Rest) (ms : List Modifier) (h : SpellsHead v at head name ms) → at + 1 + length h.first + length name.text + length h.middle + length h.last ≡ at + length head
head_len v at head name ms h = omega (arith, ap (length {A = ℕ}) h.parts, length-append h.first (name.text ++ (h.middle ++ h.last)), length-append name.text (h.middle ++ h.last), length-append h.middle h.last)

abbrev from_modifiers : DescriptionVersion → ℕ → Rest → Result (List Modifier × Rest) Fault → Result (Component × Rest) Fault
from_modifiers v bracket name r = r >>= λ ms. closed_at bracket ms.1 >>= λ rest. component_of v name ms.0 >>= λ c. Ok (c, rest)

-- a head and what follows it, which is neither white space nor a word
whole_head : (v : DescriptionVersion) (at : ℕ) (head tail : List ℕ) (name : Rest) (ms : List Modifier) (h : SpellsHead v at head name ms) → Stops is_space tail → Stops is_word_byte tail
    → component_from v at name (at_index (at + 1 + length h.first + length name.text) (h.middle ++ (h.last ++ tail))) ≡ from_modifiers v at name (Ok (ms, at_index (at + length head) tail))
unfolding component_from
whole_head v at head tail name ms h no_s no_w =
    let mods = modifiers_again ms (at + 1 + length h.first + length name.text) h.middle h.last tail h.modifiers h.is_last no_s no_w in
    ap (from_modifiers v at name) mods ∙ ap (λ (p : Rest). from_modifiers v at name (Ok (ms, p))) (same_index _ _ tail (head_len v at head name ms h))

-- ---- so is a component, and what is wrong there is refused

pub component_again : (v : DescriptionVersion) (at : ℕ) (head rest : List ℕ) (name : Rest) (ms : List Modifier) (c : Component) (h : SpellsHead v at head name ms) → component_of v name ms ≡ Ok c
    → component_from v at name (at_index (at + 1 + length h.first + length name.text) (h.middle ++ (h.last ++ right_bracket ∷ rest))) ≡ Ok (c, at_index (at + length head + 1) rest)
component_again v at head rest name ms c h means =
    whole_head v at head (right_bracket ∷ rest) name ms h refl refl
    ∙ ap (λ (r : Result Rest Fault). r >>= λ rest. component_of v name ms >>= λ c. ok_component c rest) (closed_again at (at + length head) rest)
    ∙ ap (λ (r : Result Component Fault). r >>= λ c. ok_component c (at_index (at + length head + 1) rest)) means
  where
    ok_component : Component → Rest → Result (Component × Rest) Fault
    ok_component c p = Ok (c, p)

-- what is wrong with a component, where it stands
pub bad_word_refused : (v : DescriptionVersion) (at : ℕ) (head word rest : List ℕ) (name : Rest) (ms : List Modifier) (e : Fault) (h : SpellsHead v at head name ms) → 0 < length h.last → IsWord word → Stops is_word_byte rest → BadWord word e
    → component_from v at name (at_index (at + 1 + length h.first + length name.text) (h.middle ++ (h.last ++ (word ++ rest)))) ≡ Err (further (at + length head) e)
unfolding component_from
bad_word_refused v at head word rest name ms e h apart is_word no_word bad =
    ap (from_modifiers v at name) (bad_modifiers_again ms (at + 1 + length h.first + length name.text) h.middle h.last word rest e h.modifiers h.is_last apart is_word no_word bad ∙ ap (λ (i : ℕ). failed (further i e)) (head_len v at head name ms h))

pub unclosed_refused : (v : DescriptionVersion) (at : ℕ) (head rest : List ℕ) (name : Rest) (ms : List Modifier) (h : SpellsHead v at head name ms) → Stops is_space rest → Stops is_word_byte rest → begins right_bracket rest ≡ false
    → component_from v at name (at_index (at + 1 + length h.first + length name.text) (h.middle ++ (h.last ++ rest))) ≡ Err (UnclosedOpeningBracket at)
unfolding closed_at
unclosed_refused v at head rest name ms h no_space no_word open_still = whole_head v at head rest name ms h no_space no_word ∙ rw open_still refl

pub nothing_refused : (v : DescriptionVersion) (at : ℕ) (head rest : List ℕ) (name : Rest) (ms : List Modifier) (e : Fault) (h : SpellsHead v at head name ms) → component_of v name ms ≡ Err e
    → component_from v at name (at_index (at + 1 + length h.first + length name.text) (h.middle ++ (h.last ++ right_bracket ∷ rest))) ≡ Err e
unfolding closed_at
nothing_refused v at head rest name ms e h means = whole_head v at head (right_bracket ∷ rest) name ms h refl refl ∙ rw means refl
