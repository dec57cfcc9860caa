-- What a component means, or what is wrong with it, by other words that the tables take alike; and where it stands elsewhere.
use Rattle.std.proofs.Common.{◌≡◌, ℕ, ◌+◌, List, [], ◌∷◌, length, Option, Some, None, Result, Ok, Err, Bool, true, false, not, cond, refl, sym, ap, subst, ◌∙◌, arith}
use Rattle.std.specs.Prelude.{◌&&◌, codes}
use Rattle.description_lexer.specs.Fault.{Fault, InvalidComponentName, InvalidModifier, MissingRequiredModifier, DuplicateModifier, InvalidModifierCombination}
use Rattle.description_lexer.specs.Answer.{◌>>=◌}
use Rattle.description_lexer.specs.Further.{further}
use Rattle.description_lexer.specs.declared.version.DescriptionVersion.{DescriptionVersion}
use Rattle.description_lexer.specs.Version.{is_three}
use Rattle.description_lexer.specs.Text.{Rest}
use Rattle.description_lexer.specs.Words.{Modifier}
use Rattle.description_lexer.proofs.Readings.{not_ok, err_is, not_err}
use Rattle.description_tables.specs.declared.names.Name.{Name}
use Rattle.description_tables.specs.declared.keys.Key.{Key}
use Rattle.description_tables.specs.declared.chosen.Chosen.{Chosen}
use Rattle.description_tables.specs.Names.{name_of, name_text}
use Rattle.description_tables.specs.Keys.{key_of, has_key}
use Rattle.description_tables.specs.Chosen.{nothing, with_value, is_chosen, is_carried}
use Rattle.description_tables.specs.Made.{made}
use Rattle.description_tables.specs.Component.{found, bad, key_among, key_in, with_modifier, with_modifiers, combined, named, component_of}
use Rattle.description_grammar.specs.Heads.{SpellsModifier, SpellsModifiers, SpellsHead}
use Rattle.description_grammar.proofs.Runs.{at_index}

-- ---- the same value, or faults that belong together

pub record Agrees {A : Type 0} (Same : Fault → Fault → Type 0) (r s : Result A Fault) : Type 0 where
  pub ok : (x : A) → r ≡ Ok x → s ≡ Ok x
  pub err : (e : Fault) → r ≡ Err e → (f : Fault) × (s ≡ Err f) × Same e f

value_agrees : {A : Type 0} {Same : Fault → Fault → Type 0} (x : A) → Agrees Same (Ok x) (Ok x)
value_agrees x = record { ok = λ y e. e; err = λ f e. absurd (not_err x f e) }

fault_agrees : {A : Type 0} {Same : Fault → Fault → Type 0} (e f : Fault) → Same e f → Agrees {A = A} Same (Err e) (Err f)
fault_agrees {A} {Same} e f h = record { ok = λ y k. absurd (not_ok e y k); err = λ d k. (f, refl, subst (λ (d : Fault). Same d f) (err_is {A = A} e d k) h) }

choice_agrees : {A : Type 0} {Same : Fault → Fault → Type 0} (b : Bool) (e f : Fault) (r s : Result A Fault) → Same e f → Agrees Same r s → Agrees Same (cond b (Err e) r) (cond b (Err f) s)
choice_agrees true e f r s h k = fault_agrees e f h
choice_agrees false e f r s h k = k

then_agrees : {A B : Type 0} {Same : Fault → Fault → Type 0} (r s : Result A Fault) (f g : A → Result B Fault) → Agrees Same r s → ((x : A) → Agrees Same (f x) (g x)) → Agrees Same (r >>= f) (s >>= g)
then_agrees (Ok x) s f g h next = rw (h.ok x refl) (next x)
then_agrees (Err e) s f g h next = let d = h.err e refl in rw d.1 (fault_agrees e d.0 d.2)

found_agrees : {A : Type 0} {Same : Fault → Fault → Type 0} (o : Option A) (e f : Fault) → Same e f → Agrees Same (found o e) (found o f)
found_agrees None e f h = fault_agrees e f h
found_agrees (Some x) e f h = value_agrees x

among_agrees : {Same : Fault → Fault → Type 0} (o : Option Key) (n : Name) (e f : Fault) → Same e f → Agrees Same (key_among o n e) (key_among o n f)
among_agrees None n e f h = fault_agrees e f h
among_agrees {Same} (Some k) n e f h = by_test (has_key k n)
  where
    by_test : (b : Bool) → Agrees Same (cond b (Ok k) (Err e)) (cond b (Ok k) (Err f))
    by_test true = value_agrees k
    by_test false = fault_agrees e f h

-- ---- other words

-- modifiers that the tables take alike, and whose faults belong together
pub record AreAlike (v : DescriptionVersion) (Same : Fault → Fault → Type 0) (m n : Modifier) : Type 0 where
  pub key : key_of v m.key.text ≡ key_of v n.key.text
  pub value : (x : Name) (c : Chosen) (k : Key) → with_value v x c k m.value.text ≡ with_value v x c k n.value.text
  pub bad_key : Same (bad m.key) (bad n.key)
  pub bad_value : Same (bad m.value) (bad n.value)
  pub twice : Same (DuplicateModifier m.key.text m.key.index) (DuplicateModifier n.key.text n.key.index)
  pub idle : (x : Name) → Same (InvalidModifierCombination m.key.text (name_text x) m.key.index) (InvalidModifierCombination n.key.text (name_text x) n.key.index)

abbrev pub AllAlike : DescriptionVersion → (Fault → Fault → Type 0) → List Modifier → List Modifier → Type 0
AllAlike v Same [] [] = Unit {0}
AllAlike v Same [] (n ∷ ns) = ⊥
AllAlike v Same (m ∷ ms) [] = ⊥
AllAlike v Same (m ∷ ms) (n ∷ ns) = AreAlike v Same m n × AllAlike v Same ms ns

key_agrees : {Same : Fault → Fault → Type 0} (v : DescriptionVersion) (n : Name) (l m : Modifier) → AreAlike v Same l m → Agrees Same (key_in v n l.key) (key_in v n m.key)
key_agrees v n l m same = rw (← same.key) (among_agrees (key_of v l.key.text) n (bad l.key) (bad m.key) same.bad_key)

modifier_agrees : {Same : Fault → Fault → Type 0} (v : DescriptionVersion) (n : Name) (c : Chosen) (l m : Modifier) → AreAlike v Same l m → Agrees Same (with_modifier v n c l) (with_modifier v n c m)
unfolding with_modifier
modifier_agrees v n c l m same = then_agrees _ _ _ _ (key_agrees v n l m same) (λ k. choice_agrees (is_three v && is_chosen c k) _ _ _ _ same.twice (rw (← same.value n c k) (found_agrees (with_value v n c k l.value.text) (bad l.value) (bad m.value) same.bad_value)))

modifiers_agree : {Same : Fault → Fault → Type 0} (v : DescriptionVersion) (n : Name) (c : Chosen) (ls ms : List Modifier) → AllAlike v Same ls ms → Agrees Same (with_modifiers v n c ls) (with_modifiers v n c ms)
unfolding with_modifiers
modifiers_agree v n c [] [] same = value_agrees c
modifiers_agree v n c [] (m ∷ ms) same = absurd same
modifiers_agree v n c (l ∷ ls) [] same = absurd same
modifiers_agree v n c (l ∷ ls) (m ∷ ms) same = then_agrees _ _ _ _ (modifier_agrees v n c l m same.0) (λ d. modifiers_agree v n d ls ms same.1)

combined_agree : {Same : Fault → Fault → Type 0} (v : DescriptionVersion) (n : Name) (c : Chosen) (ls ms : List Modifier) → AllAlike v Same ls ms → Agrees Same (combined v n c ls) (combined v n c ms)
unfolding combined
combined_agree v n c [] [] same = value_agrees c
combined_agree v n c [] (m ∷ ms) same = absurd same
combined_agree v n c (l ∷ ls) [] same = absurd same
combined_agree v n c (l ∷ ls) (m ∷ ms) same =
    then_agrees _ _ _ _ (key_agrees v n l m same.0) (λ k. choice_agrees (is_three v && not (is_carried n c.repr k)) _ _ _ _ (same.0.idle n) (combined_agree v n c ls ms same.1))

pub component_agrees : {Same : Fault → Fault → Type 0} (v : DescriptionVersion) (p q : Rest) (ls ms : List Modifier) → name_of v p.text ≡ name_of v q.text → Same (InvalidComponentName p.text p.index) (InvalidComponentName q.text q.index)
    → Same (MissingRequiredModifier (codes "count") p.index) (MissingRequiredModifier (codes "count") q.index) → AllAlike v Same ls ms → Agrees Same (component_of v p ls) (component_of v q ms)
unfolding component_of named
component_agrees v p q ls ms same unknown lacking all =
    then_agrees _ _ _ _ (rw (← same) (found_agrees (name_of v p.text) (InvalidComponentName p.text p.index) (InvalidComponentName q.text q.index) unknown)) (
    λ n. then_agrees _ _ _ _ (modifiers_agree v n nothing ls ms all) (λ c. then_agrees _ _ _ _ (combined_agree v n c ls ms all) (λ d. found_agrees (made v n d) (MissingRequiredModifier (codes "count") p.index) (MissingRequiredModifier (codes "count") q.index) lacking))
    )

-- ---- the same words elsewhere

-- faults of the same words, one where they stand at an index, the other where they stand at another one
abbrev pub SamePlace : ℕ → ℕ → Fault → Fault → Type 0
SamePlace at to e f = (d : Fault) × (e ≡ further at d) × (f ≡ further to d)

placed : (at to i n : ℕ) (make : ℕ → Fault) → further at (make n) ≡ make (at + n) → further to (make n) ≡ make (to + n) → i ≡ at + n → SamePlace at to (make i) (make (to + n))
placed at to i n make e f is = (make n, ap make is ∙ sym e, sym f)

record WordsElsewhere (v : DescriptionVersion) (at to n : ℕ) (own : List ℕ) (ms : List Modifier) : Type 0 where
  others : List Modifier
  spells : SpellsModifiers (to + n) own others
  same : AllAlike v (SamePlace at to) ms others

words_elsewhere : (v : DescriptionVersion) (ms : List Modifier) (at to n : ℕ) (own : List ℕ) → SpellsModifiers (at + n) own ms → WordsElsewhere v at to n own ms
words_elsewhere v [] at to n own e = record { others = []; spells = e; same = tt }
words_elsewhere v (m ∷ ms) at to n own (first, rest, parts, one, more) =
    let next : SpellsModifiers (at + (n + length first)) rest ms = subst (λ (i : ℕ). SpellsModifiers i rest ms) (omega arith) more in
    let others : WordsElsewhere v at to (n + length first) rest ms = words_elsewhere v ms at to (n + length first) rest next in
    let key_n : ℕ = n + length one.blank in
    let value_n : ℕ = n + length one.blank + length m.key.text + 1 in
    let there : Modifier = record { key = at_index (to + key_n) m.key.text; value = at_index (to + value_n) m.value.text } in
    let key_is : m.key.index ≡ at + key_n = omega (arith, one.key_at) in
    let value_is : m.value.index ≡ at + value_n = omega (arith, one.value_at) in
    let spelled : SpellsModifier (to + n) first there = record { blank = one.blank; parts = one.parts; is_space = one.is_space; some_space = one.some_space; is_key = one.is_key; no_colon = one.no_colon; is_value = one.is_value; key_at = omega arith; value_at = omega arith } in
    record {
      others = there ∷ others.others;
      spells = (first, rest, parts, spelled, subst (λ (i : ℕ). SpellsModifiers i rest others.others) (omega arith) others.spells);
      same = (
        record {
          key = refl;
          value = λ x c k. refl;
          bad_key = placed at to m.key.index key_n (λ i. InvalidModifier m.key.text i) refl refl key_is;
          bad_value = placed at to m.value.index value_n (λ i. InvalidModifier m.value.text i) refl refl value_is;
          twice = placed at to m.key.index key_n (λ i. DuplicateModifier m.key.text i) refl refl key_is;
          idle = λ x. placed at to m.key.index key_n (λ i. InvalidModifierCombination m.key.text (name_text x) i) refl refl key_is;
        },
        others.same,
      );
    }

-- a head at another index, with what it means
pub record HeadElsewhere (v : DescriptionVersion) (at to : ℕ) (head : List ℕ) (name : Rest) (ms : List Modifier) (h : SpellsHead v at head name ms) : Type 0 where
  pub name_there : Rest
  pub modifiers : List Modifier
  pub is_head : SpellsHead v to head name_there modifiers
  pub last_is : is_head.last ≡ h.last
  pub agrees : Agrees (SamePlace at to) (component_of v name ms) (component_of v name_there modifiers)

pub head_elsewhere : (v : DescriptionVersion) (at to : ℕ) (head : List ℕ) (name : Rest) (ms : List Modifier) (h : SpellsHead v at head name ms) → HeadElsewhere v at to head name ms h
head_elsewhere v at to head name ms h =
    let n : ℕ = 1 + length h.first in
    let after : ℕ = 1 + length h.first + length name.text in
    let words : WordsElsewhere v at to after h.middle ms = words_elsewhere v ms at to after h.middle (subst (λ (i : ℕ). SpellsModifiers i h.middle ms) (omega arith) h.modifiers) in
    let there : Rest = at_index (to + n) name.text in
    let name_is : name.index ≡ at + n = omega (arith, h.name_at) in
    record {
      name_there = there;
      modifiers = words.others;
      is_head = record { first = h.first; middle = h.middle; last = h.last; parts = h.parts; is_first = h.is_first; is_name = h.is_name; no_nesting = h.no_nesting; name_at = omega arith; modifiers = subst (λ (i : ℕ). SpellsModifiers i h.middle words.others) (omega arith) words.spells; is_last = h.is_last };
      last_is = refl;
      agrees = component_agrees v name there ms words.others refl (placed at to name.index n (λ i. InvalidComponentName name.text i) refl refl name_is) (placed at to name.index n (λ i. MissingRequiredModifier (codes "count") i) refl refl name_is) words.same;
    }
