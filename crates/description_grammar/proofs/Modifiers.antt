-- Modifiers: what is read is spelled so, what is refused is faulty so, and the other way round.
use Rattle.std.proofs.Common.{◌≡◌, ℕ, zero, suc, ◌+◌, ◌<◌, List, [], ◌∷◌, ◌++◌, length, take, drop, Result, Ok, Err, true, false, cond, eqb, refl, sym, ap, subst, ◌∙◌, append_assoc, arith, inl, inr}
use Rattle.std.specs.List.{prefix_len}
use Rattle.std.proofs.lemmas.List.{take-append-drop, length-drop, nil_from_length, length-append, append-nil, take_at}
use Rattle.std.proofs.lemmas.List.Folds.{length-prefix_len}
use Rattle.std.proofs.lemmas.List.Sums.{prefix_len-le-length}
use Rattle.std.proofs.lemmas.Bool.{eqb-true, not-false, not-true, eq-eqb}
use Rattle.std.proofs.lemmas.Bool.Decides.{nat_tests}
use Rattle.base.specs.Bytes.{colon}
use Rattle.description_lexer.specs.Fault.{Fault, InvalidModifier}
use Rattle.description_lexer.specs.Text.{Rest, is_space, is_word_byte, is_no_colon, run, past, after}
use Rattle.description_lexer.specs.Words.{Modifier, has_word, modifier_in, modifier_at, no_modifier, modifiers_at}
use Rattle.description_lexer.proofs.Readings.{bind_ok, ok_is, made_err}
use Rattle.description_lexer.proofs.Shorter.{modifier_lt}
use Rattle.description_grammar.specs.Heads.{Each, Stops, IsWord, SpellsModifier, SpellsModifiers}
use Rattle.description_grammar.specs.Faulty.{After, BadWord}
use Rattle.description_grammar.proofs.Places.{at_first, at_once}
use Rattle.description_grammar.proofs.Results.{lt_of, above, differs, not_zero}
use Rattle.description_grammar.proofs.ValueOrFault.{Reads, gives, refuses, either, in_turn, many_read}
use Rattle.description_grammar.proofs.Runs.{each_run, each_of_take, each_of_drop, each_whole, stops_past, stops_from_none, none_from_stops, past_index, Takes, takes_then, takes_run, at_index, same_index, each_append, run_again, run_is, past_is, space_stops, word_stops, space_first}
use Rattle.description_lexer.proofs.Steps.{Steps, Read, Failing, steps_many, steps_failing}
use Rattle.description_lexer.specs.Further.{further}
use Rattle.description_lexer.specs.Answer.{◌>>=◌}

-- ---- one modifier

-- the colon at which a word is cut
colon_there : (s : List ℕ) → prefix_len is_no_colon s < length s → drop (prefix_len is_no_colon s) s ≡ colon ∷ drop (prefix_len is_no_colon s + 1) s
colon_there s lt = at_stop (prefix_len is_no_colon s) s (stops_past is_no_colon s) lt
  where
    is_colon : (b : ℕ) → is_no_colon b ≡ false → b ≡ colon
    is_colon b h = grind (arith, nat_tests)

    at_stop : (n : ℕ) (s : List ℕ) → Stops is_no_colon (drop n s) → n < length s → drop n s ≡ colon ∷ drop (n + 1) s
    at_stop zero [] stops lt = absurd (omega arith)
    at_stop zero (b ∷ bs) stops lt = rw (is_colon b stops) refl
    at_stop (suc n) [] stops lt = absurd (omega arith)
    at_stop (suc n) (b ∷ bs) stops lt =
        let one : suc n + 1 ≡ suc (n + 1) = omega arith in rw one (at_stop n bs stops (omega arith))

-- a word that is a modifier
record IsModifierWord (s : Rest) (m : Modifier) : Type 0 where
  parts : s.text ≡ m.key.text ++ colon ∷ m.value.text
  is_key : IsWord m.key.text
  no_colon : Each is_no_colon m.key.text
  is_value : IsWord m.value.text
  key_at : m.key.index ≡ s.index
  value_at : m.value.index ≡ s.index + length m.key.text + 1

word_reads : (s : Rest) → Each is_word_byte s.text → Reads (IsModifierWord s) (After s.index (BadWord s.text)) (modifier_in s)
unfolding modifier_in
word_reads s each = either _ _ _ (λ a. refuses _ (InvalidModifier s.text 0, inl (each_whole is_no_colon s.text (eqb-true _ _ a), refl), at_first (λ i. InvalidModifier s.text i) s.index)) (λ a. cut a)
  where
    k : ℕ
    k = prefix_len is_no_colon s.text

    len : length (take k s.text) ≡ k
    len = length-prefix_len is_no_colon s.text

    cut : eqb k (length s.text) ≡ false → Reads (IsModifierWord s) (After s.index (BadWord s.text)) (cond (eqb k 0) (Err (InvalidModifier [] s.index)) (cond (eqb (k + 1) (length s.text)) (Err (InvalidModifier [] (s.index + length s.text))) (Ok (record { key = run is_no_colon s; value = after (k + 1) s }))))
    cut a =
        let lt : k < length s.text = lt_of k (length s.text) (prefix_len-le-length is_no_colon s.text) a in
        let at_colon : drop k s.text ≡ colon ∷ drop (k + 1) s.text = colon_there s.text lt in
        let parts : s.text ≡ take k s.text ++ colon ∷ drop (k + 1) s.text = sym (take-append-drop k s.text) ∙ ap (λ (t : List ℕ). take k s.text ++ t) at_colon in
        either _ _ _ (λ b. refuses _ (InvalidModifier [] 0, inr (inl (drop (k + 1) s.text, subst (λ (n : ℕ). drop n s.text ≡ colon ∷ drop (k + 1) s.text) (eqb-true _ _ b) at_colon, refl)), at_first (λ i. InvalidModifier [] i) s.index)) (λ (b : eqb k 0 ≡ false). either _ _ _ (
        λ c.
        let last : k + 1 ≡ length s.text = eqb-true _ _ c in
        let ends : drop (k + 1) s.text ≡ [] = nil_from_length _ (omega (arith, length-drop (k + 1) s.text)) in
        refuses _ (InvalidModifier [] (length s.text), inr (inr (take k s.text, omega (arith, len, above k b), each_run is_no_colon s.text, rw ends at parts, refl)), refl)
        ) (
        λ c.
        let more : k + 1 < length s.text = lt_of (k + 1) (length s.text) (omega arith) c in
        gives _ (record {
          parts = parts;
          is_key = (omega (arith, len, above k b), each_of_take is_word_byte k s.text each);
          no_colon = each_run is_no_colon s.text;
          is_value = (omega (arith, length-drop (k + 1) s.text), each_of_drop is_word_byte (k + 1) s.text each);
          key_at = refl;
          value_at = omega (arith, len);
        })
        ))

-- ---- words after white space

pub none_there : (s : Rest) → has_word s ≡ false → prefix_len is_word_byte s.text ≡ 0
none_there s h = grind (arith, nat_tests)

pub some_there : (s : Rest) → has_word s ≡ true → 0 < prefix_len is_word_byte s.text
some_there s h = grind (arith, nat_tests)

-- where no word byte stands, white space comes before a word
space_before : (s : Rest) → Stops is_word_byte s.text → has_word (past is_space s) ≡ true → 0 < length (run is_space s).text
space_before s stops h = none_or_some (prefix_len is_space s.text) refl
  where
    none_or_some : (n : ℕ) → n ≡ prefix_len is_space s.text → 0 < length (run is_space s).text
    none_or_some zero e =
        let some : 0 < prefix_len is_word_byte (drop (prefix_len is_space s.text) s.text) = some_there (past is_space s) h in
        let some_now : 0 < prefix_len is_word_byte s.text = rw (← e) at some in
        absurd (omega (arith, none_from_stops is_word_byte s.text stops))
    none_or_some (suc n) e = omega (arith, length-prefix_len is_space s.text)

-- a word after white space, with what follows it
word_takes : (s : Rest) → Takes s ((run is_space s).text ++ (run is_word_byte (past is_space s)).text) (past is_word_byte (past is_space s))
word_takes s = takes_then s (run is_space s).text (past is_space s) (run is_word_byte (past is_space s)).text (past is_word_byte (past is_space s)) (takes_run is_space s) (takes_run is_word_byte (past is_space s))

-- ---- modifiers

-- steps over modifiers
record TakesWords (s : Rest) (ms : List Modifier) (rest : Rest) : Type 0 where
  own : List ℕ
  takes : Takes s own rest
  spells : SpellsModifiers s.index own ms
  no_word : Stops is_word_byte rest.text

one_more : (s : Rest) (m : Modifier) (ms : List Modifier) (rest : Rest) → Stops is_word_byte s.text → has_word (past is_space s) ≡ true → modifier_in (run is_word_byte (past is_space s)) ≡ Ok m
    → TakesWords (past is_word_byte (past is_space s)) ms rest → TakesWords s (m ∷ ms) rest
one_more s m ms rest stops there is_m others = record {
  own = first ++ others.own;
  takes = takes_then s first (past is_word_byte (past is_space s)) others.own rest (word_takes s) others.takes;
  spells = (first, others.own, refl, modifier, subst (λ (i : ℕ). SpellsModifiers i others.own ms) (word_takes s).index others.spells);
  no_word = others.no_word;
}
  where
    blank : List ℕ
    blank = (run is_space s).text

    word : Rest
    word = run is_word_byte (past is_space s)

    first : List ℕ
    first = blank ++ word.text

    word_is : IsModifierWord word m
    word_is = (word_reads word (each_run is_word_byte (past is_space s).text)).ok m is_m

    modifier : SpellsModifier s.index first m
    modifier = record {
      blank = blank;
      parts = ap (λ (t : List ℕ). blank ++ t) word_is.parts;
      is_space = each_run is_space s.text;
      some_space = space_before s stops there;
      is_key = word_is.is_key;
      no_colon = word_is.no_colon;
      is_value = word_is.is_value;
      key_at = word_is.key_at ∙ past_index is_space s;
      value_at = omega (arith, word_is.value_at, past_index is_space s);
    }

steps_take : (s : Rest) (ms : List Modifier) (rest : Rest) → Stops is_word_byte s.text → Steps no_modifier modifier_at s ms rest → TakesWords s ms rest
unfolding modifier_at
steps_take s [] rest stops e = subst (λ (r : Rest). TakesWords s [] r) e (record { own = []; takes = record { parts = refl; index = omega arith }; spells = refl; no_word = stops })
steps_take s (m ∷ ms) rest stops (next, goes, is_m, more) =
    let after_word : Rest = past is_word_byte (past is_space s) in
    let a = bind_ok (modifier_in (run is_word_byte (past is_space s))) (λ m. Ok (m, after_word)) (m, next) is_m in
    let same = ok_is (a.0, after_word) (m, next) a.2 in
    let same_m : a.0 ≡ m = ap (λ (x : Modifier × Rest). x.0) same in
    let same_next : next ≡ after_word = sym (ap (λ (x : Modifier × Rest). x.1) same) in
    let others : TakesWords after_word ms rest = steps_take after_word ms rest (stops_past is_word_byte (past is_space s).text) (subst (λ (p : Rest). Steps no_modifier modifier_at p ms rest) same_next more) in
    one_more s m ms rest stops (not-false _ goes) (a.1 ∙ ap (λ (m : Modifier). ok_modifier m) same_m) others
  where
    ok_modifier : Modifier → Result Modifier Fault
    ok_modifier m = Ok m

-- what reading modifiers took
pub record TakesModifiers (s : Rest) (ms : List Modifier) (rest : Rest) : Type 0 where
  pub own : List ℕ
  pub last : List ℕ
  pub takes : Takes s (own ++ last) rest
  pub spells : SpellsModifiers s.index own ms
  pub is_last : Each is_space last
  pub no_space : Stops is_space rest.text
  pub no_word : Stops is_word_byte rest.text

-- what stands before a word that is no modifier
pub record Refuses (s : Rest) (e : Fault) : Type 0 where
  pub ms : List Modifier
  pub own : List ℕ
  pub last : List ℕ
  pub word : List ℕ
  pub rest : List ℕ
  pub parts : s.text ≡ own ++ (last ++ (word ++ rest))
  pub spells : SpellsModifiers s.index own ms
  pub is_last : Each is_space last
  pub apart : 0 < length last
  pub is_word : IsWord word
  pub no_word : Stops is_word_byte rest
  pub bad : After (s.index + length own + length last) (BadWord word) e

pub modifiers_read : (s : Rest) → Stops is_word_byte s.text → Reads (λ (x : List Modifier × Rest). TakesModifiers s x.0 x.1) (Refuses s) (modifiers_at s)
unfolding modifiers_at modifier_at
modifiers_read s stops = in_turn _ _ (many_read no_modifier modifier_at modifier_lt s) refused taken
  where
    taken : (all : List Modifier × Rest) → Read no_modifier modifier_at s all → Reads (λ (x : List Modifier × Rest). TakesModifiers s x.0 x.1) (Refuses s) (Ok (all.0, past is_space all.1))
    taken all read =
        let words : TakesWords s all.0 all.1 = steps_take s all.0 all.1 stops read.0 in
        let last : List ℕ = (run is_space all.1).text in
        gives _ (record {
          own = words.own;
          last = last;
          takes = takes_then s words.own all.1 last (past is_space all.1) words.takes (takes_run is_space all.1);
          spells = words.spells;
          is_last = each_run is_space all.1.text;
          no_space = stops_past is_space all.1.text;
          no_word = stops_from_none is_word_byte (past is_space all.1).text (none_there (past is_space all.1) (not-true _ read.1));
        })

    refused : (e : Fault) → Failing no_modifier modifier_at s e → Refuses s e
    refused e f =
        let words : TakesWords s f.prefix f.bad = steps_take s f.prefix f.bad stops f.steps in
        let start : Rest = past is_space f.bad in
        let word : Rest = run is_word_byte start in
        let there : has_word start ≡ true = not-false _ f.goes_on in
        let is_bad : modifier_in word ≡ Err e = made_err (modifier_in word) (λ m. (m, past is_word_byte start)) e f.fails in
        record {
          ms = f.prefix;
          own = words.own;
          last = (run is_space f.bad).text;
          word = word.text;
          rest = (past is_word_byte start).text;
          parts = words.takes.parts ∙ ap (λ (t : List ℕ). words.own ++ t) ((word_takes f.bad).parts ∙ append_assoc (run is_space f.bad).text word.text (past is_word_byte start).text);
          spells = words.spells;
          is_last = each_run is_space f.bad.text;
          apart = space_before f.bad words.no_word there;
          is_word = (omega (arith, some_there start there, length-prefix_len is_word_byte start.text), each_run is_word_byte start.text);
          no_word = stops_past is_word_byte start.text;
          bad = subst (λ (i : ℕ). After i (BadWord word.text) e) (omega (arith, words.takes.index, past_index is_space f.bad)) ((word_reads word (each_run is_word_byte start.text)).err e is_bad);
        }

-- ---- a word that is spelled so is read

drop_past : (xs ys : List ℕ) (b : ℕ) → drop (length xs + 1) (xs ++ b ∷ ys) ≡ ys
drop_past [] ys b = refl
drop_past (x ∷ xs) ys b = let one : suc (length xs) + 1 ≡ suc (length xs + 1) = omega arith in rw one (drop_past xs ys b)

abbrev done : {A : Type 0} → A → Result A Fault
done x = Ok x

modifier_again : (at : ℕ) (m : Modifier) → IsWord m.key.text → Each is_no_colon m.key.text → IsWord m.value.text → m.key.index ≡ at → m.value.index ≡ at + length m.key.text + 1
    → modifier_in (at_index at (m.key.text ++ colon ∷ m.value.text)) ≡ Ok m
unfolding modifier_in
modifier_again at m is_key no_colon is_value key_at value_at =
    let n = run_again is_no_colon m.key.text (colon ∷ m.value.text) no_colon refl in
    let len = length-append m.key.text (colon ∷ m.value.text) in
    let a : eqb (length m.key.text) (length (m.key.text ++ colon ∷ m.value.text)) ≡ false = differs _ _ (omega (arith, len)) in
    let b : eqb (length m.key.text) 0 ≡ false = not_zero _ is_key.0 in
    let c : eqb (length m.key.text + 1) (length (m.key.text ++ colon ∷ m.value.text)) ≡ false = differs _ _ (omega (arith, len, is_value.0)) in
    rw (n, a, b, c, take_at m.key.text (colon ∷ m.value.text) (length m.key.text) refl, drop_past m.key.text m.value.text colon) (made (sym key_at) (omega (arith, value_at)))
  where
    made : {i j : ℕ} → i ≡ m.key.index → j ≡ m.value.index → done (record { key = at_index i m.key.text; value = at_index j m.value.text }) ≡ done m
    made {i} {j} e f = ap (λ (i : ℕ). done (record { key = at_index i m.key.text; value = at_index j m.value.text })) e ∙ ap (λ (j : ℕ). done (record { key = m.key; value = at_index j m.value.text })) f

bad_word_again : (at : ℕ) (word : List ℕ) (e : Fault) → 0 < length word → BadWord word e → modifier_in (at_index at word) ≡ Err (further at e)
unfolding modifier_in
bad_word_again at word e some (inl (each, f)) =
    let n : prefix_len is_no_colon word ≡ length word = ap (prefix_len is_no_colon) (sym (append-nil word)) ∙ run_again is_no_colon word [] each tt in
    rw (n, eq-eqb (length word) (length word) refl) (at_once (λ i. InvalidModifier word i) at e refl f)
bad_word_again at word e some (inr (inl (value, parts, f))) =
    let a : eqb 0 (length (colon ∷ value)) ≡ false = differs 0 (length (colon ∷ value)) (omega arith) in
    rw (parts, a) (at_once (λ i. InvalidModifier [] i) at e refl f)
bad_word_again at word e some (inr (inr (key, some_key, each, parts, f))) =
    let n = run_again is_no_colon key (colon ∷ []) each refl in
    let len = length-append key (colon ∷ []) in
    let a : eqb (length key) (length (key ++ colon ∷ [])) ≡ false = differs _ _ (omega (arith, len)) in
    let b : eqb (length key) 0 ≡ false = not_zero _ some_key in
    let c : eqb (length key + 1) (length (key ++ colon ∷ [])) ≡ true = eq-eqb _ _ (omega (arith, len)) in
    rw (f, parts, n, a, b, c) refl

-- ---- so is one after white space

pub word_there : (w : List ℕ) (rest : List ℕ) (i : ℕ) → IsWord w → Stops is_word_byte rest → has_word (at_index i (w ++ rest)) ≡ true
word_there w rest i is_w stops = let n = run_again is_word_byte w rest is_w.1 stops in let z = not_zero (length w) is_w.0 in rw (n, z) refl

pub no_word_there : (rest : List ℕ) (i : ℕ) → Stops is_word_byte rest → has_word (at_index i rest) ≡ false
no_word_there rest i stops = let n = run_again is_word_byte [] rest tt stops in rw n refl

-- white space, a word, and what follows
pub record AfterSpace (at : ℕ) (blank word next : List ℕ) : Type 0 where
  pub start : past is_space (at_index at (blank ++ (word ++ next))) ≡ at_index (at + length blank) (word ++ next)
  pub there : has_word (past is_space (at_index at (blank ++ (word ++ next)))) ≡ true
  pub the_word : run is_word_byte (past is_space (at_index at (blank ++ (word ++ next)))) ≡ at_index (at + length blank) word
  pub after : past is_word_byte (past is_space (at_index at (blank ++ (word ++ next)))) ≡ at_index (at + length blank + length word) next

pub after_space : (at : ℕ) (blank word next : List ℕ) → Each is_space blank → IsWord word → Stops is_word_byte next → AfterSpace at blank word next
after_space at blank word next is_s is_w stops =
    let start : past is_space (at_index at (blank ++ (word ++ next))) ≡ at_index (at + length blank) (word ++ next) = past_is is_space at blank (word ++ next) is_s (space_stops word next is_w.0 is_w.1) in
    record {
      start = start;
      there = ap has_word start ∙ word_there word next (at + length blank) is_w stops;
      the_word = ap (run is_word_byte) start ∙ run_is is_word_byte (at + length blank) word next is_w.1 stops;
      after = ap (past is_word_byte) start ∙ past_is is_word_byte (at + length blank) word next is_w.1 stops;
    }

abbrev one_at : Rest → Rest → Result (Modifier × Rest) Fault
one_at word next = modifier_in word >>= λ m. Ok (m, next)

step_again : (at : ℕ) (blank word next : List ℕ) (m : Modifier) → Each is_space blank → IsWord word → Stops is_word_byte next → modifier_in (at_index (at + length blank) word) ≡ Ok m
    → modifier_at (at_index at (blank ++ (word ++ next))) ≡ Ok (m, at_index (at + length blank + length word) next)
unfolding modifier_at
step_again at blank word next m is_s is_w stops is_m =
    let b = after_space at blank word next is_s is_w stops in
    two b.the_word b.after
  where
    two : {x y : Rest} → x ≡ at_index (at + length blank) word → y ≡ at_index (at + length blank + length word) next → one_at x y ≡ Ok (m, at_index (at + length blank + length word) next)
    two {x} {y} e f = ap (λ (x : Rest). one_at x y) e ∙ ap (λ (y : Rest). one_at (at_index (at + length blank) word) y) f ∙ ap (λ (r : Result Modifier Fault). r >>= λ m. Ok (m, at_index (at + length blank + length word) next)) is_m

bad_step : (at : ℕ) (blank word next : List ℕ) (e : Fault) → Each is_space blank → IsWord word → Stops is_word_byte next → modifier_in (at_index (at + length blank) word) ≡ Err e
    → modifier_at (at_index at (blank ++ (word ++ next))) ≡ Err e
unfolding modifier_at
bad_step at blank word next e is_s is_w stops is_e =
    let b = after_space at blank word next is_s is_w stops in
    ap (λ (x : Rest). one_at x (past is_word_byte (past is_space (at_index at (blank ++ (word ++ next)))))) b.the_word
    ∙ ap (λ (r : Result Modifier Fault). r >>= λ m. Ok (m, past is_word_byte (past is_space (at_index at (blank ++ (word ++ next)))))) is_e

going_on : (at : ℕ) (blank word next : List ℕ) → Each is_space blank → IsWord word → Stops is_word_byte next → no_modifier (at_index at (blank ++ (word ++ next))) ≡ false
going_on at blank word next is_s is_w stops = rw ((after_space at blank word next is_s is_w stops).there) refl

-- ---- so are modifiers, and a word that is none is refused

-- modifiers begin with white space
pub modifiers_stop : (at : ℕ) (own : List ℕ) (ms : List Modifier) (rest : List ℕ) → SpellsModifiers at own ms → Stops is_word_byte rest → Stops is_word_byte (own ++ rest)
modifiers_stop at own [] rest e stops = rw e stops
modifiers_stop at own (m ∷ ms) rest (first, others, parts, one, more) stops =
    let all : own ++ rest ≡ one.blank ++ ((m.key.text ++ colon ∷ m.value.text) ++ (others ++ rest)) = rw (parts, one.parts) (simp append_assoc) in
    rw all (space_first one.blank ((m.key.text ++ colon ∷ m.value.text) ++ (others ++ rest)) one.some_space one.is_space)

steps_again : (ms : List Modifier) (at : ℕ) (own tail : List ℕ) → SpellsModifiers at own ms → Stops is_word_byte tail → Steps no_modifier modifier_at (at_index at (own ++ tail)) ms (at_index (at + length own) tail)
steps_again [] at own tail e stops =
    let i : at ≡ at + length own = omega (arith, ap (length {A = ℕ}) e) in
    ap (λ (t : List ℕ). at_index at (t ++ tail)) e ∙ same_index _ _ tail i
steps_again (m ∷ ms) at own tail (first, others, parts, one, more) stops =
    let word : List ℕ = m.key.text ++ colon ∷ m.value.text in
    let word_len = length-append m.key.text (colon ∷ m.value.text) in
    let first_len : length first ≡ length one.blank + length word = omega (arith, ap (length {A = ℕ}) one.parts, length-append one.blank word) in
    let own_len : length own ≡ length first + length others = omega (arith, ap (length {A = ℕ}) parts, length-append first others) in
    let is_w : IsWord word = (omega (arith, word_len), each_append is_word_byte m.key.text (colon ∷ m.value.text) one.is_key.1 (refl, one.is_value.1)) in
    let next : List ℕ = others ++ tail in
    let all : one.blank ++ (word ++ next) ≡ own ++ tail = rw (parts, one.parts) (simp append_assoc) in
    let next_stops : Stops is_word_byte next = modifiers_stop (at + length first) others ms tail more stops in
    let is_m : modifier_in (at_index (at + length one.blank) word) ≡ Ok m = modifier_again (at + length one.blank) m one.is_key one.no_colon one.is_value one.key_at one.value_at in
    let i : at + length first ≡ at + length one.blank + length word = omega (arith, first_len) in
    let j : at + length first + length others ≡ at + length own = omega (arith, own_len) in
    let here : Steps no_modifier modifier_at (at_index (at + length one.blank + length word) next) ms (at_index (at + length own) tail) =
    subst (λ (i : ℕ). Steps no_modifier modifier_at (at_index i next) ms (at_index (at + length own) tail)) i (subst (λ (j : ℕ). Steps no_modifier modifier_at (at_index (at + length first) next) ms (at_index j tail)) j (steps_again ms (at + length first) others tail more stops)) in
    subst (λ (t : List ℕ). Steps no_modifier modifier_at (at_index at t) (m ∷ ms) (at_index (at + length own) tail)) all (
      at_index (at + length one.blank + length word) next,
      going_on at one.blank word next one.is_space is_w next_stops,
      step_again at one.blank word next m one.is_space is_w next_stops is_m,
      here,
    )

pub modifiers_again : (ms : List Modifier) (at : ℕ) (own last rest : List ℕ) → SpellsModifiers at own ms → Each is_space last → Stops is_space rest → Stops is_word_byte rest
    → modifiers_at (at_index at (own ++ (last ++ rest))) ≡ Ok (ms, at_index (at + length own + length last) rest)
unfolding modifiers_at
modifiers_again ms at own last rest spelled is_last no_s no_w =
    let start = past_is is_space (at + length own) last rest is_last no_s in
    let none : has_word (past is_space (at_index (at + length own) (last ++ rest))) ≡ false = ap has_word start ∙ no_word_there rest (at + length own + length last) no_w in
    let ends : no_modifier (at_index (at + length own) (last ++ rest)) ≡ true = rw none refl in
    let steps = steps_again ms at own (last ++ rest) spelled (word_stops last rest is_last no_w) in
    let all = steps_many no_modifier modifier_at modifier_lt (suc (length (own ++ (last ++ rest)))) (at_index at (own ++ (last ++ rest))) ms (at_index (at + length own) (last ++ rest)) (omega arith) steps ends in
    ap (λ (r : Result (List Modifier × Rest) Fault). r >>= λ all. Ok (all.0, past is_space all.1)) all ∙ ap (λ (p : Rest). done (ms, p)) start

pub bad_modifiers_again : (ms : List Modifier) (at : ℕ) (own last word rest : List ℕ) (e : Fault) → SpellsModifiers at own ms → Each is_space last → 0 < length last → IsWord word → Stops is_word_byte rest
    → BadWord word e → modifiers_at (at_index at (own ++ (last ++ (word ++ rest)))) ≡ Err (further (at + length own + length last) e)
unfolding modifiers_at
bad_modifiers_again ms at own last word rest e spelled is_last apart is_w stops bad =
    let tail : List ℕ = last ++ (word ++ rest) in
    let steps = steps_again ms at own tail spelled (space_first last (word ++ rest) apart is_last) in
    let refused = bad_step (at + length own) last word rest (further (at + length own + length last) e) is_last is_w stops (bad_word_again (at + length own + length last) word e is_w.0 bad) in
    let all = steps_failing no_modifier modifier_at modifier_lt (suc (length (own ++ tail))) (at_index at (own ++ tail)) ms (at_index (at + length own) tail) (further (at + length own + length last) e) (omega arith) steps (going_on (at + length own) last word rest is_last is_w stops) refused in
    ap (λ (r : Result (List Modifier × Rest) Fault). r >>= λ all. Ok (all.0, past is_space all.1)) all
