-- Runs of bytes, and what a text is left with after its prefix.
use Rattle.std.proofs.Common.{◌≡◌, ℕ, zero, suc, ◌+◌, ◌<◌, List, [], ◌∷◌, ◌++◌, length, take, drop, Bool, true, false, refl, sym, ap, subst, arith, inl, inr, Ok, ◌∙◌, append_assoc}
use Rattle.std.specs.List.{prefix_len}
use Rattle.std.proofs.lemmas.List.{take-append-drop, take_at, drop_at, length-append}
use Rattle.std.proofs.lemmas.List.Folds.{length-prefix_len}
use Rattle.std.proofs.lemmas.Bool.Decides.{nat_tests}
use Rattle.description_lexer.specs.Text.{Rest, is_space, is_word_byte, run, past, after}
use Rattle.description_grammar.specs.Heads.{Each, Stops}
pub use Rattle.description_lexer.proofs.Prefixes.{which, each_run, stops_past, run_again}
use Rattle.std.proofs.lemmas.Bool.{eqb-true}
use Rattle.base.specs.Bytes.{left_bracket, right_bracket}
use Rattle.description_lexer.specs.Fault.{UnclosedOpeningBracket}
use Rattle.description_lexer.specs.Words.{begins, closed_at}
use Rattle.description_grammar.proofs.ValueOrFault.{Reads, gives, refuses, either}

-- the parts of a run again
pub run_is : (p : ℕ → Bool) (at : ℕ) (xs rest : List ℕ) → Each p xs → Stops p rest → run p (record { index = at; text = xs ++ rest }) ≡ record { index = at; text = xs }
run_is p at xs rest each stops = rw (run_again p xs rest each stops, take_at xs rest (length xs) refl) refl

pub past_is : (p : ℕ → Bool) (at : ℕ) (xs rest : List ℕ) → Each p xs → Stops p rest → past p (record { index = at; text = xs ++ rest }) ≡ record { index = at + length xs; text = rest }
past_is p at xs rest each stops = rw (run_again p xs rest each stops, drop_at xs rest (length xs) refl) refl

pub no_space : (b : ℕ) → is_word_byte b ≡ true → is_space b ≡ false
no_space b h = grind (arith, nat_tests)

pub no_word : (b : ℕ) → is_space b ≡ true → is_word_byte b ≡ false
no_word b h = grind (arith, nat_tests)

-- white space stops before a word, and a word before white space
pub space_stops : (w rest : List ℕ) → 0 < length w → Each is_word_byte w → Stops is_space (w ++ rest)
space_stops [] rest some each = absurd (omega arith)
space_stops (b ∷ bs) rest some each = no_space b each.0

pub word_stops : (s rest : List ℕ) → Each is_space s → Stops is_word_byte rest → Stops is_word_byte (s ++ rest)
word_stops [] rest each stops = stops
word_stops (b ∷ bs) rest each stops = no_word b each.0

-- a run's end is the next one's beginning
pub cut_run : (p : ℕ → Bool) (s : Rest) → s.text ≡ (run p s).text ++ (past p s).text
cut_run p s = sym (take-append-drop (prefix_len p s.text) s.text)

pub past_index : (p : ℕ → Bool) (s : Rest) → (past p s).index ≡ s.index + length (run p s).text
past_index p s = ap (λ (n : ℕ). s.index + n) (sym (length-prefix_len p s.text))

-- ---- rests by their index

abbrev pub at_index : ℕ → List ℕ → Rest
at_index i t = record { index = i; text = t }

pub same_index : (i j : ℕ) (t : List ℕ) → i ≡ j → at_index i t ≡ at_index j t
same_index i j t e = ap (λ (n : ℕ). at_index n t) e

-- ---- bytes that pass

pub each_append : (p : ℕ → Bool) (xs ys : List ℕ) → Each p xs → Each p ys → Each p (xs ++ ys)
each_append p [] ys h k = k
each_append p (x ∷ xs) ys h k = (h.0, each_append p xs ys h.1 k)

pub each_of_take : (p : ℕ → Bool) (n : ℕ) (s : List ℕ) → Each p s → Each p (take n s)
each_of_take p zero s h = tt
each_of_take p (suc n) [] h = tt
each_of_take p (suc n) (b ∷ bs) h = (h.0, each_of_take p n bs h.1)

pub each_of_drop : (p : ℕ → Bool) (n : ℕ) (s : List ℕ) → Each p s → Each p (drop n s)
each_of_drop p zero s h = h
each_of_drop p (suc n) [] h = tt
each_of_drop p (suc n) (b ∷ bs) h = each_of_drop p n bs h.1

pub each_whole : (p : ℕ → Bool) (s : List ℕ) → prefix_len p s ≡ length s → Each p s
each_whole p s e = subst (Each p) (rw e (take_all s)) (each_run p s)
  where
    take_all : (s : List ℕ) → take (length s) s ≡ s
    take_all [] = refl
    take_all (b ∷ bs) = ap (λ (t : List ℕ). b ∷ t) (take_all bs)

-- ---- where a run stops

pub stops_prefix : (p : ℕ → Bool) (xs ys : List ℕ) → Stops p (xs ++ ys) → Stops p xs
stops_prefix p [] ys h = tt
stops_prefix p (x ∷ xs) ys h = h

pub stops_append : (p : ℕ → Bool) (xs ys : List ℕ) → Stops p xs → Stops p ys → Stops p (xs ++ ys)
stops_append p [] ys h k = k
stops_append p (x ∷ xs) ys h k = h

pub stops_from_none : (p : ℕ → Bool) (s : List ℕ) → prefix_len p s ≡ 0 → Stops p s
stops_from_none p [] e = tt
stops_from_none p (b ∷ bs) e = elim (which (p b)) [ inl h ↦ absurd (no_none h) | inr h ↦ h ]
  where
    no_none : p b ≡ true → ⊥
    no_none h = let f = rw h at e in omega arith

pub none_from_stops : (p : ℕ → Bool) (s : List ℕ) → Stops p s → prefix_len p s ≡ 0
none_from_stops p [] h = refl
none_from_stops p (b ∷ bs) h = rw h refl

-- white space is no word
pub space_first : (s t : List ℕ) → 0 < length s → Each is_space s → Stops is_word_byte (s ++ t)
space_first [] t some each = absurd (omega arith)
space_first (b ∷ bs) t some each = no_word b each.0

pub record Takes (s : Rest) (own : List ℕ) (rest : Rest) : Type 0 where
  pub parts : s.text ≡ own ++ rest.text
  pub index : rest.index ≡ s.index + length own

pub takes_then : (a : Rest) (x : List ℕ) (b : Rest) (y : List ℕ) (c : Rest) → Takes a x b → Takes b y c → Takes a (x ++ y) c
takes_then a x b y c p q = record { parts = p.parts ∙ ap (λ (t : List ℕ). x ++ t) q.parts ∙ sym (append_assoc x y c.text); index = omega (arith, p.index, q.index, length-append x y) }

pub takes_run : (p : ℕ → Bool) (s : Rest) → Takes s (run p s).text (past p s)
takes_run p s = record { parts = cut_run p s; index = past_index p s }

pub takes_length : (s : Rest) (own : List ℕ) (rest : Rest) → Takes s own rest → length s.text ≡ length own + length rest.text
takes_length s own rest t = omega (arith, ap (length {A = ℕ}) t.parts, length-append own rest.text)

pub begins_cons : (b : ℕ) (text : List ℕ) → begins b text ≡ true → text ≡ b ∷ drop 1 text
begins_cons b [] h = absurd cc
begins_cons b (c ∷ cs) h = let e : c ≡ b = grind (arith, nat_tests) in rw e refl

-- a bracket is no white space
pub stops_91 : (text : List ℕ) → begins left_bracket text ≡ true → Stops is_space text
stops_91 [] h = tt
stops_91 (b ∷ bs) h = let e : b ≡ left_bracket = eqb-true b left_bracket h in rw e refl

pub takes_byte : (b : ℕ) (s : Rest) → begins b s.text ≡ true → Takes s (b ∷ []) (after 1 s)
takes_byte b s h = record { parts = begins_cons b s.text h; index = refl }

pub closed_reads : (bracket : ℕ) (s : Rest) → Reads (λ rest. Takes s (right_bracket ∷ []) rest) (λ e. (begins right_bracket s.text ≡ false) × (e ≡ UnclosedOpeningBracket bracket)) (closed_at bracket s)
unfolding closed_at
closed_reads bracket s = either _ _ _ (λ h. gives _ (takes_byte right_bracket s h)) (λ h. refuses _ (h, refl))

pub closed_again : (bracket at : ℕ) (rest : List ℕ) → closed_at bracket (at_index at (right_bracket ∷ rest)) ≡ Ok (at_index (at + 1) rest)
unfolding closed_at
closed_again bracket at rest = refl
