-- Literals and escapes: what is read is spelled so, and the other way round.
use Rattle.std.proofs.Common.{◌≡◌, ℕ, suc, ◌+◌, ◌<◌, List, [], ◌∷◌, ◌++◌, length, take, drop, Some, None, Result, Ok, Err, Bool, true, false, not, refl, sym, ap, subst, ◌∙◌, arith, inl, inr, ◌⊎◌}
use Rattle.std.specs.Prelude.{codes, ◌&&◌}
use Rattle.std.specs.List.{prefix_len}
use Rattle.std.proofs.lemmas.List.{take-append-drop, take_at, drop_at}
use Rattle.std.proofs.lemmas.List.Folds.{length-prefix_len}
use Rattle.std.proofs.lemmas.Bool.Decides.{nat_tests}
use Rattle.std.proofs.lemmas.Bool.{and_right, and_parts}
use Rattle.std.proofs.lemmas.Option.{cond_some}
use Rattle.base.specs.Bytes.{left_bracket, backslash, right_bracket}
use Rattle.description_lexer.specs.Fault.{Fault, Expected}
use Rattle.description_lexer.specs.declared.version.DescriptionVersion.{DescriptionVersion}
use Rattle.description_lexer.specs.declared.version.DescriptionVersion.TheVariants.{One, Two, Three}
use Rattle.description_lexer.specs.Version.{is_one}
use Rattle.description_lexer.specs.Text.{Rest, is_plain, after}
use Rattle.description_lexer.specs.Words.{begins, is_escape, escape_at, literal_len}
use Rattle.description_lexer.specs.Further.{further}
use Rattle.description_grammar.specs.Reading.{doubled_at, text_at}
use Rattle.description_grammar.specs.Heads.{Stops, MayBegin, SpellsLiteral, IsEscapable, SpellsEscape}
use Rattle.description_grammar.specs.Faulty.{After, BadEscape}
use Rattle.description_grammar.proofs.Places.{at_first, at_once}
use Rattle.description_grammar.proofs.Results.{not_first, or_is}
use Rattle.description_grammar.proofs.ValueOrFault.{Reads, gives, refuses, either}
use Rattle.description_grammar.proofs.Runs.{at_index, same_index, each_run, stops_past, stops_prefix, stops_append, run_again, Takes, takes_then, takes_byte, begins_cons}

abbrev pub SpellsText : DescriptionVersion → Bool → List ℕ → List ℕ → List ℕ → Type 0
SpellsText v inner own more bytes = ((own ≡ bytes) × SpellsLiteral v inner bytes more) ⊎ SpellsEscape v own bytes

-- only the byte after it matters to a literal
pub text_prefix : (v : DescriptionVersion) (inner : Bool) (own more tail bytes : List ℕ) → SpellsText v inner own (more ++ tail) bytes → SpellsText v inner own more bytes
text_prefix v inner own more tail [] (inl h) = absurd h.1
text_prefix v inner own more tail (b ∷ bs) (inl h) = inl (h.0, (h.1.0, h.1.1, stops_prefix (is_plain v) more tail h.1.2))
text_prefix v inner own more tail bytes (inr h) = inr h

pub text_more : (v : DescriptionVersion) (inner : Bool) (own more tail bytes : List ℕ) → Stops (is_plain v) tail → SpellsText v inner own more bytes → SpellsText v inner own (more ++ tail) bytes
text_more v inner own more tail [] stops (inl h) = absurd h.1
text_more v inner own more tail (b ∷ bs) stops (inl h) = inl (h.0, (h.1.0, h.1.1, stops_append (is_plain v) more tail h.1.2 stops))
text_more v inner own more tail bytes stops (inr h) = inr h

pub text_some : (v : DescriptionVersion) (inner : Bool) (own more bytes : List ℕ) → SpellsText v inner own more bytes → 0 < length own
text_some v inner own more [] (inl h) = absurd h.1
text_some v inner own more (b ∷ bs) (inl h) = omega (arith, ap (length {A = ℕ}) h.0)
text_some One inner own more bytes (inr h) = omega (arith, ap (length {A = ℕ}) h.0)
text_some Two inner own more bytes (inr h) = omega (arith, ap (length {A = ℕ}) h.2)
text_some Three inner own more bytes (inr h) = omega (arith, ap (length {A = ℕ}) h.2)

-- ---- what is read is spelled so

pub record TakesText (v : DescriptionVersion) (inner : Bool) (s : Rest) (bytes : List ℕ) (rest : Rest) : Type 0 where
  pub own : List ℕ
  pub takes : Takes s own rest
  pub spells : SpellsText v inner own rest.text bytes

-- a first byte that is taken, and one after it
two_bytes : (a b : ℕ) (s : Rest) → begins a s.text ≡ true → begins b (after 1 s).text ≡ true → Takes s (a ∷ b ∷ []) (after 1 (after 1 s)) × (take 1 (after 1 s).text ≡ b ∷ [])
two_bytes a b s h k =
    (takes_then s (a ∷ []) (after 1 s) (b ∷ []) (after 1 (after 1 s)) (takes_byte a s h) (takes_byte b (after 1 s) k), ap (take {A = ℕ} 1) (begins_cons b (after 1 s).text k))

escaped : (v : DescriptionVersion) (inner : Bool) (s : Rest) (b : ℕ) → is_one v ≡ false → IsEscapable b → begins backslash s.text ≡ true → begins b (after 1 s).text ≡ true → TakesText v inner s (take 1 (after 1 s).text) (after 1 (after 1 s))
escaped v inner s b h is_b back next =
    let two = two_bytes backslash b s back next in
    record { own = backslash ∷ b ∷ []; takes = two.0; spells = rw two.1 (inr (spelled v h)) }
  where
    spelled : (v : DescriptionVersion) → is_one v ≡ false → SpellsEscape v (backslash ∷ b ∷ []) (b ∷ [])
    spelled One h = absurd cc
    spelled Two h = (b, is_b, refl, refl)
    spelled Three h = (b, is_b, refl, refl)

escape_reads : (v : DescriptionVersion) (inner : Bool) (s : Rest) → is_one v ≡ false → begins backslash s.text ≡ true → Reads (λ (x : List ℕ × Rest). TakesText v inner s x.0 x.1) (After s.index (BadEscape v s.text)) (escape_at s)
unfolding escape_at
escape_reads v inner s h back = either _ _ _ (
    λ g. gives _ (elim (or_is (begins left_bracket (after 1 s).text) (begins backslash (after 1 s).text) (begins right_bracket (after 1 s).text) g) [
      | inl k ↦ escaped v inner s left_bracket h (inl refl) back k
      | inr k ↦ elim k [ inl k ↦ escaped v inner s backslash h (inr (inl refl)) back k | inr k ↦ escaped v inner s right_bracket h (inr (inr refl)) back k ]
    ])
    ) (λ g. refuses _ (Expected (codes "valid escape sequence") 0, bad v h g, at_first (λ i. Expected (codes "valid escape sequence") i) s.index))
  where
    bad : (v : DescriptionVersion) → is_one v ≡ false → is_escape (after 1 s).text ≡ false → BadEscape v s.text (Expected (codes "valid escape sequence") 0)
    bad One h g = absurd cc
    bad Two h g = (drop 1 s.text, begins_cons backslash s.text back, g, refl)
    bad Three h g = (drop 1 s.text, begins_cons backslash s.text back, g, refl)

not_begins : (a b : ℕ) (bs : List ℕ) → begins a (b ∷ bs) ≡ false → b ≡ a → ⊥
not_begins a b bs h e = absurd (grind (arith, nat_tests))

not_inside : (inner : Bool) (b : ℕ) (bs : List ℕ) → (inner && begins right_bracket (b ∷ bs)) ≡ false → inner ≡ true → b ≡ right_bracket → ⊥
not_inside true b bs h is_inner e = not_begins right_bracket b bs h e
not_inside false b bs h is_inner e = absurd cc

may_begin : (v : DescriptionVersion) (inner : Bool) (b : ℕ) (bs : List ℕ) → begins left_bracket (b ∷ bs) ≡ false → (inner && begins right_bracket (b ∷ bs)) ≡ false → (not (is_one v) && begins backslash (b ∷ bs)) ≡ false → MayBegin v inner b
may_begin One inner b bs h i k = (not_begins left_bracket b bs h, not_inside inner b bs i)
may_begin Two inner b bs h i k = (not_begins left_bracket b bs h, not_inside inner b bs i, not_begins backslash b bs k)
may_begin Three inner b bs h i k = (not_begins left_bracket b bs h, not_inside inner b bs i, not_begins backslash b bs k)

literal_takes : (v : DescriptionVersion) (inner : Bool) (i : ℕ) (text : List ℕ) → 0 < length text → begins left_bracket text ≡ false → (inner && begins right_bracket text) ≡ false → (not (is_one v) && begins backslash text) ≡ false
    → TakesText v inner (at_index i text) (take (literal_len v text) text) (after (literal_len v text) (at_index i text))
literal_takes v inner i [] some h k l = absurd (omega arith)
literal_takes v inner i (b ∷ bs) some h k l =
    let n : ℕ = prefix_len (is_plain v) bs in
    let one : 1 + n ≡ suc n = omega arith in
    rw one (record {
      own = b ∷ take n bs;
      takes = record { parts = ap (λ (t : List ℕ). b ∷ t) (sym (take-append-drop n bs)); index = omega (arith, length-prefix_len (is_plain v) bs) };
      spells = inl (refl, (may_begin v inner b bs h k l, each_run (is_plain v) bs, stops_past (is_plain v) bs));
    })

pub text_reads : (v : DescriptionVersion) (inner : Bool) (s : Rest) → 0 < length s.text → begins left_bracket s.text ≡ false → (inner && begins right_bracket s.text) ≡ false → Reads (λ (x : List ℕ × Rest). TakesText v inner s x.0 x.1) (After s.index (BadEscape v s.text)) (text_at v s)
unfolding text_at
text_reads v inner s some h i = either _ _ _ (λ g. let p = not_first (is_one v) (begins backslash s.text) g in escape_reads v inner s p.0 p.1) (λ g. gives _ (literal_takes v inner s.index s.text some h i g))

pub doubled_takes : (v : DescriptionVersion) (inner : Bool) (s : Rest) (x : List ℕ × Rest) → doubled_at v s ≡ Some x → TakesText v inner s x.0 x.1
unfolding doubled_at
doubled_takes v inner s x e =
    let it : List ℕ × Rest = (take 1 (after 1 s).text, after 1 (after 1 s)) in
    let c = cond_some (is_one v && (begins left_bracket s.text && begins left_bracket (after 1 s).text)) it x e in
    let a = and_parts (is_one v) (begins left_bracket s.text && begins left_bracket (after 1 s).text) c.0 in
    let b = and_parts (begins left_bracket s.text) (begins left_bracket (after 1 s).text) a.1 in
    let two = two_bytes left_bracket left_bracket s b.0 b.1 in
    subst (λ (y : List ℕ × Rest). TakesText v inner s y.0 y.1) c.1 (record { own = left_bracket ∷ left_bracket ∷ []; takes = two.0; spells = rw two.1 (inr (spelled v a.0)) })
  where
    spelled : (v : DescriptionVersion) → is_one v ≡ true → SpellsEscape v (left_bracket ∷ left_bracket ∷ []) (left_bracket ∷ [])
    spelled One h = (refl, refl)
    spelled Two h = absurd cc
    spelled Three h = absurd cc

-- ---- what is spelled so is read

may_not : (a b : ℕ) (bs : List ℕ) → (b ≡ a → ⊥) → begins a (b ∷ bs) ≡ false
may_not a b bs h = grind (arith, nat_tests)

not_open : (v : DescriptionVersion) (inner : Bool) (b : ℕ) (bs : List ℕ) → MayBegin v inner b → begins left_bracket (b ∷ bs) ≡ false
not_open One inner b bs h = may_not left_bracket b bs h.0
not_open Two inner b bs h = may_not left_bracket b bs h.0
not_open Three inner b bs h = may_not left_bracket b bs h.0

not_close : (v : DescriptionVersion) (inner : Bool) (b : ℕ) (bs : List ℕ) → MayBegin v inner b → (inner && begins right_bracket (b ∷ bs)) ≡ false
not_close v false b bs h = refl
not_close One true b bs h = may_not right_bracket b bs (h.1 refl)
not_close Two true b bs h = may_not right_bracket b bs (h.1 refl)
not_close Three true b bs h = may_not right_bracket b bs (h.1 refl)

not_back : (v : DescriptionVersion) (inner : Bool) (b : ℕ) (bs : List ℕ) → MayBegin v inner b → (not (is_one v) && begins backslash (b ∷ bs)) ≡ false
not_back One inner b bs h = refl
not_back Two inner b bs h = may_not backslash b bs h.2
not_back Three inner b bs h = may_not backslash b bs h.2

-- a text that a literal or an escape begins
pub record BeginsText (v : DescriptionVersion) (inner : Bool) (at : ℕ) (own rest bytes : List ℕ) : Type 0 where
  pub no_end : (inner && begins right_bracket (own ++ rest)) ≡ false
  pub reads : ((doubled_at v (at_index at (own ++ rest)) ≡ None) × (begins left_bracket (own ++ rest) ≡ false) × (text_at v (at_index at (own ++ rest)) ≡ Ok (bytes, at_index (at + length own) rest)))
      ⊎ (doubled_at v (at_index at (own ++ rest)) ≡ Some (bytes, at_index (at + length own) rest))

pub no_doubled : (v : DescriptionVersion) (s : Rest) → begins left_bracket s.text ≡ false → doubled_at v s ≡ None
unfolding doubled_at
no_doubled One s h = rw h refl
no_doubled Two s h = refl
no_doubled Three s h = refl

literal_again : (v : DescriptionVersion) (inner : Bool) (at : ℕ) (bytes rest : List ℕ) → SpellsLiteral v inner bytes rest → BeginsText v inner at bytes rest bytes
unfolding text_at
literal_again v inner at [] rest h = absurd h
literal_again v inner at (b ∷ bs) rest h =
    let n = run_again (is_plain v) bs rest h.1 h.2 in
    let one : 1 + length bs ≡ suc (length bs) = omega arith in
    let opens = not_open v inner b (bs ++ rest) h.0 in
    record {
      no_end = not_close v inner b (bs ++ rest) h.0;
      reads = inl (no_doubled v (at_index at (b ∷ (bs ++ rest))) opens, opens, rw (not_back v inner b (bs ++ rest) h.0, n, one, take_at bs rest (length bs) refl, drop_at bs rest (length bs) refl) refl);
    }

abbrev ok_text : List ℕ → Rest → Result (List ℕ × Rest) Fault
ok_text bytes p = Ok (bytes, p)

two_on : (at : ℕ) (rest : List ℕ) → at_index (at + 1 + 1) rest ≡ at_index (at + 2) rest
two_on at rest = same_index _ _ rest (omega arith)

escaped_again : (at b : ℕ) (rest : List ℕ) → IsEscapable b → escape_at (at_index at (backslash ∷ b ∷ rest)) ≡ ok_text (b ∷ []) (at_index (at + 1 + 1) rest)
unfolding escape_at
escaped_again at b rest (inl e) = rw e refl
escaped_again at b rest (inr (inl e)) = rw e refl
escaped_again at b rest (inr (inr e)) = rw e refl

back_again : (v : DescriptionVersion) (inner : Bool) (at b : ℕ) (rest : List ℕ) → is_one v ≡ false → IsEscapable b → BeginsText v inner at (backslash ∷ b ∷ []) rest (b ∷ [])
unfolding text_at
back_again v inner at b rest h is_b = record {
  no_end = and_right inner false refl;
  reads = inl (no_doubled v (at_index at (backslash ∷ b ∷ rest)) refl, refl, rw h (escaped_again at b rest is_b ∙ ap (ok_text (b ∷ [])) (two_on at rest)));
}

escape_again : (v : DescriptionVersion) (inner : Bool) (at : ℕ) (own bytes rest : List ℕ) → SpellsEscape v own bytes → BeginsText v inner at own rest bytes
unfolding doubled_at
escape_again One inner at own bytes rest (e, f) = rw (e, f) (record { no_end = and_right inner false refl; reads = inr (ap (λ (p : Rest). Some (left_bracket ∷ [], p)) (two_on at rest)) })
escape_again Two inner at own bytes rest (b, is_b, e, f) = rw (e, f) (back_again Two inner at b rest refl is_b)
escape_again Three inner at own bytes rest (b, is_b, e, f) = rw (e, f) (back_again Three inner at b rest refl is_b)

pub text_again : (v : DescriptionVersion) (inner : Bool) (at : ℕ) (own bytes rest : List ℕ) → SpellsText v inner own rest bytes → BeginsText v inner at own rest bytes
text_again v inner at own bytes rest (inl (e, h)) = subst (λ (own : List ℕ). BeginsText v inner at own rest bytes) (sym e) (literal_again v inner at bytes rest h)
text_again v inner at own bytes rest (inr h) = escape_again v inner at own bytes rest h

-- a bad escape is refused
pub record RefusesText (v : DescriptionVersion) (at : ℕ) (text : List ℕ) (e : Fault) : Type 0 where
  pub some : 0 < length text
  pub no_end : begins right_bracket text ≡ false
  pub single : doubled_at v (at_index at text) ≡ None
  pub no_bracket : begins left_bracket text ≡ false
  pub refuses : text_at v (at_index at text) ≡ Err (further at e)

escape_refused : (v : DescriptionVersion) (at : ℕ) (rest : List ℕ) (e : Fault) → is_one v ≡ false → is_escape rest ≡ false → e ≡ Expected (codes "valid escape sequence") 0 → RefusesText v at (backslash ∷ rest) e
unfolding text_at escape_at
escape_refused v at rest e h none f = record { some = omega arith; no_end = refl; single = no_doubled v (at_index at (backslash ∷ rest)) refl; no_bracket = refl; refuses = rw (h, none) (at_once (λ i. Expected (codes "valid escape sequence") i) at e refl f) }

pub bad_escape_again : (v : DescriptionVersion) (at : ℕ) (text : List ℕ) (e : Fault) → BadEscape v text e → RefusesText v at text e
bad_escape_again One at text e h = absurd h
bad_escape_again Two at text e (rest, parts, none, f) = subst (λ (t : List ℕ). RefusesText Two at t e) (sym parts) (escape_refused Two at rest e refl none f)
bad_escape_again Three at text e (rest, parts, none, f) = subst (λ (t : List ℕ). RefusesText Three at t e) (sym parts) (escape_refused Three at rest e refl none f)
