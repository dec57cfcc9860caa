-- One description after another, and a fault after a description.
use Rattle.std.proofs.Common.{◌≡◌, ℕ, ◌<◌, List, [], ◌∷◌, ◌++◌, length, true, false, refl, sym, ap, subst, ◌∙◌, append_assoc, arith, inl, inr, ◌⊎◌, ◌+◌}
use Rattle.std.specs.Prelude.{◌==◌, ◌||◌, not}
use Rattle.std.proofs.lemmas.List.{length-append, append-nil}
use Rattle.std.proofs.lemmas.Bool.Decides.{nat_tests}
use Rattle.base.specs.Bytes.{left_bracket, backslash, right_bracket}
use Rattle.description_items.specs.Tree.{Tree, Literal, Part, Compound, Optional, First, Trees, listed}
use Rattle.description_lexer.specs.declared.version.DescriptionVersion.{DescriptionVersion}
use Rattle.description_lexer.specs.declared.version.DescriptionVersion.TheVariants.{One, Two, Three}
use Rattle.description_lexer.specs.Text.{is_bracket, is_plain}
use Rattle.description_grammar.specs.Heads.{SpellsLiteral, SpellsEscape, SpellsNesting}
use Rattle.description_grammar.specs.Spelling.{SpellsItem, Spells, SpellsItems}
use Rattle.description.specs.Laws.{EndsIn, IsFirm, AreApart, Joins}
use Rattle.description_grammar.proofs.Runs.{which, each_append}
use Rattle.description_grammar.proofs.TextsSound.{text_some}
use Rattle.description_grammar.proofs.Items.{item_prefix}
use Rattle.description_grammar.proofs.ItemsComplete.{item_more, unlisted, listed_again}
use Rattle.description_lexer.specs.Fault.{Fault}
use Rattle.description_lexer.specs.Further.{further}
use Rattle.description_grammar.specs.Faulty.{Faulty}
use Rattle.description_grammar.proofs.Places.{further_twice}

-- ---- what stands after an item

item_some : (v : DescriptionVersion) (own more : List ℕ) (t : Tree) → SpellsItem v false 127 own more t → 0 < length own
item_some v own more (Literal bytes) h = text_some v false own more bytes h
item_some v own more (Part c) h = omega (arith, ap (length {A = ℕ}) h.parts, length-append h.head (right_bracket ∷ []))
item_some v own more (Optional f t) (three, written, h) = omega (arith, ap (length {A = ℕ}) h.parts, length-append h.opening (h.inside ++ right_bracket ∷ []), length-append h.inside (right_bracket ∷ []))
item_some v own more (First ts) (three, h) = omega (arith, ap (length {A = ℕ}) h.parts, length-append h.opening (h.inside ++ right_bracket ∷ []), length-append h.inside (right_bracket ∷ []))
item_some v own more (Compound ts) h = absurd h

-- a byte after an item stays there, whatever follows it
item_longer : (v : DescriptionVersion) (own more tail : List ℕ) (t : Tree) → 0 < length more → SpellsItem v false 127 own more t → SpellsItem v false 127 own (more ++ tail) t
item_longer v own [] tail t some h = absurd (omega arith)
item_longer v own (b ∷ bs) tail (Literal []) some (inl h) = absurd h.1
item_longer v own (b ∷ bs) tail (Literal (c ∷ cs)) some (inl h) = inl h
item_longer v own (b ∷ bs) tail (Literal bytes) some (inr h) = inr h
item_longer v own (b ∷ bs) tail (Part c) some h = h
item_longer v own (b ∷ bs) tail (Optional f t) some h = h
item_longer v own (b ∷ bs) tail (First ts) some h = h
item_longer v own (b ∷ bs) tail (Compound ts) some h = absurd h

-- an item is firm, or a literal as it stands
firm_or_literal : (v : DescriptionVersion) (own : List ℕ) (t : Tree) → SpellsItem v false 127 own [] t → IsFirm v own t ⊎ ((bytes : List ℕ) × (t ≡ Literal bytes) × (own ≡ bytes) × SpellsLiteral v false bytes [])
firm_or_literal v own (Literal bytes) (inl h) = inr (bytes, refl, h.0, h.1)
firm_or_literal v own (Literal bytes) (inr h) = inl (λ more. inr h)
firm_or_literal v own (Part c) h = inl (λ more. h)
firm_or_literal v own (Optional f t) h = inl (λ more. h)
firm_or_literal v own (First ts) h = inl (λ more. h)
firm_or_literal v own (Compound ts) h = absurd h

-- ---- a text that begins with a plain byte begins with a literal

plain_bracket : (v : DescriptionVersion) (b : ℕ) → is_plain v b ≡ true → b ≡ left_bracket → ⊥
plain_bracket One b h e = absurd (grind (arith, nat_tests))
plain_bracket Two b h e = absurd (grind (arith, nat_tests))
plain_bracket Three b h e = absurd (grind (arith, nat_tests))

plain_back : (b : ℕ) → not (is_bracket b || b == backslash) ≡ true → b ≡ backslash → ⊥
plain_back b h e = absurd (grind (arith, nat_tests))

heads : (a b : ℕ) (xs bs : List ℕ) → a ∷ xs ≡ b ∷ bs → a ≡ b
heads a b xs bs e = cc

no_nesting : (v : DescriptionVersion) (name own more : List ℕ) (Inside : List ℕ → Type 0) (b : ℕ) (bs : List ℕ) → is_plain v b ≡ true → SpellsNesting v name own Inside → b ∷ bs ≡ own ++ more → ⊥
no_nesting v name own more Inside b bs plain h e =
    plain_bracket v b plain (heads b left_bracket bs _ (e ∙ ap (λ (t : List ℕ). t ++ more) (h.parts ∙ ap (λ (t : List ℕ). t ++ (h.inside ++ right_bracket ∷ [])) h.is_opening.parts)))

no_escape : (v : DescriptionVersion) (own more bytes : List ℕ) (b : ℕ) (bs : List ℕ) → is_plain v b ≡ true → SpellsEscape v own bytes → b ∷ bs ≡ own ++ more → ⊥
no_escape One own more bytes b bs plain (e, f) parts = plain_bracket One b plain (heads b left_bracket bs _ (parts ∙ ap (λ (t : List ℕ). t ++ more) e))
no_escape Two own more bytes b bs plain (c, is_c, e, f) parts = plain_back b plain (heads b backslash bs _ (parts ∙ ap (λ (t : List ℕ). t ++ more) e))
no_escape Three own more bytes b bs plain (c, is_c, e, f) parts = plain_back b plain (heads b backslash bs _ (parts ∙ ap (λ (t : List ℕ). t ++ more) e))

-- the literal that a plain byte begins, and what follows it
record BeginsLiteral (v : DescriptionVersion) (t : List ℕ) (ts : List Tree) : Type 0 where
  bytes : List ℕ
  more : List ℕ
  back : List Tree
  trees : ts ≡ Literal bytes ∷ back
  parts : t ≡ bytes ++ more
  is_literal : SpellsLiteral v false bytes more
  is_back : Spells v more back

begins_literal : (v : DescriptionVersion) (b : ℕ) (bs : List ℕ) (ts : List Tree) → is_plain v b ≡ true → Spells v (b ∷ bs) ts → BeginsLiteral v (b ∷ bs) ts
begins_literal v b bs [] plain h = absurd cc
begins_literal v b bs (Literal bytes ∷ ts) plain (own, more, parts, inl one, others) = record { bytes = bytes; more = more; back = ts; trees = refl; parts = parts ∙ ap (λ (t : List ℕ). t ++ more) one.0; is_literal = one.1; is_back = others }
begins_literal v b bs (Literal bytes ∷ ts) plain (own, more, parts, inr one, others) = absurd (no_escape v own more bytes b bs plain one parts)
begins_literal v b bs (Part c ∷ ts) plain (own, more, parts, one, others) =
    absurd (plain_bracket v b plain (heads b left_bracket bs _ (parts ∙ ap (λ (t : List ℕ). t ++ more) (one.parts ∙ ap (λ (t : List ℕ). t ++ right_bracket ∷ []) one.is_head.parts))))
begins_literal v b bs (Optional f t ∷ ts) plain (own, more, parts, (three, written, one), others) = absurd (no_nesting v _ own more _ b bs plain one parts)
begins_literal v b bs (First us ∷ ts) plain (own, more, parts, (three, one), others) = absurd (no_nesting v _ own more _ b bs plain one parts)
begins_literal v b bs (Compound us ∷ ts) plain (own, more, parts, one, others) = absurd one

-- two literals are one
one_literal : (v : DescriptionVersion) (xs cs more : List ℕ) (b : ℕ) (bs : List ℕ) → SpellsLiteral v false xs [] → is_plain v b ≡ true → b ∷ bs ≡ cs ++ more → SpellsLiteral v false cs more → SpellsLiteral v false (xs ++ cs) more
one_literal v [] cs more b bs h plain parts k = absurd h
one_literal v (a ∷ xs) [] more b bs h plain parts k = absurd k
one_literal v (a ∷ xs) (c ∷ cs) more b bs h plain parts k =
    let same : b ≡ c = heads b c bs _ parts in
    (h.0, each_append (is_plain v) xs (c ∷ cs) h.1 (subst (λ (n : ℕ). is_plain v n ≡ true) same plain, k.1), k.2)

-- ---- the two texts

nothing_before : (v : DescriptionVersion) (s t : List ℕ) (ts : List Tree) → s ≡ [] → Spells v t ts → Joins v s t [] ts
nothing_before v s t ts e h = inl (inr (inl e), subst (λ (x : List ℕ). Spells v (x ++ t) ts) (sym e) h)

-- the last item of the first text
last_item : (v : DescriptionVersion) (s t own more : List ℕ) (x : Tree) (ts : List Tree) → s ≡ own ++ more → more ≡ [] → SpellsItem v false 127 own more x → Spells v t ts → Joins v s t (x ∷ []) ts
last_item v s t own more x ts parts ended one others = by_kind (firm_or_literal v own x alone)
  where
    is_own : s ≡ own
    is_own = parts ∙ ap (λ (m : List ℕ). own ++ m) ended ∙ append-nil own

    whole : s ++ t ≡ own ++ t
    whole = ap (λ (x : List ℕ). x ++ t) is_own

    alone : SpellsItem v false 127 own [] x
    alone = subst (λ (m : List ℕ). SpellsItem v false 127 own m x) ended one

    ends : EndsIn v s (x ∷ []) own x
    ends = record { prefix = []; items = []; parts = is_own; trees = refl; is_prefix = refl }

    goes_on : (bytes : List ℕ) (t : List ℕ) → x ≡ Literal bytes → own ≡ bytes → SpellsLiteral v false bytes [] → s ++ t ≡ own ++ t → Spells v t ts → Joins v s t (x ∷ []) ts
    goes_on bytes [] is_x is_bytes literal all h = inl (inl tt, (own, [], all, alone, h))
    goes_on bytes (b ∷ bs) is_x is_bytes literal all h = by_plain (which (is_plain v b))
      where
        by_plain : ((is_plain v b ≡ true) ⊎ (is_plain v b ≡ false)) → Joins v s (b ∷ bs) (x ∷ []) ts
        by_plain (inr stops) = inl (inl stops, (own, b ∷ bs, all, item_more v false 127 own [] (b ∷ bs) x stops alone, h))
        by_plain (inl plain) =
            let n : BeginsLiteral v (b ∷ bs) ts = begins_literal v b bs ts plain h in
            let same : Literal bytes ≡ x = sym is_x in
            let end_literal : EndsIn v s (x ∷ []) bytes (Literal bytes) = record { prefix = []; items = []; parts = is_own ∙ is_bytes; trees = ap (λ (y : Tree). y ∷ []) is_x; is_prefix = refl } in
            let text : s ++ b ∷ bs ≡ (bytes ++ n.bytes) ++ n.more = all ∙ ap (λ (o : List ℕ). o ++ b ∷ bs) is_bytes ∙ ap (λ (r : List ℕ). bytes ++ r) n.parts ∙ sym (append_assoc bytes n.bytes n.more) in
            inr (record {
              bytes = bytes;
              ends = end_literal;
              is_literal = literal;
              first = b;
              others = bs;
              next = refl;
              is_plain = plain;
              more = n.bytes;
              back = n.back;
              trees = n.trees;
              joined = (bytes ++ n.bytes, n.more, text, inl (refl, one_literal v bytes n.bytes n.more b bs literal plain n.parts n.is_literal), n.is_back);
            })

    by_kind : (IsFirm v own x ⊎ ((bytes : List ℕ) × (x ≡ Literal bytes) × (own ≡ bytes) × SpellsLiteral v false bytes [])) → Joins v s t (x ∷ []) ts
    by_kind (inl firm) = inl (inr (inr (own, x, ends, firm)), (own, t, whole, firm t, others))
    by_kind (inr (bytes, is_x, is_bytes, literal)) = goes_on bytes t is_x is_bytes literal whole others

-- an item before the last one changes nothing
ends_later : (v : DescriptionVersion) (s own more last : List ℕ) (x : Tree) (xs : List Tree) (y : Tree) → s ≡ own ++ more → SpellsItem v false 127 own more x → EndsIn v more xs last y → EndsIn v s (x ∷ xs) last y
ends_later v s own more last x xs y parts one e = record {
  prefix = own ++ e.prefix;
  items = x ∷ e.items;
  parts = parts ∙ ap (λ (m : List ℕ). own ++ m) e.parts ∙ sym (append_assoc own e.prefix last);
  trees = ap (λ (ts : List Tree). x ∷ ts) e.trees;
  is_prefix = (own, e.prefix, refl, item_prefix v false 127 own e.prefix last x (subst (λ (m : List ℕ). SpellsItem v false 127 own m x) e.parts one), e.is_prefix);
}

one_before : (v : DescriptionVersion) (s t own more : List ℕ) (x : Tree) (xs ts : List Tree) → s ≡ own ++ more → 0 < length more → SpellsItem v false 127 own more x → Joins v more t xs ts → Joins v s t (x ∷ xs) ts
unfolding ends_later
one_before v s t own more x xs ts parts some one (inl (apart, spelled)) =
    inl (still_apart apart, (own, more ++ t, ap (λ (a : List ℕ). a ++ t) parts ∙ append_assoc own more t, item_longer v own more t x some one, spelled))
  where
    still_apart : AreApart v more t xs → AreApart v s t (x ∷ xs)
    still_apart (inl stops) = inl stops
    still_apart (inr (inl empty)) = absurd (omega (arith, ap (length {A = ℕ}) empty))
    still_apart (inr (inr (last, y, e, firm))) = inr (inr (last, y, ends_later v s own more last x xs y parts one e, firm))
one_before v s t own more x xs ts parts some one (inr g) =
    inr (record {
      bytes = g.bytes;
      ends = ends_later v s own more g.bytes x xs (Literal g.bytes) parts one g.ends;
      is_literal = g.is_literal;
      first = g.first;
      others = g.others;
      next = g.next;
      is_plain = g.is_plain;
      more = g.more;
      back = g.back;
      trees = g.trees;
      joined = (own, more ++ t, ap (λ (a : List ℕ). a ++ t) parts ∙ append_assoc own more t, item_longer v own more t x some one, g.joined);
    })

pub joined_texts : (v : DescriptionVersion) (s t : List ℕ) (ss ts : List Tree) → Spells v s ss → Spells v t ts → Joins v s t ss ts
joined_texts v s t [] ts e h = nothing_before v s t ts e h
joined_texts v s t (x ∷ []) ts (own, more, parts, one, ended) h = last_item v s t own more x ts parts ended one h
joined_texts v s t (x ∷ (y ∷ ys)) ts (own, more, parts, one, others) h = one_before v s t own more x (y ∷ ys) ts parts (next_some others) one (joined_texts v more t (y ∷ ys) ts others h)
  where
    next_some : Spells v more (y ∷ ys) → 0 < length more
    next_some (own2, more2, parts2, one2, others2) = omega (arith, ap (length {A = ℕ}) parts2, length-append own2 more2, item_some v own2 more2 y one2)

joins_spelled : (v : DescriptionVersion) (s t : List ℕ) (ss ts : List Tree) → Joins v s t ss ts → (us : List Tree) × Spells v (s ++ t) us
joins_spelled v s t ss ts (inl h) = (ss ++ ts, h.1)
joins_spelled v s t ss ts (inr g) = (_, g.joined)

pub fault_after : (v : DescriptionVersion) (s t : List ℕ) (ss : List Tree) (e : Fault) → Spells v s ss → Faulty v t e → Faulty v (s ++ t) (further (length s) e)
fault_after v s t ss e h f =
    let prefix : Spells v f.prefix (unlisted f.items) = subst (λ (ts : Trees). SpellsItems v false 127 f.prefix ts) (sym (listed_again f.items)) f.is_prefix in
    let all = joins_spelled v s f.prefix ss (unlisted f.items) (joined_texts v s f.prefix ss (unlisted f.items) h prefix) in
    let own : Fault = f.is_bad.0 in
    let place : length s + length f.prefix ≡ length (s ++ f.prefix) = omega (arith, length-append s f.prefix) in
    record {
      items = listed all.0;
      prefix = s ++ f.prefix;
      bad = f.bad;
      parts = ap (λ (x : List ℕ). s ++ x) f.parts ∙ sym (append_assoc s f.prefix f.bad);
      is_prefix = all.1;
      is_bad = (own, f.is_bad.1, ap (further (length s)) f.is_bad.2 ∙ further_twice (length s) (length f.prefix) own ∙ ap (λ (n : ℕ). further n own) place);
    }
