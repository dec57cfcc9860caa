-- Two texts of strftime, one after the other, are one.
use Rattle.std.proofs.Common.{◌≡◌, ℕ, ◌<◌, List, [], ◌∷◌, ◌++◌, length, Bool, refl, sym, ap, subst, ◌∙◌, append_assoc, arith, inl, inr, ◌⊎◌}
use Rattle.std.proofs.lemmas.List.{length-append, append-nil}
use Rattle.description_items.specs.Tree.{Tree, Literal}
use Rattle.description_strftime.specs.Text.{is_plain, Each, Stops, joined}
use Rattle.description_strftime.specs.Spelled.{SpellsText, SpellsPart, SpellsPrefix, SpellsStrftime}
use Rattle.description_strftime.specs.Joined.{EndsInLiteral, BeginsWithLiteral, Joins}
use Rattle.description_strftime.proofs.Parts.{joined_append}
use Rattle.description_strftime.proofs.Again.{part_some}

-- what follows a literal, or nothing, where more follows
abbrev pub Follows : List ℕ → List ℕ → Type 0
Follows rest t = (0 < length rest) ⊎ Stops is_plain t

pub each_append : (p : ℕ → Bool) (xs ys : List ℕ) → Each p xs → Each p ys → Each p (xs ++ ys)
each_append p [] ys h k = k
each_append p (x ∷ xs) ys h k = (h.0, each_append p xs ys h.1 k)

stops_append : (more t : List ℕ) → Stops is_plain more → Follows more t → Stops is_plain (more ++ t)
stops_append [] t h (inl some) = absurd (omega arith)
stops_append [] t h (inr stops) = stops
stops_append (c ∷ cs) t h f = h

part_longer : (own more t : List ℕ) (items : List Tree) → SpellsPart own more items → Follows more t → SpellsPart own (more ++ t) items
part_longer own more t items (inl h) f = inl (record { some = h.some; plain = h.plain; ends = stops_append more t h.ends f; means = h.means })
part_longer own more t items (inr h) f = inr h

-- what is spelled is no shorter than what is left
prefix_le : (text : List ℕ) (parts : List (List Tree)) (rest : List ℕ) → SpellsPrefix text parts rest → 0 < length rest → 0 < length text
prefix_le text [] rest e some = omega (arith, ap (length {A = ℕ}) e)
prefix_le text (part ∷ parts) rest (own, more, is_text, is_part, others) some = omega (arith, part_some own more part is_part, ap (length {A = ℕ}) is_text, length-append own more)

follows_prefix : (more : List ℕ) (parts : List (List Tree)) (rest t : List ℕ) → SpellsPrefix more parts rest → Follows rest t → Follows more t
follows_prefix more parts rest t h (inl some) = inl (prefix_le more parts rest h some)
follows_prefix more parts rest t h (inr stops) = inr stops

-- more text after
pub prefix_longer : (text : List ℕ) (parts : List (List Tree)) (rest t : List ℕ) → SpellsPrefix text parts rest → Follows rest t → SpellsPrefix (text ++ t) parts (rest ++ t)
prefix_longer text [] rest t e f = ap (λ (l : List ℕ). l ++ t) e
prefix_longer text (part ∷ parts) rest t (own, more, is_text, is_part, others) f =
    (own, more ++ t, ap (λ (l : List ℕ). l ++ t) is_text ∙ append_assoc own more t, part_longer own more t part is_part (follows_prefix more parts rest t others f), prefix_longer more parts rest t others f)

-- more parts after
pub prefix_joins : (text : List ℕ) (parts : List (List Tree)) (rest : List ℕ) (others : List (List Tree)) (last : List ℕ) → SpellsPrefix text parts rest → SpellsPrefix rest others last → SpellsPrefix text (parts ++ others) last
prefix_joins text [] rest others last e h = subst (λ (l : List ℕ). SpellsPrefix l others last) (sym e) h
prefix_joins text (part ∷ parts) rest others last (own, more, is_text, is_part, next) h = (own, more, is_text, is_part, prefix_joins more parts rest others last next h)

no_more : (parts : List (List Tree)) → SpellsPrefix [] parts [] → joined parts ≡ []
no_more [] e = refl
no_more (part ∷ parts) (own, more, is_text, is_part, others) = absurd (omega (arith, part_some own more part is_part, ap (length {A = ℕ}) is_text, length-append own more))

-- a text ends in a literal, or whatever follows it is read on its own
abbrev pub Closed : List ℕ → List (List Tree) → Type 0
Closed text parts = (t : List ℕ) → SpellsPrefix (text ++ t) parts t

longer_by : (text own more t : List ℕ) → text ≡ own ++ more → text ++ t ≡ own ++ (more ++ t)
longer_by text own more t e = ap (λ (l : List ℕ). l ++ t) e ∙ append_assoc own more t

last_literal : (text own : List ℕ) (part : List Tree) (parts : List (List Tree)) → text ≡ own ++ [] → SpellsText own [] part → SpellsPrefix [] parts [] → EndsInLiteral text (part ++ joined parts)
last_literal text own part parts is_text h others = record {
  before = [];
  own = own;
  prefix = is_text ∙ append-nil own;
  some = h.some;
  plain = h.plain;
  means = ap (λ (l : List Tree). part ++ l) (no_more parts others) ∙ (append-nil part ∙ h.means);
}

pub ends_or_closed : (text : List ℕ) (parts : List (List Tree)) → SpellsPrefix text parts [] → EndsInLiteral text (joined parts) ⊎ Closed text parts
ends_or_closed text [] e = inr (λ t. ap (λ (l : List ℕ). l ++ t) e)
ends_or_closed text (part ∷ parts) (own, more, is_text, is_part, others) =
    elim (ends_or_closed more parts others) [
      | inl e ↦ inl (record {
        before = part ∷ e.before;
        own = e.own;
        prefix = (own, more, is_text, is_part, e.prefix);
        some = e.some;
        plain = e.plain;
        means = ap (λ (l : List Tree). part ++ l) e.means ∙ sym (append_assoc part (joined e.before) (Literal e.own ∷ []));
      })
      | inr closed ↦ by_part is_part closed
    ]
  where
    by_more : (m : List ℕ) → more ≡ m → SpellsText own m part → Closed more parts → EndsInLiteral text (part ++ joined parts) ⊎ Closed text (part ∷ parts)
    by_more [] e h closed = inl (last_literal text own part parts (is_text ∙ ap (λ (l : List ℕ). own ++ l) e) h (subst (λ (l : List ℕ). SpellsPrefix l parts []) e others))
    by_more (c ∷ cs) e h closed = inr (λ t. (own, more ++ t, longer_by text own more t is_text, part_longer own more t part is_part (inl (omega (arith, ap (length {A = ℕ}) e))), closed t))

    by_part : SpellsPart own more part → Closed more parts → EndsInLiteral text (part ++ joined parts) ⊎ Closed text (part ∷ parts)
    by_part (inl h) closed = by_more more refl h closed
    by_part (inr h) closed = inr (λ t. (own, more ++ t, longer_by text own more t is_text, inr h, closed t))

-- a text begins with a literal, or no byte of one stands at its prefix
pub begins_or_stops : (t : List ℕ) (parts : List (List Tree)) → SpellsPrefix t parts [] → BeginsWithLiteral t (joined parts) ⊎ Stops is_plain t
begins_or_stops t [] e = inr (subst (Stops is_plain) (sym e) tt)
begins_or_stops t (part ∷ parts) (own, more, is_text, inl h, others) = inl (record {
  own = own;
  rest = more;
  after = parts;
  parts = is_text;
  some = h.some;
  plain = h.plain;
  ends = h.ends;
  others = others;
  means = ap (λ (l : List Tree). l ++ joined parts) h.means;
})
begins_or_stops t (part ∷ parts) (own, more, is_text, inr h, others) = inr (subst (Stops is_plain) (sym (is_text ∙ ap (λ (l : List ℕ). l ++ more) h.parts)) refl)

spelled : (text : List ℕ) (parts : List (List Tree)) (items : List Tree) → SpellsPrefix text parts [] → items ≡ joined parts → SpellsStrftime text items
spelled text parts items h e = record { parts = parts; prefix = h; all = e }

both : (s t : List ℕ) (ps qs : List (List Tree)) (a b : List Tree) → a ≡ joined ps → b ≡ joined qs → SpellsPrefix (s ++ t) ps t → SpellsPrefix t qs [] → SpellsStrftime (s ++ t) (a ++ b)
both s t ps qs a b is_a is_b h k = spelled (s ++ t) (ps ++ qs) (a ++ b) (prefix_joins (s ++ t) ps t qs [] h k) (rw (is_a, is_b) (sym (joined_append ps qs)))

apart : (s t : List ℕ) (a b : List Tree) → SpellsStrftime s a → SpellsStrftime t b → (EndsInLiteral s a × BeginsWithLiteral t b → ⊥) → SpellsStrftime (s ++ t) (a ++ b)
apart s t a b h k not_both =
    elim (ends_or_closed s h.parts h.prefix) [
      | inr closed ↦ both s t h.parts k.parts a b h.all k.all (closed t) k.prefix
      | inl e ↦ elim (begins_or_stops t k.parts k.prefix) [
        | inr stops ↦ both s t h.parts k.parts a b h.all k.all (prefix_longer s h.parts [] t h.prefix (inr stops)) k.prefix
        | inl f ↦ absurd (not_both (subst (EndsInLiteral s) (sym h.all) e, subst (BeginsWithLiteral t) (sym k.all) f))
      ]
    ]

as_one : (s t : List ℕ) (a b : List Tree) (e : EndsInLiteral s a) (f : BeginsWithLiteral t b) → SpellsStrftime (s ++ t) (joined e.before ++ Literal (e.own ++ f.own) ∷ joined f.after)
as_one s t a b e f =
    let own : List ℕ = e.own ++ f.own in
    let text : SpellsText own f.rest (Literal own ∷ []) = record { some = omega (arith, e.some, length-append e.own f.own); plain = each_append is_plain e.own f.own e.plain f.plain; ends = f.ends; means = refl } in
    let regroup : e.own ++ t ≡ own ++ f.rest = ap (λ (l : List ℕ). e.own ++ l) f.parts ∙ sym (append_assoc e.own f.own f.rest) in
    let after : SpellsPrefix (e.own ++ t) ((Literal own ∷ []) ∷ f.after) [] = (own, f.rest, regroup, inl text, f.others) in
    let before : SpellsPrefix (s ++ t) e.before (e.own ++ t) = prefix_longer s e.before e.own t e.prefix (inl e.some) in
    spelled (s ++ t) (e.before ++ (Literal own ∷ []) ∷ f.after) _ (prefix_joins (s ++ t) e.before (e.own ++ t) ((Literal own ∷ []) ∷ f.after) [] before after) (sym (joined_append e.before ((Literal own ∷ []) ∷ f.after)))

pub joins : (s t : List ℕ) (a b : List Tree) → SpellsStrftime s a → SpellsStrftime t b → Joins s t a b
joins s t a b h k = record { apart = apart s t a b h k; as_one = as_one s t a b }
