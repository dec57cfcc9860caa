-- A text with a fault has it also after one that spells items.
use Rattle.std.proofs.Common.{◌≡◌, ℕ, ◌+◌, List, [], ◌∷◌, ◌++◌, length, refl, sym, ap, subst, ◌∙◌, append_assoc, arith, inl, inr}
use Rattle.std.specs.Prelude.{codes}
use Rattle.std.proofs.lemmas.List.{length-append}
use Rattle.description_lexer.specs.Fault.{Fault, InvalidComponentName, NotSupported}
use Rattle.description_items.specs.Tree.{Tree, Literal}
use Rattle.description_strftime.specs.Text.{is_plain, Stops}
use Rattle.description_strftime.specs.Spelled.{SpellsText, SpellsPrefix, SpellsStrftime}
use Rattle.description_strftime.specs.Faulty.{BadConversion, FaultyStrftime}
use Rattle.description_strftime.specs.Joined.{EndsInLiteral}
use Rattle.description_lexer.specs.Further.{further}
use Rattle.description_strftime.proofs.Joins.{each_append, prefix_longer, prefix_joins, ends_or_closed}

-- the parts of two texts, one after the other
abbrev Prefixes : List ℕ → List ℕ → Type 0
Prefixes text last = (parts : List (List Tree)) × SpellsPrefix text parts last

with_more : (s t own more last : List ℕ) (items rest : List Tree) (parts : List (List Tree)) → EndsInLiteral s items → t ≡ own ++ more → SpellsText own more rest → SpellsPrefix more parts last → Prefixes (s ++ t) last
with_more s t own more last items rest parts e is_text h others =
    let both : List ℕ = e.own ++ own in
    let text : SpellsText both more (Literal both ∷ []) = record { some = omega (arith, e.some, length-append e.own own); plain = each_append is_plain e.own own e.plain h.plain; ends = h.ends; means = refl } in
    let regroup : e.own ++ t ≡ both ++ more = ap (λ (l : List ℕ). e.own ++ l) is_text ∙ sym (append_assoc e.own own more) in
    let after : SpellsPrefix (e.own ++ t) ((Literal both ∷ []) ∷ parts) last = (both, more, regroup, inl text, others) in
    (e.before ++ (Literal both ∷ []) ∷ parts, prefix_joins (s ++ t) e.before (e.own ++ t) ((Literal both ∷ []) ∷ parts) last (prefix_longer s e.before e.own t e.prefix (inl e.some)) after)

without_more : (s t last : List ℕ) (ps qs : List (List Tree)) → SpellsPrefix s ps [] → Stops is_plain t → SpellsPrefix t qs last → Prefixes (s ++ t) last
without_more s t last ps qs h stops k = (ps ++ qs, prefix_joins (s ++ t) ps t qs last (prefix_longer s ps [] t h (inr stops)) k)

after_literal : (s t last : List ℕ) (ps qs : List (List Tree)) (items : List Tree) → SpellsPrefix s ps [] → EndsInLiteral s items → SpellsPrefix t qs last → Stops is_plain last → Prefixes (s ++ t) last
after_literal s t last ps [] items h e k stops = without_more s t last ps [] h (subst (Stops is_plain) (sym k) stops) k
after_literal s t last ps (part ∷ parts) items h e (own, more, is_text, inl text, others) stops = with_more s t own more last items part parts e is_text text others
after_literal s t last ps (part ∷ parts) items h e (own, more, is_text, inr conversion, others) stops =
    without_more s t last ps (part ∷ parts) h (subst (Stops is_plain) (sym (is_text ∙ ap (λ (l : List ℕ). l ++ more) conversion.parts)) refl) (own, more, is_text, inr conversion, others)

prefixes : (s t last : List ℕ) (ps qs : List (List Tree)) → SpellsPrefix s ps [] → SpellsPrefix t qs last → Stops is_plain last → Prefixes (s ++ t) last
prefixes s t last ps qs h k stops =
    elim (ends_or_closed s ps h) [
      | inl e ↦ after_literal s t last ps qs _ h e k stops
      | inr closed ↦ (ps ++ qs, prefix_joins (s ++ t) ps t qs last (closed t) k)
    ]

bad_stops : (at : ℕ) (bad : List ℕ) (fault : Fault) → BadConversion at bad fault → Stops is_plain bad
bad_stops at bad fault (inl h) = subst (Stops is_plain) (sym h.parts) refl
bad_stops at bad fault (inr (inl h)) = subst (Stops is_plain) (sym h.parts) refl
bad_stops at bad fault (inr (inr h)) = subst (Stops is_plain) (sym h.parts) refl

bad_further : (n at : ℕ) (bad : List ℕ) (fault : Fault) → BadConversion at bad fault → BadConversion (n + at) bad (further n fault)
bad_further n at bad fault (inl h) = inl (record { flag = h.flag; parts = h.parts; fault_is = ap (further n) h.fault_is })
bad_further n at bad fault (inr (inl h)) = inr (inl (record {
  flag = h.flag;
  letter = h.letter;
  rest = h.rest;
  what = h.what;
  parts = h.parts;
  is_refused = h.is_refused;
  fault_is = ap (further n) h.fault_is ∙ ap (λ (i : ℕ). NotSupported h.what (codes "strftime") i) (omega arith);
}))
bad_further n at bad fault (inr (inr h)) = inr (inr (record {
  flag = h.flag;
  first = h.first;
  more = h.more;
  rest = h.rest;
  parts = h.parts;
  is_more = h.is_more;
  ends = h.ends;
  no_flag = h.no_flag;
  no_letter = h.no_letter;
  not_refused = h.not_refused;
  fault_is = ap (further n) h.fault_is ∙ ap (λ (i : ℕ). InvalidComponentName (h.first ∷ h.more) i) (omega arith);
}))

pub faulty_after : (s t : List ℕ) (items : List Tree) (fault : Fault) → SpellsStrftime s items → FaultyStrftime t fault → FaultyStrftime (s ++ t) (further (length s) fault)
faulty_after s t items fault h k =
    let both = prefixes s t k.bad h.parts k.parts h.prefix k.prefix (bad_stops k.at k.bad fault k.is_bad) in
    record { parts = both.0; bad = k.bad; at = length s + k.at; prefix = both.1; place = omega (arith, k.place, length-append s t); is_bad = bad_further (length s) k.at k.bad fault k.is_bad }
