-- What is read is spelled so.
use Rattle.std.proofs.Common.{◌≡◌, ℕ, ◌+◌, ◌<◌, ◌==◌, true, false, List, [], ◌∷◌, ◌++◌, length, take, Option, Some, None, Ok, refl, sym, ap, subst, ◌∙◌, append_assoc, arith, inl, inr}
use Rattle.std.specs.Option.{ok_or}
use Rattle.std.proofs.lemmas.List.{length-append, take-append-drop}
use Rattle.std.proofs.lemmas.List.Folds.{length-prefix_len}
use Rattle.std.proofs.lemmas.Bool.{eqb-true}
use Rattle.std.proofs.lemmas.Bool.Decides.{nat_tests}
use Rattle.base.specs.Bytes.{percent}
use Rattle.description_modifiers.specs.declared.choices.Padding.{Padding}
use Rattle.description_lexer.specs.Fault.{Fault}
use Rattle.description_items.specs.Tree.{Tree, Literal}
use Rattle.description_lexer.specs.Text.{Rest, after}
use Rattle.description_lexer.proofs.Readings.{bind_ok, ok_is, not_ok, chosen}
use Rattle.description_strftime.specs.Text.{is_plain}
use Rattle.description_strftime.specs.Letters.{letter_items, refused}
use Rattle.description_strftime.specs.Reading.{flag_at, past_flag, refusal, letter_at, conversion_at, plain_len, at_end, strftime_step}
use Rattle.description_strftime.specs.Spelled.{flag_text, SpellsPart}
use Rattle.description_strftime.proofs.Flags.{at_index, flag_takes, flag_index}
use Rattle.description_lexer.proofs.Prefixes.{each_run, stops_past, some_run}

ok_or_ok : {A : Type 0} (o : Option A) (fault : Fault) (y : A) → ok_or o fault ≡ Ok y → o ≡ Some y
ok_or_ok (Some x) fault y e = ap (λ (z : _). Some z) (ok_is x y e)
ok_or_ok None fault y e = absurd (not_ok fault y e)

-- a letter that was read
record TakesLetter (flag : Option Padding) (s : Rest) (x : List Tree × Rest) : Type 0 where
  letter : ℕ
  parts : s.text ≡ letter ∷ x.1.text
  index : x.1.index ≡ s.index + 1
  means : letter_items flag letter ≡ Some x.0

letter_takes : (start : ℕ) (flag : Option Padding) (i : ℕ) (text : List ℕ) (x : List Tree × Rest) → letter_at start flag (at_index i text) ≡ Ok x → TakesLetter flag (at_index i text) x
unfolding letter_at
letter_takes start flag i [] x e = absurd (not_ok _ x e)
letter_takes start flag i (b ∷ bs) x e =
    let s : Rest = at_index i (b ∷ bs) in
    let a = bind_ok (ok_or (letter_items flag b) (refusal (refused b) s)) (λ items. Ok (items, after 1 s)) x e in
    subst (λ (y : List Tree × Rest). TakesLetter flag s y) (ok_is (a.0, after 1 s) x a.2) (record { letter = b; parts = refl; index = refl; means = ok_or_ok (letter_items flag b) _ a.0 a.1 })

-- a part that was read
pub record TakesPart (s : Rest) (items : List Tree) (rest : Rest) : Type 0 where
  pub own : List ℕ
  pub parts : s.text ≡ own ++ rest.text
  pub index : rest.index ≡ s.index + length own
  pub some : 0 < length own
  pub spells : SpellsPart own rest.text items

conversion_takes : (i b : ℕ) (bs : List ℕ) (x : List Tree × Rest) → b ≡ percent → conversion_at i (at_index (i + 1) bs) ≡ Ok x → TakesPart (at_index i (b ∷ bs)) x.0 x.1
unfolding conversion_at
conversion_takes i b bs x is_percent e =
    let flag : Option Padding = flag_at bs in
    let m : Rest = past_flag flag (at_index (i + 1) bs) in
    let t : TakesLetter flag m x = letter_takes i flag m.index m.text x e in
    let prefix : List ℕ = flag_text flag in
    let later : bs ≡ prefix ++ t.letter ∷ x.1.text = flag_takes (i + 1) bs ∙ ap (λ (l : List ℕ). prefix ++ l) t.parts in
    let regroup : prefix ++ t.letter ∷ x.1.text ≡ (prefix ++ t.letter ∷ []) ++ x.1.text = sym (append_assoc prefix (t.letter ∷ []) x.1.text) in
    record {
      own = percent ∷ (prefix ++ t.letter ∷ []);
      parts = rw is_percent (ap (λ (l : List ℕ). percent ∷ l) (later ∙ regroup));
      index = omega (arith, t.index, flag_index flag (at_index (i + 1) bs), length-append prefix (t.letter ∷ []));
      some = omega arith;
      spells = inr (record { flag = flag; letter = t.letter; parts = refl; means = t.means });
    }

text_takes : (s : Rest) → 0 < plain_len s.text → TakesPart s (Literal (take (plain_len s.text) s.text) ∷ []) (after (plain_len s.text) s)
text_takes s some = record {
  own = take n s.text;
  parts = sym (take-append-drop n s.text);
  index = ap (λ (k : ℕ). s.index + k) (sym (length-prefix_len is_plain s.text));
  some = omega (arith, length-prefix_len is_plain s.text);
  spells = inl (record { some = omega (arith, length-prefix_len is_plain s.text); plain = each_run is_plain s.text; ends = stops_past is_plain s.text; means = refl });
}
  where
    n : ℕ
    n = plain_len s.text

not_percent : (b : ℕ) → (b == percent) ≡ false → is_plain b ≡ true
not_percent b e = grind (arith, nat_tests)

some_there : (s : Rest) → at_end s ≡ false → 0 < length s.text
some_there s e = grind (arith, nat_tests)

step_takes : (i : ℕ) (text : List ℕ) (x : List Tree × Rest) → 0 < length text → strftime_step (at_index i text) ≡ Ok x → TakesPart (at_index i text) x.0 x.1
unfolding strftime_step
step_takes i [] x some e = absurd (omega arith)
step_takes i (b ∷ bs) x some e =
    let s : Rest = at_index i (b ∷ bs) in
    let n : ℕ = plain_len s.text in
    elim (chosen (b == percent) (conversion_at i (after 1 s)) (Ok (Literal (take n s.text) ∷ [], after n s)) (Ok x) e) [
      | inl h ↦ conversion_takes i b bs x (eqb-true b percent h.0) h.1
      | inr h ↦ subst (λ (y : List Tree × Rest). TakesPart s y.0 y.1) (ok_is (Literal (take n s.text) ∷ [], after n s) x h.1) (text_takes s (some_run is_plain b bs (not_percent b h.0)))
    ]

pub part_takes : (s : Rest) (x : List Tree × Rest) → at_end s ≡ false → strftime_step s ≡ Ok x → TakesPart s x.0 x.1
part_takes s x more e = step_takes s.index s.text x (some_there s more) e

-- each part takes something of the text
pub step_lt : (s : Rest) (x : List Tree × Rest) → at_end s ≡ false → strftime_step s ≡ Ok x → length x.1.text < length s.text
step_lt s x more e =
    let t : TakesPart s x.0 x.1 = part_takes s x more e in
    omega (arith, ap (length {A = ℕ}) t.parts, length-append t.own x.1.text, t.some)
