-- What is refused has that fault.
use Rattle.std.proofs.Common.{◌≡◌, ℕ, suc, ◌+◌, ◌==◌, true, false, List, [], ◌∷◌, ◌++◌, length, take, drop, Option, Some, None, Ok, Err, refl, sym, ap, subst, ◌∙◌, arith, inl, inr, cond}
use Rattle.std.specs.Prelude.{codes}
use Rattle.std.specs.Option.{ok_or}
use Rattle.std.specs.List.{prefix_len}
use Rattle.std.proofs.lemmas.List.{append-nil, take-append-drop}
use Rattle.std.proofs.lemmas.Bool.{eqb-true}
use Rattle.base.specs.Bytes.{percent}
use Rattle.description_modifiers.specs.declared.choices.Padding.{Padding}
use Rattle.description_lexer.specs.Fault.{Fault, InvalidComponentName, Expected}
use Rattle.description_lexer.specs.Answer.{◌>>=◌}
use Rattle.description_items.specs.Tree.{Tree, Literal}
use Rattle.description_lexer.specs.Text.{Rest, after}
use Rattle.description_strftime.specs.Text.{is_continuation}
use Rattle.description_strftime.specs.Letters.{letter_items, refused}
use Rattle.description_strftime.specs.Reading.{flag_at, past_flag, refusal, letter_at, conversion_at, plain_len, strftime_step}
use Rattle.description_strftime.specs.Spelled.{flag_text}
use Rattle.description_strftime.specs.Faulty.{head, IsNoFlag, BadConversion}
use Rattle.description_strftime.proofs.Flags.{at_index, flag_takes, flag_index}
use Rattle.description_lexer.proofs.Readings.{err_is, not_err}
use Rattle.description_lexer.proofs.Prefixes.{each_run, stops_past}
use Rattle.description_strftime.proofs.Again.{Step}

abbrev pub failed : Fault → Step
failed fault = Err fault

-- a letter that was refused
record RefusesLetter (flag : Option Padding) (s : Rest) (b : ℕ) (fault : Fault) : Type 0 where
  no_letter : letter_items flag b ≡ None
  fault_is : fault ≡ refusal (refused b) s

found_err : (o : Option (List Tree)) (d e : Fault) (s : Rest) → (ok_or o d >>= λ items. Ok (items, s)) ≡ failed e → (o ≡ None) × (e ≡ d)
found_err (Some x) d e s h = absurd (not_err (x, s) e h)
found_err None d e s h = (refl, sym (err_is {A = List Tree × Rest} d e h))

letter_refused : (start : ℕ) (flag : Option Padding) (i b : ℕ) (bs : List ℕ) (fault : Fault) → letter_at start flag (at_index i (b ∷ bs)) ≡ Err fault → RefusesLetter flag (at_index i (b ∷ bs)) b fault
unfolding letter_at
letter_refused start flag i b bs fault e =
    let s : Rest = at_index i (b ∷ bs) in
    let h = found_err (letter_items flag b) (refusal (refused b) s) fault (after 1 s) e in
    record { no_letter = h.0; fault_is = h.1 }

letter_lacking : (start : ℕ) (flag : Option Padding) (i : ℕ) (fault : Fault) → letter_at start flag (at_index i []) ≡ Err fault → fault ≡ Expected (codes "component letter") start
unfolding letter_at
letter_lacking start flag i fault e = sym (err_is {A = List Tree × Rest} (Expected (codes "component letter") start) fault e)

pub one_more : (n : ℕ) (b : ℕ) (bs : List ℕ) → take (1 + n) (b ∷ bs) ≡ b ∷ take n bs
one_more n b bs = let one : 1 + n ≡ suc n = omega arith in rw one refl

-- what is wrong with a character after a percent sign and a flag
refusal_is : (at : ℕ) (flag : Option Padding) (b : ℕ) (bs : List ℕ) (fault : Fault) → IsNoFlag flag b → RefusesLetter flag (at_index (at + length (head flag)) (b ∷ bs)) b fault → BadConversion at (head flag ++ b ∷ bs) fault
refusal_is at flag b bs fault no_flag h = go (refused b) refl
  where
    j : ℕ
    j = at + length (head flag)

    n : ℕ
    n = prefix_len is_continuation bs

    go : (r : Option (List ℕ)) → refused b ≡ r → BadConversion at (head flag ++ b ∷ bs) fault
    go (Some what) is_r = inr (inl (record {
      flag = flag;
      letter = b;
      rest = bs;
      what = what;
      parts = refl;
      is_refused = is_r;
      fault_is = h.fault_is ∙ ap (λ (r : Option (List ℕ)). refusal r (at_index j (b ∷ bs))) is_r;
    }))
    go None is_r = inr (inr (record {
      flag = flag;
      first = b;
      more = take n bs;
      rest = drop n bs;
      parts = ap (λ (l : List ℕ). head flag ++ b ∷ l) (sym (take-append-drop n bs));
      is_more = each_run is_continuation bs;
      ends = stops_past is_continuation bs;
      no_flag = no_flag;
      no_letter = h.no_letter;
      not_refused = is_r;
      fault_is = h.fault_is ∙ ap (λ (r : Option (List ℕ)). refusal r (at_index j (b ∷ bs))) is_r ∙ ap (λ (l : List ℕ). InvalidComponentName l j) (one_more n b bs);
    }))

-- after no flag stands none
none_after : (i : ℕ) (text : List ℕ) (b : ℕ) (bs : List ℕ) (flag : Option Padding) → flag_at text ≡ flag → (past_flag flag (at_index i text)).text ≡ b ∷ bs → IsNoFlag flag b
none_after i text b bs None e h = sym (ap flag_at h) ∙ e
none_after i text b bs (Some p) e h = tt

conversion_refused : (at : ℕ) (text : List ℕ) (fault : Fault) → conversion_at at (at_index (at + 1) text) ≡ Err fault → BadConversion at (percent ∷ text) fault
unfolding conversion_at
conversion_refused at text fault e = go (past_flag flag (at_index (at + 1) text)).text refl
  where
    flag : Option Padding
    flag = flag_at text

    m : Rest
    m = past_flag flag (at_index (at + 1) text)

    whole : text ≡ flag_text flag ++ m.text
    whole = flag_takes (at + 1) text

    index : m.index ≡ at + length (head flag)
    index = omega (arith, flag_index flag (at_index (at + 1) text))

    go : (t : List ℕ) → m.text ≡ t → BadConversion at (percent ∷ text) fault
    go [] is_t = inl (record {
      flag = flag;
      parts = ap (λ (l : List ℕ). percent ∷ l) (whole ∙ (ap (λ (l : List ℕ). flag_text flag ++ l) is_t ∙ append-nil (flag_text flag)));
      fault_is = letter_lacking at flag m.index fault (subst (λ (l : List ℕ). letter_at at flag (at_index m.index l) ≡ Err fault) is_t e);
    })
    go (b ∷ bs) is_t =
        let here : letter_at at flag (at_index (at + length (head flag)) (b ∷ bs)) ≡ Err fault = subst (λ (k : ℕ). letter_at at flag (at_index k (b ∷ bs)) ≡ Err fault) index (subst (λ (l : List ℕ). letter_at at flag (at_index m.index l) ≡ Err fault) is_t e) in
        let bad : BadConversion at (head flag ++ b ∷ bs) fault = refusal_is at flag b bs fault (none_after (at + 1) text b bs flag refl is_t) (letter_refused at flag (at + length (head flag)) b bs fault here) in
        subst (λ (l : List ℕ). BadConversion at (percent ∷ l) fault) (sym (whole ∙ ap (λ (l : List ℕ). flag_text flag ++ l) is_t)) bad

step_refused : (at : ℕ) (text : List ℕ) (fault : Fault) → strftime_step (at_index at text) ≡ Err fault → BadConversion at text fault
unfolding strftime_step
step_refused at [] fault e = absurd (not_err _ fault e)
step_refused at (b ∷ bs) fault e = go (b == percent) refl e
  where
    n : ℕ
    n = plain_len (b ∷ bs)

    go : (t : _) → (b == percent) ≡ t → cond t (conversion_at at (at_index (at + 1) bs)) (Ok (Literal (take n (b ∷ bs)) ∷ [], after n (at_index at (b ∷ bs)))) ≡ Err fault → BadConversion at (b ∷ bs) fault
    go true is_t h = subst (λ (c : ℕ). BadConversion at (c ∷ bs) fault) (sym (eqb-true b percent is_t)) (conversion_refused at bs fault h)
    go false is_t h = absurd (not_err _ fault h)

pub part_refused : (s : Rest) (fault : Fault) → strftime_step s ≡ Err fault → BadConversion s.index s.text fault
part_refused s fault e = step_refused s.index s.text fault e
