-- What has a fault is refused with it.
use Rattle.std.proofs.Common.{◌≡◌, ℕ, ◌+◌, ◌<◌, true, false, List, ◌∷◌, ◌++◌, length, take, Option, Some, None, refl, ap, subst, ◌∙◌, arith, inl, inr}
use Rattle.std.specs.Prelude.{codes, ◌==◌, ◌||◌, Bool, cond, ◌⊎◌}
use Rattle.std.specs.List.{prefix_len}
use Rattle.std.proofs.lemmas.List.{take_at}
use Rattle.std.proofs.lemmas.Bool.Decides.{nat_tests}
use Rattle.description_modifiers.specs.declared.choices.Padding.{Padding}
use Rattle.description_modifiers.specs.declared.choices.Padding.TheVariants as padding
use Rattle.description_lexer.specs.Fault.{Fault, InvalidComponentName, Expected}
use Rattle.description_lexer.proofs.Readings.{chosen}
use Rattle.description_strftime.specs.Text.{is_continuation, Each, Stops}
use Rattle.description_strftime.specs.Letters.{flag_of, letter_items, refused, day_number, year_number, time_number, unpadded, component_of, text_of, item_of, composite}
use Rattle.description_strftime.specs.Reading.{character_len, past_flag, refusal, letter_at, conversion_at, strftime_step}
use Rattle.description_strftime.specs.Spelled.{flag_text}
use Rattle.description_strftime.specs.Faulty.{head, IsNoFlag, BadConversion}
use Rattle.description_strftime.proofs.Flags.{at_index, flag_alone}
use Rattle.description_lexer.proofs.Prefixes.{run_again}
use Rattle.description_strftime.proofs.Again.{conversion_again, percent_again}
use Rattle.description_strftime.proofs.Refused.{failed, one_more}

letter_lacks : (start i : ℕ) (flag : Option Padding) → letter_at start flag (past_flag flag (at_index i (flag_text flag))) ≡ failed (Expected (codes "component letter") start)
unfolding letter_at
letter_lacks start i None = refl
letter_lacks start i (Some padding.Space) = refl
letter_lacks start i (Some padding.None) = refl
letter_lacks start i (Some padding.Zero) = refl

lacks_again : (at : ℕ) (flag : Option Padding) → strftime_step (at_index at (head flag)) ≡ failed (Expected (codes "component letter") at)
unfolding conversion_at
lacks_again at flag = percent_again at (flag_text flag) ∙ rw (flag_alone flag) (letter_lacks at (at + 1) flag)

letter_fails : (start i : ℕ) (flag : Option Padding) (b : ℕ) (bs : List ℕ) → letter_items flag b ≡ None → letter_at start flag (at_index i (b ∷ bs)) ≡ failed (refusal (refused b) (at_index i (b ∷ bs)))
unfolding letter_at
letter_fails start i flag b bs e = rw e refl

same_place : (at : ℕ) (flag : Option Padding) (r : Option (List ℕ)) (text : List ℕ) → refusal r (at_index (at + 1 + length (flag_text flag)) text) ≡ refusal r (at_index (at + length (head flag)) text)
same_place at flag r text = ap (λ (i : ℕ). refusal r (at_index i text)) (omega arith)

-- a character that is no letter, after its percent sign and flag
refuses : (at : ℕ) (flag : Option Padding) (b : ℕ) (bs : List ℕ) → IsNoFlag flag b → letter_items flag b ≡ None → strftime_step (at_index at (head flag ++ b ∷ bs)) ≡ failed (refusal (refused b) (at_index (at + length (head flag)) (b ∷ bs)))
refuses at flag b bs no_flag no_letter =
    percent_again at (flag_text flag ++ b ∷ bs)
    ∙ conversion_again at (at + 1) flag b bs no_flag
    ∙ letter_fails at (at + 1 + length (flag_text flag)) flag b bs no_letter
    ∙ ap failed (same_place at flag (refused b) (b ∷ bs))

abbrev text : List ℕ → Option (List ℕ)
text t = Some t

none_is_some : (t : List ℕ) → None ≡ text t → ⊥
none_is_some t e = cc

eqb_is : (a b : ℕ) → (a == b) ≡ true → b ≡ a
eqb_is a b e = grind (arith, nat_tests)

either : (a b : Bool) → (a || b) ≡ true → (a ≡ true) ⊎ (b ≡ true)
either true b e = inl refl
either false b e = inr e

-- what is refused is neither a letter nor a flag
abbrev IsNeither : ℕ → Type 0
IsNeither b = ((flag : Option Padding) → letter_items flag b ≡ None) × (flag_of b ≡ None)

form : IsNeither 69 × IsNeither 79
unfolding letter_items item_of component_of day_number year_number time_number unpadded text_of composite flag_of
form = ((λ flag. refl, refl), (λ flag. refl, refl))

zone : IsNeither 90
unfolding letter_items item_of component_of day_number year_number time_number unpadded text_of composite flag_of
zone = (λ flag. refl, refl)

sign : IsNeither 94 × IsNeither 35
unfolding letter_items item_of component_of day_number year_number time_number unpadded text_of composite flag_of
sign = ((λ flag. refl, refl), (λ flag. refl, refl))

by_value : (n b : ℕ) → (b == n) ≡ true → IsNeither n → IsNeither b
by_value n b e h = subst IsNeither (eqb_is b n e) h

neither : (b : ℕ) (what : List ℕ) → refused b ≡ Some what → IsNeither b
unfolding refused
neither b what e =
    elim (chosen (b == 69 || b == 79) (text (codes "alternative form")) (cond (b == 90) (text (codes "zone name")) (cond (b == 94 || b == 35) (text (codes "flag")) None)) (text what) e) [
      | inl h ↦ elim (either (b == 69) (b == 79) h.0) [ inl k ↦ by_value 69 b k form.0 | inr k ↦ by_value 79 b k form.1 ]
      | inr h ↦ elim (chosen (b == 90) (text (codes "zone name")) (cond (b == 94 || b == 35) (text (codes "flag")) None) (text what) h.1) [
        | inl k ↦ by_value 90 b k.0 zone
        | inr k ↦ elim (chosen (b == 94 || b == 35) (text (codes "flag")) None (text what) k.1) [
          | inl l ↦ elim (either (b == 94) (b == 35) l.0) [ inl m ↦ by_value 94 b m sign.0 | inr m ↦ by_value 35 b m sign.1 ]
          | inr l ↦ absurd (none_is_some what l.1)
        ]
      ]
    ]

no_flag_before : (flag : Option Padding) (b : ℕ) → flag_of b ≡ None → IsNoFlag flag b
no_flag_before None b e = e
no_flag_before (Some p) b e = tt

character : (first : ℕ) (more rest : List ℕ) → Each is_continuation more → Stops is_continuation rest → take (character_len (first ∷ (more ++ rest))) (first ∷ (more ++ rest)) ≡ first ∷ more
character first more rest each stops = one_more (prefix_len is_continuation (more ++ rest)) first (more ++ rest) ∙ ap (λ (l : List ℕ). first ∷ l) (rw (run_again is_continuation more rest each stops) (take_at more rest (length more) refl))

pub bad_again : (at : ℕ) (bad : List ℕ) (fault : Fault) → BadConversion at bad fault → strftime_step (at_index at bad) ≡ failed fault
bad_again at bad fault (inl h) = rw (h.parts, h.fault_is) (lacks_again at h.flag)
bad_again at bad fault (inr (inl h)) =
    let n = neither h.letter h.what h.is_refused in
    rw (h.parts, h.fault_is) (refuses at h.flag h.letter h.rest (no_flag_before h.flag h.letter n.1) (n.0 h.flag) ∙ ap (λ (r : Option (List ℕ)). failed (refusal r (at_index (at + length (head h.flag)) (h.letter ∷ h.rest)))) h.is_refused)
bad_again at bad fault (inr (inr h)) =
    let all : List ℕ = h.more ++ h.rest in
    let j : ℕ = at + length (head h.flag) in
    rw (h.parts, h.fault_is) (refuses at h.flag h.first all h.no_flag h.no_letter
    ∙ (ap (λ (r : Option (List ℕ)). failed (refusal r (at_index j (h.first ∷ all)))) h.not_refused
    ∙ ap (λ (l : List ℕ). failed (InvalidComponentName l j)) (character h.first h.more h.rest h.is_more h.ends)))

pub bad_some : (at : ℕ) (bad : List ℕ) (fault : Fault) → BadConversion at bad fault → 0 < length bad
bad_some at bad fault (inl h) = omega (arith, ap (length {A = ℕ}) h.parts)
bad_some at bad fault (inr (inl h)) = omega (arith, ap (length {A = ℕ}) h.parts)
bad_some at bad fault (inr (inr h)) = omega (arith, ap (length {A = ℕ}) h.parts)
