-- Flags, and what follows them.
use Rattle.std.proofs.Common.{◌≡◌, ℕ, ◌+◌, List, [], ◌∷◌, ◌++◌, length, Option, Some, None, true, false, refl, sym, ap, subst, ◌∙◌, arith, cond, ◌==◌}
use Rattle.std.proofs.lemmas.Bool.Decides.{nat_tests}
use Rattle.description_modifiers.specs.declared.choices.Padding.{Padding}
use Rattle.description_modifiers.specs.declared.choices.Padding.TheVariants as padding
use Rattle.description_items.specs.Tree.{Tree}
use Rattle.description_lexer.specs.Text.{Rest}
use Rattle.description_strftime.specs.Letters.{flag_of, day_number, year_number, time_number, unpadded, component_of, text_of, item_of, composite, letter_items}
use Rattle.description_strftime.specs.Reading.{flag_at, past_flag}
use Rattle.description_strftime.specs.Spelled.{flag_text}
use Rattle.description_strftime.specs.Faulty.{IsNoFlag}

abbrev pub at_index : ℕ → List ℕ → Rest
at_index i text = record { index = i; text = text }

eqb_is : (a b : ℕ) → (a == b) ≡ true → a ≡ b
eqb_is a b e = grind (arith, nat_tests)

none_is_some : {A : Type 0} (x : A) → None ≡ Some x → ⊥
none_is_some x e = cc

some_is : {A : Type 0} (x y : A) → Some x ≡ Some y → x ≡ y
some_is x y e = cc

same : (i j : ℕ) (text : List ℕ) → i ≡ j → at_index i text ≡ at_index j text
same i j text e = ap (λ (n : ℕ). at_index n text) e

-- a flag is written as its byte
pub flag_is : (b : ℕ) (p : Padding) → flag_of b ≡ Some p → flag_text (Some p) ≡ b ∷ []
unfolding flag_of
flag_is b p e = by_space (b == 95) refl e
  where
    by_zero : (t : _) → (b == 48) ≡ t → cond t (Some padding.Zero) None ≡ Some p → flag_text (Some p) ≡ b ∷ []
    by_zero true h e = rw (← some_is padding.Zero p e, eqb_is b 48 h) refl
    by_zero false h e = absurd (none_is_some p e)

    by_none : (t : _) → (b == 45) ≡ t → cond t (Some padding.None) (cond (b == 48) (Some padding.Zero) None) ≡ Some p → flag_text (Some p) ≡ b ∷ []
    by_none true h e = rw (← some_is padding.None p e, eqb_is b 45 h) refl
    by_none false h e = by_zero (b == 48) refl e

    by_space : (t : _) → (b == 95) ≡ t → cond t (Some padding.Space) (cond (b == 45) (Some padding.None) (cond (b == 48) (Some padding.Zero) None)) ≡ Some p → flag_text (Some p) ≡ b ∷ []
    by_space true h e = rw (← some_is padding.Space p e, eqb_is b 95 h) refl
    by_space false h e = by_none (b == 45) refl e

-- a text begins with its flag
pub flag_takes : (i : ℕ) (text : List ℕ) → text ≡ flag_text (flag_at text) ++ (past_flag (flag_at text) (record { index = i; text = text })).text
flag_takes i [] = refl
flag_takes i (b ∷ bs) = go (flag_of b) refl
  where
    go : (f : Option Padding) → flag_of b ≡ f → b ∷ bs ≡ flag_text f ++ (past_flag f (record { index = i; text = b ∷ bs })).text
    go None e = refl
    go (Some p) e = ap (λ (t : List ℕ). t ++ bs) (sym (flag_is b p e))

pub flag_index : (flag : Option Padding) (s : Rest) → (past_flag flag s).index ≡ s.index + length (flag_text flag)
flag_index None s = omega arith
flag_index (Some padding.Space) s = omega arith
flag_index (Some padding.None) s = omega arith
flag_index (Some padding.Zero) s = omega arith

head_is : (a b : ℕ) → a ∷ [] ≡ b ∷ [] → a ≡ b
head_is a b e = cc

-- no flag is a letter
flag_letter : (flag : Option Padding) (p : Padding) (b : ℕ) → flag_text (Some p) ≡ b ∷ [] → letter_items flag b ≡ None
unfolding letter_items item_of component_of day_number year_number time_number unpadded text_of composite
flag_letter flag padding.Space b e = subst (λ (n : ℕ). letter_items flag n ≡ None) (head_is 95 b e) refl
flag_letter flag padding.None b e = subst (λ (n : ℕ). letter_items flag n ≡ None) (head_is 45 b e) refl
flag_letter flag padding.Zero b e = subst (λ (n : ℕ). letter_items flag n ≡ None) (head_is 48 b e) refl

pub letter_no_flag : (flag : Option Padding) (b : ℕ) (items : List Tree) → letter_items flag b ≡ Some items → flag_of b ≡ None
letter_no_flag flag b items e = go (flag_of b) refl
  where
    go : (f : Option Padding) → flag_of b ≡ f → f ≡ None
    go None h = refl
    go (Some p) h = absurd (none_is_some items (sym (flag_letter flag p b (flag_is b p h)) ∙ e))

-- what no flag stands before
pub no_flag : (flag : Option Padding) (b : ℕ) (items : List Tree) → letter_items flag b ≡ Some items → IsNoFlag flag b
no_flag None b items e = letter_no_flag None b items e
no_flag (Some p) b items e = tt

-- a flag that is written is read
pub flag_again : (flag : Option Padding) (b : ℕ) (rest : List ℕ) → IsNoFlag flag b → flag_at (flag_text flag ++ b ∷ rest) ≡ flag
unfolding flag_of
flag_again None b rest h = h
flag_again (Some padding.Space) b rest h = refl
flag_again (Some padding.None) b rest h = refl
flag_again (Some padding.Zero) b rest h = refl

pub flag_alone : (flag : Option Padding) → flag_at (flag_text flag) ≡ flag
unfolding flag_of
flag_alone None = refl
flag_alone (Some padding.Space) = refl
flag_alone (Some padding.None) = refl
flag_alone (Some padding.Zero) = refl

pub past_again : (flag : Option Padding) (i : ℕ) (rest : List ℕ) → past_flag flag (record { index = i; text = flag_text flag ++ rest }) ≡ record { index = i + length (flag_text flag); text = rest }
past_again None i rest = same i (i + 0) rest (omega arith)
past_again (Some padding.Space) i rest = refl
past_again (Some padding.None) i rest = refl
past_again (Some padding.Zero) i rest = refl
