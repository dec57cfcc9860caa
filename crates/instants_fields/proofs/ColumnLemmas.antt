-- Columns, one by one.
use Rattle.std.proofs.Common.{◌≡◌, refl, sym, ◌∙◌, ℕ, zero, suc, ◌-◌, ◌<◌, List, Option, Some, None, ap, arith}
use Rattle.instants_fields.specs.Pieces.{then_cut, rest_of, byte}
use Rattle.instants_fields.specs.Columns.{Span, one_column, columns, column_after}

abbrev pub after_byte_then : (List ℕ → Option (List ℕ)) → Option (List ℕ) → Option (List ℕ)
after_byte_then more None = None
after_byte_then more (Some rest) = more rest

abbrev pub after_column : ℕ → (List ℕ → Option (List ℕ)) → Option (Span × List ℕ) → Option (List ℕ)
after_column separator more None = None
after_column separator more (Some (span, rest)) = after_byte_then more (rest_of (byte separator rest))

separated : (separator n : ℕ) (r : Option (Unit {0} × List ℕ)) → rest_of (then_cut r (λ _. columns separator n)) ≡ after_byte_then (λ rest. rest_of (columns separator n rest)) (rest_of r)
separated separator n None = refl
separated separator n (Some p) = refl

column_is : (separator n : ℕ) (r : Option (Span × List ℕ)) → rest_of (then_cut r (λ _ text. then_cut (byte separator text) (λ _. columns separator n))) ≡ after_column separator (λ rest. rest_of (columns separator n rest)) r
column_is separator n None = refl
column_is separator n (Some (span, rest)) = separated separator n (byte separator rest)

one_more_is : (separator n : ℕ) (text : List ℕ) → rest_of (columns separator (suc n) text) ≡ after_column separator (λ rest. rest_of (columns separator n rest)) (one_column separator text)
unfolding columns
one_more_is separator n text = column_is separator n (one_column separator text)

pub one_more : (separator n : ℕ) (text : List ℕ) → 0 < n → rest_of (columns separator n text) ≡ after_column separator (λ rest. rest_of (columns separator (n - 1) rest)) (one_column separator text)
one_more separator zero text h = absurd (omega arith)
one_more separator (suc n) text h = let e : suc n - 1 ≡ n = omega arith in rw e (one_more_is separator n text)

-- a column that another follows
pub next_column : (separator n : ℕ) (text : List ℕ) (span : Span) (valued next : List ℕ) →
    0 < n → Some (span, valued) ≡ one_column separator text → Some next ≡ rest_of (byte separator valued) → rest_of (columns separator (n - 1) next) ≡ rest_of (columns separator n text)
next_column separator n text span valued next h column_is byte_is =
    let more : List ℕ → Option (List ℕ) = λ rest. rest_of (columns separator (n - 1) rest) in
    sym (one_more separator n text h ∙ ap (after_column separator more) (sym column_is) ∙ ap (after_byte_then more) (sym byte_is))

pub no_column : (separator n : ℕ) (text : List ℕ) → n ≡ 0 → rest_of (columns separator n text) ≡ Some text
unfolding columns
no_column separator zero text e = refl
no_column separator (suc n) text e = absurd (omega arith)

abbrev pub after_others_is : ℕ → Option (List ℕ) → Option (Span × List ℕ)
after_others_is separator None = None
after_others_is separator (Some rest) = one_column separator rest

others_are : (separator : ℕ) (r : Option (Unit {0} × List ℕ)) → then_cut r (λ _. one_column separator) ≡ after_others_is separator (rest_of r)
others_are separator None = refl
others_are separator (Some p) = refl

pub after_others : (separator others : ℕ) (text : List ℕ) → column_after separator others text ≡ after_others_is separator (rest_of (columns separator others text))
unfolding column_after
after_others separator others text = others_are separator (columns separator others text)
