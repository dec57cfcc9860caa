-- The table of the months between hyphens.
use Rattle.std.proofs.Common.{◌≡◌, ℕ, ◌+◌, ◌*◌, ◌/◌, ◌%◌, ◌≤◌, eqb, Bool, true, ◌&&◌, List, [], ◌∷◌, ◌++◌, get_or, codes, refl, arith}
use Rattle.std.proofs.lemmas.Bool.{agree_below_at, eqb-true, and_parts}
use Rattle.parsing_values.specs.Decimal.{decimal}

-- the bytes of the months between hyphens
abbrev pub months : List ℕ
months = codes "-00--01--02--03--04--05--06--07--08--09--10--11--12-"

abbrev has_month : ℕ → Bool
has_month n = eqb (get_or months (n * 4) 0) 45 && (eqb (get_or months (n * 4 + 1) 0) (48 + n / 10 % 10) && (eqb (get_or months (n * 4 + 2) 0) (48 + n % 10) && eqb (get_or months (n * 4 + 3) 0) 45))

same_four : (a b c d a' b' c' d' : ℕ) → a ≡ a' → b ≡ b' → c ≡ c' → d ≡ d' → (a ∷ b ∷ c ∷ d ∷ []) ≡ (a' ∷ b' ∷ c' ∷ d' ∷ [])
same_four a b c d a' b' c' d' ea eb ec ed = cc

pub month_at : (n : ℕ) → n ≤ 12 → (get_or months (n * 4) 0 ∷ get_or months (n * 4 + 1) 0 ∷ get_or months (n * 4 + 2) 0 ∷ get_or months (n * 4 + 3) 0 ∷ []) ≡ codes "-" ++ decimal 2 n ++ codes "-"
unfolding decimal
month_at n h =
    let all = and_parts _ _ (agree_below_at has_month (λ _. true) 13 n refl (omega (arith, h))) in
    let digits = and_parts _ _ all.1 in
    let last = and_parts _ _ digits.1 in
    same_four _ _ _ _ _ _ _ _ (eqb-true _ _ all.0) (eqb-true _ _ digits.0) (eqb-true _ _ last.0) (eqb-true _ _ last.1)
