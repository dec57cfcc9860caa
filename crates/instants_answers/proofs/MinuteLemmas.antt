-- The table of the text of each minute of the day.
use Rattle.std.proofs.Common.{◌≡◌, ℕ, zero, suc, ◌+◌, ◌*◌, ◌/◌, ◌%◌, ◌<◌, eqb, Bool, true, ◌&&◌, List, [], ◌∷◌, ◌++◌, get_or, length, drop, refl, sym, ap, ◌∙◌, arith}
use Rattle.std.proofs.lemmas.Bool.{eqb-true, and_parts}
use Rattle.std.proofs.lemmas.List.{drop-drop, get_or-drop}
use Rattle.parsing_values.specs.Decimal.{decimal}
use Rattle.instants_answers.specs.Minute.{minute_text}

-- the first eight bytes are the row of a minute
abbrev starts : List ℕ → ℕ → Bool
starts bytes m =
    eqb (get_or bytes 0 0) 84 && (eqb (get_or bytes 1 0) (48 + m / 60 / 10 % 10) && (eqb (get_or bytes 2 0) (48 + m / 60 % 10) && (eqb (get_or bytes 3 0) 58
    && (eqb (get_or bytes 4 0) (48 + m % 60 / 10 % 10) && (eqb (get_or bytes 5 0) (48 + m % 60 % 10) && (eqb (get_or bytes 6 0) 58 && eqb (get_or bytes 7 0) 0))))))

-- the rows of so many minutes, from one on
abbrev pub are_rows : List ℕ → ℕ → ℕ → Bool
are_rows bytes zero m = true
are_rows bytes (suc n) m = starts bytes m && are_rows (drop 8 bytes) n (suc m)

-- these rows
abbrev pub rows : ℕ → ℕ → List ℕ
rows zero m = []
rows (suc n) m = 84 ∷ (48 + m / 60 / 10 % 10) ∷ (48 + m / 60 % 10) ∷ 58 ∷ (48 + m % 60 / 10 % 10) ∷ (48 + m % 60 % 10) ∷ 58 ∷ 0 ∷ rows n (suc m)

there : (n m k : ℕ) (bytes : List ℕ) → are_rows bytes n m ≡ true → k < n → starts (drop (8 * k) bytes) (m + k) ≡ true
there zero m k bytes e lt = absurd (omega arith)
there (suc n) m zero bytes e lt = let same : m + 0 ≡ m = omega arith in rw same (and_parts _ _ e).0
there (suc n) m (suc k) bytes e lt =
    let minute : suc m + k ≡ m + suc k = omega arith in
    let place : 8 + 8 * k ≡ 8 * suc k = omega arith in
    let next = there n (suc m) k (drop 8 bytes) (and_parts _ _ e).1 (omega (arith, lt)) in
    rw (← minute, ← place) (ap (λ (l : List ℕ). starts l (suc m + k)) (sym (drop-drop (8 * k) 8 bytes)) ∙ next)

byte : (bytes : List ℕ) (m j v : ℕ) → eqb (get_or (drop (8 * m) bytes) j 0) v ≡ true → get_or bytes (m * 8 + j) 0 ≡ v
byte bytes m j v e =
    let same : m * 8 + j ≡ 8 * m + j = omega arith in
    rw same (sym (get_or-drop (8 * m) bytes j 0) ∙ eqb-true _ _ e)

same_eight : (a b c d e f g h a' b' c' d' e' f' g' h' : ℕ) → a ≡ a' → b ≡ b' → c ≡ c' → d ≡ d' → e ≡ e' → f ≡ f' → g ≡ g' → h ≡ h' → (a ∷ b ∷ c ∷ d ∷ e ∷ f ∷ g ∷ h ∷ []) ≡ (a' ∷ b' ∷ c' ∷ d' ∷ e' ∷ f' ∷ g' ∷ h' ∷ [])
same_eight a b c d e f g h a' b' c' d' e' f' g' h' ea eb ec ed ee ef eg eh = cc

-- the row of a minute is its text, and a byte of zero after it
pub row_at : (m : ℕ) (bytes : List ℕ) → are_rows bytes 1440 0 ≡ true → m < 1440
    → (get_or bytes (m * 8) 0 ∷ get_or bytes (m * 8 + 1) 0 ∷ get_or bytes (m * 8 + 2) 0 ∷ get_or bytes (m * 8 + 3) 0 ∷ get_or bytes (m * 8 + 4) 0 ∷ get_or bytes (m * 8 + 5) 0 ∷ get_or bytes (m * 8 + 6) 0 ∷ get_or bytes (m * 8 + 7) 0 ∷ []) ≡ minute_text m ++ 0 ∷ []
unfolding minute_text decimal
row_at m bytes ok lt =
    let first : m * 8 + 0 ≡ m * 8 = omega arith in
    let itself : 0 + m ≡ m = omega arith in
    let all = there 1440 0 m bytes ok lt in
    let h = and_parts _ _ (rw itself at all) in
    let h1 = and_parts _ _ h.1 in
    let h2 = and_parts _ _ h1.1 in
    let h3 = and_parts _ _ h2.1 in
    let h4 = and_parts _ _ h3.1 in
    let h5 = and_parts _ _ h4.1 in
    let h6 = and_parts _ _ h5.1 in
    let zeroth : get_or bytes (m * 8) 0 ≡ 84 = rw (← first) (byte bytes m 0 84 h.0) in
    same_eight _ _ _ _ _ _ _ _ _ _ _ _ _ _ _ _ zeroth (byte bytes m 1 _ h1.0) (byte bytes m 2 _ h2.0) (byte bytes m 3 _ h3.0) (byte bytes m 4 _ h4.0) (byte bytes m 5 _ h5.0) (byte bytes m 6 _ h6.0) (byte bytes m 7 _ h6.1)

pub minute_length : (m : ℕ) → length (minute_text m) ≡ 7
unfolding minute_text decimal
minute_length m = refl
