-- A run is what passes at the start, and no more.
use Rattle.std.proofs.Common.{◌≡◌, ℕ, suc, ◌+◌, ◌<◌, List, [], ◌∷◌, ◌++◌, length, take, drop, Bool, true, false, refl, arith, inl, inr, ◌⊎◌}
use Rattle.std.specs.List.{prefix_len}
use Rattle.description_lexer.specs.Text.{Each, Stops}

-- a test, and which way it went
pub which : (b : Bool) → (b ≡ true) ⊎ (b ≡ false)
which true = inl refl
which false = inr refl

each_step : (p : ℕ → Bool) (n b : ℕ) (bs : List ℕ) → p b ≡ true → Each p (take n bs) → Each p (take (1 + n) (b ∷ bs))
each_step p n b bs e h = let one : 1 + n ≡ suc n = omega arith in rw one (e, h)

stops_step : (p : ℕ → Bool) (n b : ℕ) (bs : List ℕ) → Stops p (drop n bs) → Stops p (drop (1 + n) (b ∷ bs))
stops_step p n b bs h = let one : 1 + n ≡ suc n = omega arith in rw one h

pub each_run : (p : ℕ → Bool) (s : List ℕ) → Each p (take (prefix_len p s) s)
each_run p [] = tt
each_run p (b ∷ bs) =
    elim (which (p b)) [
      | inl e ↦ rw e (each_step p (prefix_len p bs) b bs e (each_run p bs))
      | inr e ↦ rw e tt
    ]

pub stops_past : (p : ℕ → Bool) (s : List ℕ) → Stops p (drop (prefix_len p s) s)
stops_past p [] = tt
stops_past p (b ∷ bs) =
    elim (which (p b)) [
      | inl e ↦ rw e (stops_step p (prefix_len p bs) b bs (stops_past p bs))
      | inr e ↦ rw e e
    ]

pub some_run : (p : ℕ → Bool) (b : ℕ) (bs : List ℕ) → p b ≡ true → 0 < prefix_len p (b ∷ bs)
some_run p b bs e = rw e (omega arith)

no_run : (p : ℕ → Bool) (s : List ℕ) → Stops p s → prefix_len p s ≡ 0
no_run p [] h = refl
no_run p (b ∷ bs) h = rw h refl

pub run_again : (p : ℕ → Bool) (xs rest : List ℕ) → Each p xs → Stops p rest → prefix_len p (xs ++ rest) ≡ length xs
run_again p [] rest each stops = no_run p rest stops
run_again p (x ∷ xs) rest each stops = rw (each.0, run_again p xs rest each.1 stops) (omega arith)
