-- Reading one thing after another, as the steps that it takes.
use Rattle.std.proofs.Common.{◌≡◌, ℕ, zero, suc, ◌<◌, List, [], ◌∷◌, length, Result, Ok, Err, Bool, true, false, refl, ap, subst, ◌∙◌, arith, inl, inr}
use Rattle.description_lexer.specs.Fault.{Fault}
use Rattle.description_lexer.specs.Answer.{◌>>=◌}
use Rattle.description_lexer.specs.Text.{Rest}
use Rattle.description_lexer.specs.Many.{many}
use Rattle.description_lexer.proofs.Many.{Step}
use Rattle.description_lexer.proofs.Readings.{bind_ok, ok_is, bind_err, not_err, chosen}

-- steps from one rest of the text to another; none is taken at an end
abbrev pub Steps : {A : Type 0} → (Rest → Bool) → Step A → Rest → List A → Rest → Type 0
Steps ends step s [] rest = s ≡ rest
Steps ends step s (x ∷ xs) rest = (next : Rest) × (ends s ≡ false) × (step s ≡ Ok (x, next)) × Steps ends step next xs rest

-- each step takes something
abbrev pub Shortens : {A : Type 0} → (Rest → Bool) → Step A → Type 0
Shortens {A} ends step = (s : Rest) (x : A × Rest) → ends s ≡ false → step s ≡ Ok x → length x.1.text < length s.text

abbrev pub Read : {A : Type 0} → (Rest → Bool) → Step A → Rest → List A × Rest → Type 0
Read ends step s x = Steps ends step s x.0 x.1 × (ends x.1 ≡ true)

pub many_steps : {A : Type 0} (ends : Rest → Bool) (step : Step A) → Shortens ends step → (fuel : ℕ) (s : Rest) (x : List A × Rest) → length s.text < fuel → many ends step fuel s ≡ Ok x → Read ends step s x
unfolding many
many_steps {A} ends step less zero s x lt e = absurd (omega arith)
many_steps {A} ends step less (suc k) s x lt e =
    elim (chosen (ends s) (Ok ([], s)) (step s >>= λ y. many ends step k y.1 >>= λ others. Ok (y.0 ∷ others.0, others.1)) (Ok x) e) [
      | inl h ↦ subst (Read ends step s) (ok_is ([], s) x h.1) (refl, h.0)
      | inr h ↦
          let a = bind_ok (step s) (λ y. many ends step k y.1 >>= λ others. Ok (y.0 ∷ others.0, others.1)) x h.1 in
          let b = bind_ok (many ends step k a.0.1) (λ others. Ok (a.0.0 ∷ others.0, others.1)) x a.2 in
          let more : Read ends step a.0.1 b.0 = many_steps ends step less k a.0.1 b.0 (omega (arith, less s a.0 h.0 a.1)) b.1 in
          subst (Read ends step s) (ok_is (a.0.0 ∷ b.0.0, b.0.1) x b.2) ((a.0.1, h.0, a.1, more.0), more.1)
    ]

-- the steps before the one that fails
pub record Failing {A : Type 0} (ends : Rest → Bool) (step : Step A) (s : Rest) (e : Fault) : Type 0 where
  pub prefix : List A
  pub bad : Rest
  pub steps : Steps ends step s prefix bad
  pub goes_on : ends bad ≡ false
  pub fails : step bad ≡ Err e

pub many_failing : {A : Type 0} (ends : Rest → Bool) (step : Step A) → Shortens ends step → (fuel : ℕ) (s : Rest) (e : Fault) → length s.text < fuel → many ends step fuel s ≡ Err e → Failing ends step s e
unfolding many
many_failing {A} ends step less zero s e lt h = absurd (not_err ([], s) e h)
many_failing {A} ends step less (suc k) s e lt h =
    elim (chosen (ends s) (Ok ([], s)) (step s >>= λ y. many ends step k y.1 >>= λ others. Ok (y.0 ∷ others.0, others.1)) (Err e) h) [
      | inl g ↦ absurd (not_err ([], s) e g.1)
      | inr g ↦ elim (bind_err (step s) (λ y. many ends step k y.1 >>= λ others. Ok (y.0 ∷ others.0, others.1)) e g.1) [
        | inl a ↦ record { prefix = []; bad = s; steps = refl; goes_on = g.0; fails = a }
        | inr a ↦ elim (bind_err (many ends step k a.0.1) (λ others. Ok (a.0.0 ∷ others.0, others.1)) e a.2) [
          | inl b ↦
              let more : Failing ends step a.0.1 e = many_failing ends step less k a.0.1 e (omega (arith, less s a.0 g.0 a.1)) b in
              record { prefix = a.0.0 ∷ more.prefix; bad = more.bad; steps = (a.0.1, g.0, a.1, more.steps); goes_on = more.goes_on; fails = more.fails }
          | inr b ↦ absurd (not_err (a.0.0 ∷ b.0.0, b.0.1) e b.2)
        ]
      ]
    ]

at_end : {A : Type 0} (ends : Rest → Bool) (step : Step A) (k : ℕ) (s : Rest) → ends s ≡ true → many ends step (suc k) s ≡ Ok ([], s)
unfolding many
at_end ends step k s e = rw e refl

at_step : {A : Type 0} (ends : Rest → Bool) (step : Step A) (k : ℕ) (s next : Rest) (x : A) → ends s ≡ false → step s ≡ Ok (x, next) → many ends step (suc k) s ≡ (many ends step k next >>= λ others. Ok (x ∷ others.0, others.1))
unfolding many
at_step ends step k s next x e h = rw (e, h) refl

at_fault : {A : Type 0} (ends : Rest → Bool) (step : Step A) (k : ℕ) (s : Rest) (e : Fault) → ends s ≡ false → step s ≡ Err e → many ends step (suc k) s ≡ Err e
unfolding many
at_fault ends step k s e goes h = rw (goes, h) refl

pub steps_many : {A : Type 0} (ends : Rest → Bool) (step : Step A) → Shortens ends step → (fuel : ℕ) (s : Rest) (xs : List A) (rest : Rest) → length s.text < fuel → Steps ends step s xs rest → ends rest ≡ true → many ends step fuel s ≡ Ok (xs, rest)
steps_many ends step less zero s xs rest lt steps e = absurd (omega arith)
steps_many {A} ends step less (suc k) s [] rest lt steps e = ap (many ends step (suc k)) steps ∙ at_end ends step k rest e
steps_many {A} ends step less (suc k) s (x ∷ xs) rest lt (next, goes, is_x, more) e =
    at_step ends step k s next x goes is_x ∙ ap (λ (r : Result (List A × Rest) Fault). r >>= λ others. Ok (x ∷ others.0, others.1)) (steps_many ends step less k next xs rest (omega (arith, less s (x, next) goes is_x)) more e)

pub steps_failing : {A : Type 0} (ends : Rest → Bool) (step : Step A) → Shortens ends step → (fuel : ℕ) (s : Rest) (xs : List A) (bad : Rest) (e : Fault) → length s.text < fuel → Steps ends step s xs bad → ends bad ≡ false → step bad ≡ Err e → many ends step fuel s ≡ Err e
steps_failing ends step less zero s xs bad e lt steps stays h = absurd (omega arith)
steps_failing ends step less (suc k) s [] bad e lt steps stays h = ap (many ends step (suc k)) steps ∙ at_fault ends step k bad e stays h
steps_failing {A} ends step less (suc k) s (x ∷ xs) bad e lt (next, goes, is_x, more) stays h =
    at_step ends step k s next x goes is_x ∙ ap (λ (r : Result (List A × Rest) Fault). r >>= λ others. Ok (x ∷ others.0, others.1)) (steps_failing ends step less k next xs bad e (omega (arith, less s (x, next) goes is_x)) more stays h)
