-- Loops that read one thing after the other, once for all of them.
use Rattle.std.proofs.Common.{◌≡◌, ℕ, zero, suc, ◌≤◌, ◌<◌, List, [], ◌∷◌, ◌++◌, length, Result, Ok, Err, Bool, true, false, refl, sym, ap, ◌∙◌, append_assoc, arith, inl, inr}
use Rattle.std.proofs.lemmas.List.{append-nil}
use Rattle.description_lexer.specs.declared.description_fault.DescriptionFault.{DescriptionFault}
use Rattle.description_lexer.specs.declared.description_fault.DescriptionFault.TheVariants as errors
use Rattle.description_lexer.specs.Text.{Rest}
use Rattle.description_lexer.specs.Fault.{Fault, fault_of}
use Rattle.description_lexer.specs.Answer.{◌>>=◌, Fails}
use Rattle.description_lexer.specs.Many.{many}
use Rattle.description_lexer.proofs.Readings.{bind_ok, ok_is, chosen}

abbrev pub Read : Type 0 → Type 0
Read A = Result (List A × Rest) Fault

abbrev pub Step : Type 0 → Type 0
Step A = Rest → Result (A × Rest) Fault

-- what was read before, and what is still read
abbrev pub with_prefix : {A : Type 0} → List A → Read A → Read A
with_prefix prefix read = read >>= λ x. Ok (prefix ++ x.0, x.1)

-- what is told of the whole is what was read, and what the rest gives
pub record SoFar {A : Type 0} (ends : Rest → Bool) (step : Step A) (total : Read A) (prefix : List A) (rest : Rest) : Type 0 where
  pub fuel : ℕ
  pub enough : length rest.text < fuel
  pub same : total ≡ with_prefix prefix (many ends step fuel rest)

regroup : {A : Type 0} (prefix : List A) (m : A) (read : Read A) → with_prefix prefix (read >>= λ x. Ok (m ∷ x.0, x.1)) ≡ with_prefix (prefix ++ m ∷ []) read
regroup {A} prefix m (Ok x) = ap (λ (ms : List A). Ok (ms, x.1)) (simp append_assoc)
regroup prefix m (Err f) = refl

bare : {A : Type 0} (read : Read A) → with_prefix [] read ≡ read
bare (Ok x) = refl
bare (Err f) = refl

pub many_begins : {A : Type 0} (ends : Rest → Bool) (step : Step A) (s : Rest) → SoFar ends step (many ends step (suc (length s.text)) s) [] s
many_begins ends step s = record { fuel = suc (length s.text); enough = omega arith; same = sym (bare (many ends step (suc (length s.text)) s)) }

at_step : {A : Type 0} (ends : Rest → Bool) (step : Step A) (k : ℕ) (s : Rest) → ends s ≡ false → many ends step (suc k) s ≡ (step s >>= λ x. many ends step k x.1 >>= λ others. Ok (x.0 ∷ others.0, others.1))
unfolding many
at_step ends step k s e = rw e refl

at_end : {A : Type 0} (ends : Rest → Bool) (step : Step A) (k : ℕ) (s : Rest) → ends s ≡ true → many ends step (suc k) s ≡ Ok ([], s)
unfolding many
at_end ends step k s e = rw e refl

pub many_goes_on : {A : Type 0} (ends : Rest → Bool) (step : Step A) (total : Read A) (prefix : List A) (s : Rest) (m : A) (after : Rest) → SoFar ends step total prefix s → ends s ≡ false → length after.text < length s.text → step s ≡ Ok (m, after) → SoFar ends step total (prefix ++ m ∷ []) after
many_goes_on {A} ends step total prefix s m after so_far e less is_m = go so_far.fuel so_far.enough so_far.same
  where
    go : (f : ℕ) → length s.text < f → total ≡ with_prefix prefix (many ends step f s) → SoFar ends step total (prefix ++ m ∷ []) after
    go zero lt same = absurd (omega arith)
    go (suc k) lt same = record { fuel = k; enough = omega arith; same = same ∙ ap (with_prefix prefix) (at_step ends step k s e) ∙ rw is_m (regroup prefix m (many ends step k after)) }

pub many_fails : {A : Type 0} (ends : Rest → Bool) (step : Step A) (total : Read A) (prefix : List A) (s : Rest) (d : DescriptionFault) → SoFar ends step total prefix s → ends s ≡ false → Fails d (step s) → Fails d total
many_fails ends step total prefix s errors.Memory so_far e is_d = tt
many_fails ends step total prefix s (errors.Description d) so_far e is_d = go so_far.fuel so_far.enough so_far.same
  where
    go : (f : ℕ) → length s.text < f → total ≡ with_prefix prefix (many ends step f s) → total ≡ Err (fault_of d)
    go zero lt same = absurd (omega arith)
    go (suc k) lt same = same ∙ ap (with_prefix prefix) (at_step ends step k s e) ∙ rw is_d refl

pub many_ends : {A : Type 0} (ends : Rest → Bool) (step : Step A) (total : Read A) (prefix : List A) (s : Rest) → SoFar ends step total prefix s → ends s ≡ true → total ≡ Ok (prefix, s)
many_ends {A} ends step total prefix s so_far e = go so_far.fuel so_far.enough so_far.same
  where
    go : (f : ℕ) → length s.text < f → total ≡ with_prefix prefix (many ends step f s) → total ≡ Ok (prefix, s)
    go zero lt same = absurd (omega arith)
    go (suc k) lt same = same ∙ ap (with_prefix prefix) (at_end ends step k s e) ∙ ap (λ (ms : List A). Ok (ms, s)) (append-nil prefix)
