-- Reading one thing after another.
use Rattle.std.specs.Prelude.{ℕ, zero, suc, Bool, List, [], ◌∷◌, Result, Ok, if◌then◌else◌}
use Rattle.description_lexer.specs.Fault.{Fault}
use Rattle.description_lexer.specs.Answer.{◌>>=◌}
use Rattle.description_lexer.specs.Text.{Rest}

-- one after the other, until the end; at most fuel of them
unfoldable pub many : {A : Type 0} → (Rest → Bool) → (Rest → Result (A × Rest) Fault) → ℕ → Rest → Result (List A × Rest) Fault
many ends step zero here = Ok ([], here)
many ends step (suc fuel) here =
    if ends here then Ok ([], here) else (do
      x ← step here
      others ← many ends step fuel x.1
      Ok (x.0 ∷ others.0, others.1))
