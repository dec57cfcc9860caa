-- What is said of both outcomes of a reading: of its value, and of its fault.
use Rattle.std.proofs.Common.{◌≡◌, suc, length, Result, Ok, Err, Bool, true, false, cond, refl, subst, arith}
use Rattle.description_lexer.specs.Fault.{Fault}
use Rattle.description_lexer.specs.Answer.{◌>>=◌}
use Rattle.description_lexer.specs.Text.{Rest}
use Rattle.description_lexer.specs.Many.{many}
use Rattle.description_lexer.proofs.Many.{Step}
use Rattle.description_lexer.proofs.Readings.{ok_is, not_ok, err_is, not_err}
use Rattle.description_lexer.proofs.Steps.{Shortens, Read, Failing, many_steps, many_failing}

pub record Reads {A : Type 0} (Value : A → Type 0) (Wrong : Fault → Type 0) (r : Result A Fault) : Type 0 where
  pub ok : (x : A) → r ≡ Ok x → Value x
  pub err : (e : Fault) → r ≡ Err e → Wrong e

pub gives : {A : Type 0} {Value : A → Type 0} {Wrong : Fault → Type 0} (x : A) → Value x → Reads Value Wrong (Ok x)
gives {A} {Value} x h = record { ok = λ y e. subst Value (ok_is x y e) h; err = λ f e. absurd (not_err x f e) }

pub refuses : {A : Type 0} {Value : A → Type 0} {Wrong : Fault → Type 0} (f : Fault) → Wrong f → Reads Value Wrong (Err f)
refuses {A} {Value} {Wrong} f h = record { ok = λ y e. absurd (not_ok f y e); err = λ g e. subst Wrong (err_is {A = A} f g e) h }

pub either : {A : Type 0} {Value : A → Type 0} {Wrong : Fault → Type 0} (b : Bool) (x y : Result A Fault) → (b ≡ true → Reads Value Wrong x) → (b ≡ false → Reads Value Wrong y) → Reads Value Wrong (cond b x y)
either true x y h k = h refl
either false x y h k = k refl

-- one reading after another
pub in_turn : {A B : Type 0} {First : A → Type 0} {Begun : Fault → Type 0} {Value : B → Type 0} {Wrong : Fault → Type 0} (r : Result A Fault) (f : A → Result B Fault) → Reads First Begun r → ((e : Fault) → Begun e → Wrong e) → ((x : A) → First x → Reads Value Wrong (f x)) → Reads Value Wrong (r >>= f)
in_turn (Ok x) f h wrong next = next x (h.ok x refl)
in_turn (Err e) f h wrong next = refuses e (wrong e (h.err e refl))

pub reads_as : {A : Type 0} {Value Other : A → Type 0} {Wrong Else : Fault → Type 0} (r : Result A Fault) → Reads Value Wrong r → ((x : A) → Value x → Other x) → ((e : Fault) → Wrong e → Else e) → Reads Other Else r
reads_as r h value wrong = record { ok = λ x e. value x (h.ok x e); err = λ f e. wrong f (h.err f e) }

-- one thing after another, where each step takes something
pub many_read : {A : Type 0} (ends : Rest → Bool) (step : Step A) → Shortens ends step → (s : Rest) → Reads (Read ends step s) (Failing ends step s) (many ends step (suc (length s.text)) s)
many_read ends step less s = record {
  ok = λ x e. many_steps ends step less (suc (length s.text)) s x (omega arith) e;
  err = λ f e. many_failing ends step less (suc (length s.text)) s f (omega arith) e;
}
