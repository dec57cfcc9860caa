-- One reading after another, taken apart.
use Rattle.std.proofs.Common.{◌≡◌, Result, Ok, Err, Bool, true, false, not, cond, refl, sym, ap, inl, inr, ◌⊎◌}
use Rattle.description_lexer.specs.Fault.{Fault}
use Rattle.description_lexer.specs.Answer.{◌>>=◌}

pub bind_ok : {A B : Type 0} (r : Result A Fault) (f : A → Result B Fault) (y : B) → (r >>= f) ≡ Ok y → (x : A) × (r ≡ Ok x) × (f x ≡ Ok y)
bind_ok (Ok x) f y e = (x, refl, e)
bind_ok (Err d) f y e = absurd cc

abbrev done : {A : Type 0} → A → Result A Fault
done x = Ok x

pub ok_is : {A : Type 0} (x y : A) → done x ≡ done y → x ≡ y
ok_is x y e = cc

pub not_ok : {A : Type 0} (fault : Fault) (x : A) → Err fault ≡ done x → ⊥
not_ok fault x e = cc

-- ---- readings that fail

abbrev pub failed : {A : Type 0} → Fault → Result A Fault
failed e = Err e

pub err_is : {A : Type 0} (d e : Fault) → failed {A = A} d ≡ failed {A = A} e → d ≡ e
err_is d e h = cc

pub not_err : {A : Type 0} (x : A) (e : Fault) → Ok x ≡ failed {A = A} e → ⊥
not_err x e h = cc

-- where steps fail, the first fails, or it succeeds and the next one fails
pub bind_err : {A B : Type 0} (r : Result A Fault) (f : A → Result B Fault) (e : Fault) → (r >>= f) ≡ Err e → (r ≡ Err e) ⊎ ((x : A) × (r ≡ Ok x) × (f x ≡ Err e))
bind_err {A} (Ok x) f e h = inr (x, refl, h)
bind_err {A} {B} (Err d) f e h = inl (ap (λ (d : Fault). failed {A = A} d) (err_is {A = B} d e h))

-- a step that only adds to what was read fails with it
pub made_err : {A B : Type 0} (r : Result A Fault) (f : A → B) (e : Fault) → (r >>= λ x. Ok (f x)) ≡ Err e → r ≡ Err e
made_err (Ok x) f e h = absurd (not_err (f x) e h)
made_err {A} {B} (Err d) f e h = ap (λ (d : Fault). failed {A = A} d) (err_is {A = B} d e h)

-- a choice, and which way it went
pub chosen : {A : Type 0} (b : Bool) (x y z : A) → cond b x y ≡ z → ((b ≡ true) × (x ≡ z)) ⊎ ((b ≡ false) × (y ≡ z))
chosen true x y z e = inl (refl, e)
chosen false x y z e = inr (refl, e)

pub and_then_ok : {A B : Type 0} (r : Result A Fault) (x : A) (f : A → Result B Fault) → r ≡ Ok x → (r >>= f) ≡ f x
and_then_ok r x f e = rw e refl

pub and_then_err : {A B : Type 0} (r : Result A Fault) (fault : Fault) (f : A → Result B Fault) → r ≡ Err fault → (r >>= f) ≡ Err fault
and_then_err r fault f e = rw e refl

-- what a test tells of its opposite
pub not_true : (b r : Bool) → r ≡ b → r ≡ true → not b ≡ false
not_true b r e h = rw (sym e, h) refl

pub not_false : (b r : Bool) → r ≡ b → r ≡ false → not b ≡ true
not_false b r e h = rw (sym e, h) refl
