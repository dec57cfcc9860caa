-- What a reading that came to an end says of its pieces.
use Rattle.std.proofs.Common.{◌≡◌, ℕ, Bool, true, false, List, [], ◌∷◌, Option, Some, None, Result, Ok, Err, refl, ap}
use Rattle.calendar_count.specs.declared.component_range.ComponentRange.{ComponentRange}
use Rattle.parsing_combinator.specs.Fault.{Fault}
use Rattle.parsing_combinator.specs.Readings.{Reading, then_read, piece_or, require, resolved, end, value_read}

abbrev pub ended : {B : Type 0} → B × List ℕ → Result (B × List ℕ) Fault
ended x = Ok x

pub same_end : {B : Type 0} (x y : B × List ℕ) → ended x ≡ ended y → x ≡ y
same_end x y h = cc

-- the same of three numbers
pub three_ended : (x y z : ℕ) (bytes rest : List ℕ) (t : ℕ × ℕ × ℕ) → ended ((x, y, z), bytes) ≡ ended (t, rest) → (x ≡ t.0) × (y ≡ t.1) × (z ≡ t.2) × (bytes ≡ rest)
three_ended x y z bytes rest t h =
    let e = same_end ((x, y, z), bytes) (t, rest) h in
    let n = ap (λ (p : (ℕ × ℕ × ℕ) × List ℕ). p.0) e in
    (ap (λ (p : ℕ × ℕ × ℕ). p.0) n, ap (λ (p : ℕ × ℕ × ℕ). p.1) n, ap (λ (p : ℕ × ℕ × ℕ). p.2) n, ap (λ (p : (ℕ × ℕ × ℕ) × List ℕ). p.1) e)

-- the piece was there, and what follows it came to the same end
pub due_piece : {A B C : Type 0} (f : Fault) (o : Option (A × List ℕ)) (g : A → Reading B) (last : B × List ℕ) → then_read (piece_or f o) g ≡ Ok last → ((a : A) (rest : List ℕ) → o ≡ Some (a, rest) → g a rest ≡ Ok last → C) → C
due_piece f None g last h on = absurd (cc)
due_piece f (Some x) g last h on = on x.0 x.1 refl h

-- the check passed
pub due_check : {B C : Type 0} (b : Bool) (f : Fault) (bytes : List ℕ) (g : Unit {0} → Reading B) (last : B × List ℕ) → then_read (require b f bytes) g ≡ Ok last → (b ≡ true → g tt bytes ≡ Ok last → C) → C
due_check true f bytes g last h on = on refl h
due_check false f bytes g last h on = absurd (cc)

-- the part was read
pub due_part : {A B C : Type 0} (r : Result (A × List ℕ) Fault) (g : A → Reading B) (last : B × List ℕ) → then_read r g ≡ Ok last → ((a : A) (rest : List ℕ) → r ≡ Ok (a, rest) → g a rest ≡ Ok last → C) → C
due_part (Ok x) g last h on = on x.0 x.1 refl h
due_part (Err f) g last h on = absurd (cc)

-- the value is in range
pub due_value : {A B C : Type 0} (r : Result A ComponentRange) (bytes : List ℕ) (g : A → Reading B) (last : B × List ℕ) → then_read (resolved r bytes) g ≡ Ok last → ((a : A) → r ≡ Ok a → g a bytes ≡ Ok last → C) → C
due_value (Ok x) bytes g last h on = on x refl h
due_value (Err e) bytes g last h on = absurd (cc)

-- nothing followed
pub due_end : {B C : Type 0} (bytes : List ℕ) (g : Unit {0} → Reading B) (last : B × List ℕ) → then_read (end bytes) g ≡ Ok last → (bytes ≡ [] → g tt [] ≡ Ok last → C) → C
due_end [] g last h on = on refl h
due_end (c ∷ cs) g last h on = absurd (cc)

-- the last value
pub last_value : {A : Type 0} (r : Result A ComponentRange) (bytes : List ℕ) (last : A × List ℕ) → resolved r bytes ≡ Ok last → r ≡ Ok last.0
last_value {A = A} (Ok x) bytes last h = ap (λ (p : A × List ℕ). Ok p.0) (same_end (x, bytes) last h)
last_value (Err e) bytes last h = absurd (cc)

pub due_whole : {A C : Type 0} (r : Result (A × List ℕ) Fault) (a : A) → value_read r ≡ Ok a → ((rest : List ℕ) → r ≡ Ok (a, rest) → C) → C
due_whole (Ok x) a h on = on x.1 (let same : x.0 ≡ a = cc in rw (← same) refl)
due_whole (Err f) a h on = absurd (cc)
