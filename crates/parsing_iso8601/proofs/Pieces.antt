-- What the pieces say of one another.
use Rattle.std.proofs.Common.{◌≡◌, ℕ, ◌+◌, ◌≤◌, ◌==◌, ◌||◌, Bool, true, false, cond, List, [], ◌∷◌, length, take, drop, Option, Some, None, refl, sym, ap, ◌∙◌, arith, length-append, take-append-drop}
use Rattle.std.specs.Prelude.{option_map}
use Rattle.std.specs.Char.{is_ascii_digit}
use Rattle.std.proofs.lemmas.Bool.Decides.{nat_tests}
use Rattle.parsing_combinator.specs.Pieces.{digits, digit_run, fraction, nanoseconds_of, byte, skip_of, byte_of, sign, digit_count}
use Rattle.std.proofs.lemmas.List.Sums.{prefix_len_passes}
use Rattle.parsing_combinator.proofs.Decimal.{digit_here}
use Rattle.parsing_combinator.proofs.FractionDigits.{digits_read}
use Rattle.parsing_iso8601.specs.Numbers.{decimal_mark}

-- one value is there
pub same : {A : Type 0} (x y : A) → Some x ≡ Some y → x ≡ y
same x y h = cc

-- what stands after a test was there, so the test passed
pub passed : {A : Type 0} (b : Bool) (v x : A) → cond b (Some v) None ≡ Some x → b ≡ true
passed true v x e = refl
passed false v x e = absurd (cc)

pub not_passed : {A : Type 0} (b : Bool) (v x : A) → cond b None (Some v) ≡ Some x → v ≡ x
not_passed true v x e = absurd (cc)
not_passed false v x e = same v x e

-- the first of so many digits
pub first_digit : (n : ℕ) (c : ℕ) (cs : List ℕ) (x : ℕ × List ℕ) → 1 ≤ n → digits n (c ∷ cs) ≡ Some x → is_ascii_digit c ≡ true
first_digit n c cs x some e = prefix_len_passes is_ascii_digit (c ∷ cs) 0 0 (omega (arith, (digits_read n (c ∷ cs) x.0 x.1 e).enough, some))

-- digits have no sign and no decimal mark before them
pub no_sign : (n : ℕ) (bytes : List ℕ) (x : ℕ × List ℕ) → 1 ≤ n → digits n bytes ≡ Some x → sign bytes ≡ None
unfolding byte_of
no_sign n [] x some e = refl
no_sign n (c ∷ cs) x some e =
    let d = digit_here c (first_digit n c cs x some e) in
    let t : ((c == 43) || (c == 45)) ≡ false = grind (arith, nat_tests) in
    rw t refl

pub no_mark : (n : ℕ) (bytes : List ℕ) (x : ℕ × List ℕ) → 1 ≤ n → digits n bytes ≡ Some x → decimal_mark bytes ≡ None
unfolding decimal_mark skip_of
no_mark n [] x some e = refl
no_mark n (c ∷ cs) x some e =
    let d = digit_here c (first_digit n c cs x some e) in
    let t : ((c == 46) || (c == 44)) ≡ false = grind (arith, nat_tests) in
    rw t refl

-- nor any other byte that is no digit
pub no_byte : (a n : ℕ) (bytes : List ℕ) (x : ℕ × List ℕ) → is_ascii_digit a ≡ false → 1 ≤ n → digits n bytes ≡ Some x → byte a bytes ≡ None
unfolding skip_of
no_byte a n [] x other some e = refl
no_byte a n (c ∷ cs) x other some e =
    let d = first_digit n c cs x some e in
    let t : (c == a) ≡ false = grind (arith, nat_tests, d, other) in
    rw t refl

-- a byte is no other one
pub only_byte : (a : ℕ) (bytes : List ℕ) (x : Unit {0} × List ℕ) → (a == 46) ≡ false → (a == 44) ≡ false → byte a bytes ≡ Some x → decimal_mark bytes ≡ None
unfolding decimal_mark skip_of
only_byte a [] x dot comma e = refl
only_byte a (c ∷ cs) x dot comma e =
    let is : (c == a) ≡ true = passed (c == a) _ x e in
    let t : ((c == 46) || (c == 44)) ≡ false = grind (arith, nat_tests) in
    rw t refl

-- the digits that are there, and the rest
pub run_length : (bytes run rest : List ℕ) → digit_run bytes ≡ Some (run, rest) → length run + length rest ≡ length bytes
unfolding digit_run
run_length bytes run rest e =
    let k = digit_count bytes in
    let p : (take k bytes, drop k bytes) ≡ (run, rest) = not_passed (k == 0) (take k bytes, drop k bytes) (run, rest) e in
    let r : take k bytes ≡ run = ap (λ (x : List ℕ × List ℕ). x.0) p in
    let s : drop k bytes ≡ rest = ap (λ (x : List ℕ × List ℕ). x.1) p in
    rw (← r, ← s) (sym (length-append (take k bytes) (drop k bytes)) ∙ ap length (take-append-drop k bytes))

-- a value that was made of one that was there
pub mapped : {A B C : Type 0} (f : A → B) (o : Option (A × List ℕ)) (v : B) (rest : List ℕ) → option_map {U = B × List ℕ} (λ x. (f x.0, x.1)) o ≡ Some (v, rest) → ((a : A) → o ≡ Some (a, rest) → f a ≡ v → C) → C
mapped f None v rest h on = absurd (cc)
mapped {B = B} f (Some x) v rest h on =
    let p = same (f x.0, x.1) (v, rest) h in
    let e : x.1 ≡ rest = ap (λ (y : B × List ℕ). y.1) p in
    on x.0 (ap (λ (t : List ℕ). Some (x.0, t)) e) (ap (λ (y : B × List ℕ). y.0) p)

pub fraction_run : {C : Type 0} (bytes : List ℕ) (n : ℕ) (rest : List ℕ) → fraction bytes ≡ Some (n, rest) → ((run : List ℕ) → digit_run bytes ≡ Some (run, rest) → nanoseconds_of run ≡ n → C) → C
unfolding fraction
fraction_run bytes n rest h on = mapped nanoseconds_of (digit_run bytes) n rest h on
