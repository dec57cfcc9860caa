-- Readings made of tame parts are tame.
use Rattle.std.proofs.Common.{ℕ, ◌++◌, Bool, cond, List, [], ◌∷◌, take, drop, Option, Some, None, Result, Ok, Err, refl, sym, ap, ◌∙◌, take-append-drop}
use Rattle.std.specs.Borrow.{Bor}
use Rattle.std.specs.Prelude.{IfOk, IfErr, nat_le, option_map}
use Rattle.std.proofs.lemmas.List.{append_assoc}
use Rattle.calendar_count.specs.declared.component_range.ComponentRange.{ComponentRange}
use Rattle.parsing_combinator.specs.Fault.{Fault}
use Rattle.parsing_combinator.specs.FaultOf.{Gives, fault_of, reading_fault}
use Rattle.parsing_combinator.specs.Pieces.{digit_count, digits, digit_run, fraction, byte_of, skip_of}
use Rattle.parsing_combinator.specs.Readings.{Reading, piece_or, then_read, require, entered, resolved, end, value_read}
use Rattle.parsing_combinator.specs.ShortName.{HasShortName}
use Rattle.parsing_combinator.specs.Tame.{EndsWith, Leaves, Tame}
use Rattle.parsing_combinator.specs.declared.fault.Parse.{Parse}
use Rattle.parsing_combinator.specs.declared.fault.ParseFromDescription.{ParseFromDescription}
use Rattle.std.proofs.Common.{arith}
use Rattle.std.proofs.lemmas.Bool.Decides.{nat_tests}

-- ---- ends

pub whole_end : (bytes : List ℕ) → EndsWith bytes bytes
whole_end bytes = ([], refl)

pub joined : (bytes between rest : List ℕ) → EndsWith bytes between → EndsWith between rest → EndsWith bytes rest
joined bytes between rest one other = (one.0 ++ other.0, one.1 ∙ ap (λ t. one.0 ++ t) other.1 ∙ sym (append_assoc one.0 other.0 rest))

pub dropped : (k : ℕ) (bytes : List ℕ) → EndsWith bytes (drop k bytes)
dropped k bytes = (take k bytes, sym (take-append-drop k bytes))

pub after_one : (c : ℕ) (rest : List ℕ) → EndsWith (c ∷ rest) rest
after_one c rest = (c ∷ [], refl)

-- ---- pieces

pub kept_leaves : {A B : Type 0} (f : A → B) (bytes : List ℕ) (o : Option (A × List ℕ)) → Leaves bytes o → Leaves bytes (option_map (λ x. (f x.0, x.1)) o)
kept_leaves f bytes o h = grind (arith, nat_tests)

cut_leaves : {A : Type 0} (b : Bool) (x : A) (k : ℕ) (bytes : List ℕ) → Leaves bytes (cond b (Some (x, drop k bytes)) None)
cut_leaves b x k bytes = grind (arith, nat_tests, dropped)

pub digits_leaves : (n : ℕ) (bytes : List ℕ) → Leaves bytes (digits n bytes)
unfolding digits
digits_leaves n bytes = cut_leaves (nat_le n (digit_count bytes)) _ n bytes

pub byte_leaves : (p : ℕ → Bool) (bytes : List ℕ) → Leaves bytes (byte_of p bytes)
unfolding byte_of
byte_leaves p [] = tt
byte_leaves p (c ∷ rest) = cut_leaves (p c) c 1 (c ∷ rest)

pub skip_leaves : (p : ℕ → Bool) (bytes : List ℕ) → Leaves bytes (skip_of p bytes)
unfolding skip_of
skip_leaves p [] = tt
skip_leaves p (c ∷ rest) = cut_leaves (p c) tt 1 (c ∷ rest)

run_leaves_by : {A : Type 0} (b : Bool) (x : A) (k : ℕ) (bytes : List ℕ) → Leaves bytes (cond b None (Some (x, drop k bytes)))
run_leaves_by b x k bytes = grind (arith, nat_tests, dropped)

pub run_leaves : (bytes : List ℕ) → Leaves bytes (digit_run bytes)
unfolding digit_run
run_leaves bytes = run_leaves_by _ _ (digit_count bytes) bytes

pub fraction_leaves : (bytes : List ℕ) → Leaves bytes (fraction bytes)
unfolding fraction
fraction_leaves bytes = kept_leaves _ bytes (digit_run bytes) (run_leaves bytes)

-- ---- readings

pub piece_tame : {A : Type 0} (f : Fault) (bytes : List ℕ) (o : Option (A × List ℕ)) → Leaves bytes o → HasShortName f → Tame bytes (piece_or f o)
piece_tame f bytes o h short = grind (arith, nat_tests)

-- after what was read comes what is read of the rest
pub further : {B : Type 0} (bytes between : List ℕ) (r : Result (B × List ℕ) Fault) → EndsWith bytes between → Tame between r → Tame bytes r
further bytes between (Ok x) h t = joined bytes between x.1 h t
further bytes between (Err f) h t = t

pub then_tame : {A B : Type 0} (bytes : List ℕ) (r : Result (A × List ℕ) Fault) (f : A → Reading B) → Tame bytes r → ((x : A) (rest : List ℕ) → Tame rest (f x rest)) → Tame bytes (then_read r f)
then_tame bytes r f h k = grind (arith, nat_tests, further)

pub require_tame : (b : Bool) (f : Fault) (bytes : List ℕ) → HasShortName f → Tame bytes (require b f bytes)
require_tame b f bytes h = grind (arith, nat_tests)

pub resolved_tame : {A : Type 0} (r : Result A ComponentRange) (bytes : List ℕ) → Tame bytes (resolved r bytes)
resolved_tame r bytes = grind (arith, nat_tests)

pub end_tame : (bytes : List ℕ) → Tame bytes (end bytes)
end_tame bytes = grind (arith, nat_tests)

pub entered_tame : {A B : Type 0} (bytes : List ℕ) (o : Option (A × List ℕ)) (due : A → Reading B) (other : Reading B) → Leaves bytes o → ((x : A) (rest : List ℕ) → Tame rest (due x rest)) → Tame bytes (other bytes) → Tame bytes (entered o due other bytes)
entered_tame bytes o due other h k m = grind (arith, nat_tests, further)

-- ---- what a function returns

-- that reads the prefix of the bytes
pub prefix_ends : {X Y : Type 0} (view : X → Y) (result : Result (X × Bor (List ℕ)) ParseFromDescription) (bytes : List ℕ) (read : Result (Y × List ℕ) Fault) → Gives (λ x. (view x.0, x.1.now)) reading_fault result read → Tame bytes read → IfOk result (λ x. EndsWith bytes x.1.now)
prefix_ends view result bytes read given t = grind (arith, nat_tests)

pub prefix_short : {X Y : Type 0} (view : X → Y) (result : Result (X × Bor (List ℕ)) ParseFromDescription) (bytes : List ℕ) (read : Result (Y × List ℕ) Fault) → Gives (λ x. (view x.0, x.1.now)) reading_fault result read → Tame bytes read → IfErr result (λ e. HasShortName (reading_fault e))
prefix_short view result bytes read given t = grind (arith, nat_tests)

-- that reads all of the bytes
pub value_given_short : {X Y : Type 0} (view : X → Y) (result : Result X Parse) (bytes : List ℕ) (read : Result (Y × List ℕ) Fault) → Gives view fault_of result (value_read read) → Tame bytes read → IfErr result (λ e. HasShortName (fault_of e))
value_given_short view result bytes read given t = grind (arith, nat_tests)
