-- What is read of all of some bytes is read of their prefix, whatever stands after them.
use Rattle.std.proofs.Common.{◌≡◌, ◌<◌, ◌≤◌, ℕ, Bool, true, false, List, [], ◌++◌, length, take, drop, Option, Some, None, Result, Ok, Err, refl, arith}
use Rattle.std.specs.Prelude.{codes}
use Rattle.std.proofs.lemmas.Bool.Decides.{nat_tests}
use Rattle.std.proofs.lemmas.List.{take-append-le, drop-append-le, take-append-drop, drop_all}
use Rattle.std.proofs.lemmas.List.Folds.{prefix_len-append}
use Rattle.std.proofs.lemmas.List.Sums.{prefix_len-le-length}
use Rattle.parsing_combinator.specs.Fault.{Fault, component}
use Rattle.parsing_combinator.specs.Pieces.{digits, digit_count, digit_run, byte_of, skip_of, fraction}
use Rattle.parsing_combinator.specs.Readings.{Reading, piece_or, then_read, give, require}
use Rattle.parsing_combinator.specs.declared.zone.Zone.{Zone}
use Rattle.parsing_rfc3339.specs.declared.parts.Rfc3339Parts.{Rfc3339Parts}
use Rattle.parsing_rfc3339.specs.Reading.{date, clock, due_fraction, subsecond, zulu, signed_offset, offset, rfc3339}

-- what a piece cuts off bytes it cuts off those with more after them
abbrev PieceOn : {A : Type 0} → List ℕ → Option (A × List ℕ) → Option (A × List ℕ) → Type 0
PieceOn b None q = Unit {0}
PieceOn b (Some x) q = q ≡ Some (x.0, x.1 ++ b)

-- the same of a reading
abbrev GoesOn : {A : Type 0} → List ℕ → Result (A × List ℕ) Fault → Result (A × List ℕ) Fault → Type 0
GoesOn b (Err f) q = Unit {0}
GoesOn b (Ok x) q = q ≡ Ok (x.0, x.1 ++ b)

then_on : {A B : Type 0} (b : List ℕ) (p q : Result (A × List ℕ) Fault) (f : A → Reading B) → GoesOn b p q → ((v : A) (r : List ℕ) → GoesOn b (f v r) (f v (r ++ b))) → GoesOn b (then_read p f) (then_read q f)
then_on b p q f h k = grind (arith, nat_tests)

piece_on : {A : Type 0} (b : List ℕ) (fault : Fault) (p q : Option (A × List ℕ)) → PieceOn b p q → GoesOn b (piece_or fault p) (piece_or fault q)
piece_on b fault p q h = grind (arith, nat_tests)

require_on : (c : Bool) (fault : Fault) (a b : List ℕ) → GoesOn b (require c fault a) (require c fault (a ++ b))
require_on c fault a b = grind (arith, nat_tests)

skip_on : (p : ℕ → Bool) (a b : List ℕ) → PieceOn b (skip_of p a) (skip_of p (a ++ b))
unfolding skip_of
skip_on p a b = grind (arith, nat_tests)

byte_on : (p : ℕ → Bool) (a b : List ℕ) → PieceOn b (byte_of p a) (byte_of p (a ++ b))
unfolding byte_of
byte_on p a b = grind (arith, nat_tests)

no_fewer : (a b : List ℕ) → digit_count a ≤ digit_count (a ++ b)
no_fewer a b = grind (arith, nat_tests, prefix_len-append)

digits_on : (n : ℕ) (a b : List ℕ) → PieceOn b (digits n a) (digits n (a ++ b))
unfolding digits
digits_on n a b = grind (arith, nat_tests, no_fewer, prefix_len-le-length, take-append-le, drop-append-le)

-- a fraction that does not end the bytes
fraction_on : (a b : List ℕ) → digit_count a < length a → PieceOn b (fraction a) (fraction (a ++ b))
unfolding fraction digit_run
fraction_on a b lt = grind (arith, nat_tests, prefix_len-append, take-append-le, drop-append-le)

ruleset goes_on = (then_on, piece_on, require_on, skip_on, byte_on, digits_on)

signed_on : (is : Bool) (a b : List ℕ) → GoesOn b (signed_offset is a) (signed_offset is (a ++ b))
unfolding signed_offset
signed_on is a b = search goes_on depth 20 fits 5000

-- an offset is due
no_offset : (is : Bool) → offset is [] ≡ Err (component (codes "offset hour"))
unfolding offset zulu signed_offset byte_of skip_of
no_offset is = refl

abbrev zulu_zone : Zone
zulu_zone = record { is_named = true; is_negative = false; hours = 0; minutes = 0 }

offset_on : (is : Bool) (a b : List ℕ) → GoesOn b (offset is a) (offset is (a ++ b))
unfolding offset zulu skip_of
offset_on is a b = grind (arith, nat_tests, no_offset, signed_on)

-- an offset, and what the numbers make
abbrev zoned : Bool → (Zone → Rfc3339Parts) → Reading Rfc3339Parts
zoned is make bytes = then_read (offset is bytes) (λ z. give (make z))

zoned_on : (is : Bool) (make : Zone → Rfc3339Parts) (a b : List ℕ) → GoesOn b (zoned is make a) (zoned is make (a ++ b))
zoned_on is make a b = then_on b _ _ _ (offset_on is a b) (λ z r. refl)

-- maybe a fraction before it
abbrev ending : Bool → (Option ℕ → Zone → Rfc3339Parts) → Reading Rfc3339Parts
ending is make bytes = then_read (subsecond bytes) (λ n. zoned is (make n))

-- where digits end the bytes, no offset is there
at_end : (is : Bool) (make : Option ℕ → Zone → Rfc3339Parts) (xs b : List ℕ) (q : Result (Rfc3339Parts × List ℕ) Fault) → digit_count xs ≡ length xs → GoesOn b (then_read (due_fraction xs) (λ n. zoned is (make n))) q
unfolding due_fraction fraction digit_run
at_end is make xs b q all = grind (arith, nat_tests, drop_all, no_offset)

fraction_ending : (is : Bool) (make : Option ℕ → Zone → Rfc3339Parts) (xs b : List ℕ) → GoesOn b (then_read (due_fraction xs) (λ n. zoned is (make n))) (then_read (due_fraction (xs ++ b)) (λ n. zoned is (make n)))
unfolding due_fraction
fraction_ending is make xs b = grind (arith, nat_tests, at_end, prefix_len-le-length, then_on, piece_on, fraction_on, zoned_on)

ending_on : (is : Bool) (make : Option ℕ → Zone → Rfc3339Parts) (a b : List ℕ) → GoesOn b (ending is make a) (ending is make (a ++ b))
unfolding subsecond skip_of
ending_on is make a b = grind (arith, nat_tests, no_offset, fraction_ending, zoned_on)

rfc3339_on : (is : Bool) (a b : List ℕ) → GoesOn b (rfc3339 is a) (rfc3339 is (a ++ b))
unfolding rfc3339 date clock
rfc3339_on is a b = search (goes_on, ending_on) depth 40 fits 50000

-- so many bytes are read whole
pub prefix_read : (is : Bool) (bytes : List ℕ) (n : ℕ) (w : Rfc3339Parts) → rfc3339 is (take n bytes) ≡ Ok (w, []) → rfc3339 is bytes ≡ Ok (w, drop n bytes)
prefix_read is bytes n w read = let goes = rfc3339_on is (take n bytes) (drop n bytes) in
    rw (read, take-append-drop n bytes) at goes
