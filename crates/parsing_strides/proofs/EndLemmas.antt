-- What a part leaves is the end of what was there.
use Rattle.std.proofs.Common.{◌≡◌, ℕ, zero, suc, Bool, List, length, take, drop, Option, Some, None, refl}
use Rattle.std.specs.Prelude.{option_map, if◌then◌else◌}
use Rattle.parsing_combinator.specs.Pieces.{byte, nanoseconds_of}
use Rattle.parsing_combinator.specs.Tame.{EndsWith, Leaves}
use Rattle.parsing_combinator.proofs.lemmas.Tame.{dropped, joined, digits_leaves, byte_leaves, skip_leaves}
use Rattle.parsing_combinator.specs.Shape.{Shape, greatest, or_before, prefix, taken}
use Rattle.parsing_layout.specs.Layout.{piece_of, exact_fraction}
use Rattle.parsing_layout.specs.declared.parts.Part.{Part}
use Rattle.parsing_layout.specs.declared.parts.Part.TheVariants as part
use Rattle.std.proofs.Common.{arith}
use Rattle.std.proofs.lemmas.Bool.Decides.{nat_tests}

prefix_leaves : {A : Type 0} (k : ℕ) (bytes : List ℕ) (o : Option A) → Leaves bytes (option_map (λ x. (x, drop k bytes)) o)
prefix_leaves k bytes o = grind (arith, nat_tests, dropped)

or_leaves : {A : Type 0} (bytes : List ℕ) (one other : Option (A × List ℕ)) → Leaves bytes one → Leaves bytes other
    → Leaves bytes (or_before one other)
or_leaves bytes one other h k = grind (arith, nat_tests)

greatest_leaves : {A : Type 0} (shape : Shape A) (bytes : List ℕ) (n : ℕ) → Leaves bytes (greatest (prefix shape bytes) n)
greatest_leaves shape bytes zero = prefix_leaves 0 bytes (shape (take 0 bytes))
greatest_leaves shape bytes (suc n) =
    or_leaves bytes (prefix shape bytes (suc n)) (greatest (prefix shape bytes) n) (prefix_leaves (suc n) bytes (shape (take (suc n) bytes)))
    (greatest_leaves shape bytes n)

taken_leaves : {A : Type 0} (shape : Shape A) (bytes : List ℕ) → Leaves bytes (taken shape bytes)
unfolding taken
taken_leaves shape bytes = greatest_leaves shape bytes (length bytes)

exact_leaves : (b : Bool) (n : ℕ) (bytes : List ℕ) → Leaves bytes (if b then Some (nanoseconds_of (take n bytes), drop n bytes) else None)
exact_leaves b n bytes = grind (arith, nat_tests, dropped)

pub part_leaves : (p : Part) (bytes : List ℕ) → Leaves bytes (piece_of p bytes)
unfolding exact_fraction
part_leaves p bytes = grind (arith, nat_tests, skip_leaves, digits_leaves, taken_leaves, byte_leaves, exact_leaves)

pub left_by : (bytes rest : List ℕ) (n : ℕ) (o : Option (ℕ × List ℕ)) → Leaves bytes o → o ≡ Some (n, rest) → EndsWith bytes rest
left_by bytes rest n o h e = grind (arith, nat_tests)

-- a part after a byte
byte_left : (b : ℕ) (text after : List ℕ) → byte b text ≡ Some (tt, after) → EndsWith text after
byte_left b text after e =
    let there : piece_of (part.Byte b) text ≡ Some (0, after) = rw e refl in
    left_by text after 0 (piece_of (part.Byte b) text) (part_leaves (part.Byte b) text) there

pub later_end : (b : ℕ) (p : Part) (line text after rest : List ℕ) (n : ℕ) → EndsWith line text → byte b text ≡ Some (tt, after)
    → piece_of p after ≡ Some (n, rest) → EndsWith line rest
later_end b p line text after rest n ends first e =
    joined line text rest ends
    (joined text after rest (byte_left b text after first) (left_by after rest n (piece_of p after) (part_leaves p after) e))
