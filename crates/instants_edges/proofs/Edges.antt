-- Edges by the bytes beside them.
use Rattle.std.proofs.Common.{◌≡◌, ℕ, ◌+◌, List, get_or, Bool, true, false, ◌&&◌, not, ◌==◌, refl, arith}
use Rattle.std.specs.Prelude.{if◌then◌else◌}
use Rattle.std.specs.Char.{is_ascii_digit, is_ascii_alphanumeric}
use Rattle.std.proofs.lemmas.Bool.Decides.{nat_tests}
use Rattle.base.specs.Bytes.{dot}
use Rattle.instants_edges.specs.Edge.{byte_before, ends_sequence, is_inside_clock, goes_on, is_edge}

edge_by : (word goes point sequence : Bool) (third second before after next : ℕ) → is_ascii_alphanumeric before ≡ word → is_ascii_alphanumeric after ≡ goes → (after == dot) ≡ point
    → not (goes_on sequence third second before after next) ≡
    (if word then (if goes then sequence else if point then not (is_ascii_digit next) else not (is_inside_clock third second before after next))
    else if before == dot && goes then not (is_ascii_digit second) else true)
edge_by true true point true third second before after next e f g = grind (arith, nat_tests)
edge_by true true point false third second before after next e f g = rw (e, f) refl
edge_by true false true sequence third second before after next e f g = grind (arith, nat_tests)
edge_by true false false sequence third second before after next e f g = grind (arith, nat_tests)
edge_by false goes point sequence third second before after next e f g = grind (arith, nat_tests)

-- whether a line has an edge at a place, by the bytes on either side
pub edge_is : (line : List ℕ) (place : ℕ) → is_edge line place ≡
    (if is_ascii_alphanumeric (byte_before line place 1) then (if is_ascii_alphanumeric (get_or line place 0) then ends_sequence line place else if get_or line place 0 == dot then not (is_ascii_digit (get_or line (place + 1) 0)) else not (is_inside_clock (byte_before line place 3) (byte_before line place 2) (byte_before line place 1) (get_or line place 0) (get_or line (place + 1) 0)))
    else if byte_before line place 1 == dot && is_ascii_alphanumeric (get_or line place 0) then not (is_ascii_digit (byte_before line place 2)) else true)
edge_is line place = edge_by _ _ _ (ends_sequence line place) (byte_before line place 3) (byte_before line place 2) (byte_before line place 1) (get_or line place 0) (get_or line (place + 1) 0) refl refl refl
