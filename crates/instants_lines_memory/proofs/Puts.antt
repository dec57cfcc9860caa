-- Two texts, put one after the other.
use Rattle.std.proofs.Common.{◌≡◌, ℕ, ◌+◌, ◌-◌, ◌<◌, ◌≤◌, List, [], ◌++◌, take, drop, length, refl, sym, ap, ◌∙◌, arith, append_assoc, append-nil, length-append, take-append-drop}
use Rattle.std.specs.Prelude.{Result, Ok, Err, IfOk, OnErr}
use Rattle.std.proofs.lemmas.List.{length-take-le, take-append-le}
use Rattle.std.proofs.Math.Seq.{take-append-add}
use Rattle.instants_stream.proofs.Pieces.{after_later}
use Rattle.instants_stream.specs.declared.put.TooLittleRoom.{TooLittleRoom}
use Rattle.instants_lines_memory.specs.Put.{IsFull, IsPut}

-- both are put
both_put : (r0 r1 r2 : List ℕ) (at middle end : ℕ) (x y : List ℕ) → IsPut r0 at x middle r1 → IsPut r1 middle y end r2 → IsPut r0 at (x ++ y) end r2
both_put r0 r1 r2 at middle end x y p q =
    let long : length (x ++ y) ≡ length x + length y = length-append x y in
    let later : drop (middle + length y) r1 ≡ drop (middle + length y) r0 = after_later r1 r0 middle (length y) p.rest in
    record {
      end_is = omega (arith, long, p.end_is, q.end_is);
      within = omega (arith, q.within, p.size);
      prefix = q.prefix ∙ ap (λ (l : List ℕ). l ++ y) p.prefix ∙ append_assoc (take at r0) x y;
      rest = q.rest ∙ ap (λ (n : ℕ). drop n r1) q.end_is ∙ later ∙ ap (λ (n : ℕ). drop n r0) (sym q.end_is);
      size = q.size ∙ p.size;
    }

-- the first has no room
pub first_full : (r0 r1 : List ℕ) (at : ℕ) (x y : List ℕ) → IsFull r0 at x r1 → IsFull r0 at (x ++ y) r1
first_full r0 r1 at x y p =
    let long : length (x ++ y) ≡ length x + length y = length-append x y in
    let fits : length r0 - at ≤ length x = omega (arith, p.less) in
    record {
      less = omega (arith, long, p.less);
      full = p.full ∙ ap (λ (l : List ℕ). take at r0 ++ l) (sym (take-append-le (length r0 - at) x y fits));
    }

-- the second has none
second_full : (r0 r1 r2 : List ℕ) (at middle : ℕ) (x y : List ℕ) → IsPut r0 at x middle r1 → IsFull r1 middle y r2 → IsFull r0 at (x ++ y) r2
second_full r0 r1 r2 at middle x y p q =
    let long : length (x ++ y) ≡ length x + length y = length-append x y in
    let split : length r0 - at ≡ length x + (length r1 - middle) = omega (arith, p.end_is, p.within, p.size) in
    let cut : take (length r0 - at) (x ++ y) ≡ x ++ take (length r1 - middle) y = ap (λ (n : ℕ). take n (x ++ y)) split ∙ take-append-add x y (length r1 - middle) in
    record {
      less = omega (arith, long, p.end_is, p.size, q.less);
      full = q.full ∙ ap (λ (l : List ℕ). l ++ take (length r1 - middle) y) p.prefix ∙ append_assoc (take at r0) x (take (length r1 - middle) y) ∙ ap (λ (l : List ℕ). take at r0 ++ l) (sym cut);
    }

-- the same by how the second ended
pub then_put : (result : Result ℕ TooLittleRoom) (r0 r1 r2 : List ℕ) (at middle : ℕ) (x y : List ℕ) → IsPut r0 at x middle r1
    → IfOk result (λ end. IsPut r1 middle y end r2) → IfOk result (λ end. IsPut r0 at (x ++ y) end r2)
then_put (Ok end) r0 r1 r2 at middle x y p q = both_put r0 r1 r2 at middle end x y p q
then_put (Err fault) r0 r1 r2 at middle x y p q = tt

pub then_full : (result : Result ℕ TooLittleRoom) (r0 r1 r2 : List ℕ) (at middle : ℕ) (x y : List ℕ) → IsPut r0 at x middle r1
    → OnErr result (IsFull r1 middle y r2) → OnErr result (IsFull r0 at (x ++ y) r2)
then_full (Ok end) r0 r1 r2 at middle x y p q = tt
then_full (Err fault) r0 r1 r2 at middle x y p q = second_full r0 r1 r2 at middle x y p q

pub ruleset in_turn = (first_full, then_put, then_full)
