-- Lemmas on a writer that gathers bytes.
use Rattle.std.proofs.Common.{◌≡◌, ℕ, ◌+◌, ◌-◌, ◌≤◌, List, ◌++◌, Option, None, Some, length, take, drop, refl, sym, ap, ◌∙◌, subst, arith, take-append-drop, append-nil, take-take, Result, Ok, Err, OnOk, OnErr}
use Rattle.std.proofs.lemmas.List.{drop-take, drop-append-le, length-take-le}
use Rattle.std.proofs.Math.Seq.{drop-drop, drop-nil, take-append-add}
use Rattle.std.specs.Io.KnownBytes.{Appends, Keeps, append_known}
use Rattle.std.proofs.KnownBytes.{append_known-moved, append_known-grown, Keeps-refl}
use Rattle.instants_stream.specs.Gathering.{gathered}

-- the writer below took some of what was gathered
pub gathered-moved : (below next : Option (List ℕ)) (block : List ℕ) (start end count : ℕ) → start ≤ end
    → Appends below next (take count (take (end - start) (drop start block))) → Keeps (gathered below block start end) (gathered next block (start + count) end)
gathered-moved below next block start end count ordered moved =
    let here = drop start (take end block) in
    let range : here ≡ take (end - start) (drop start block) = (let e : end ≡ start + (end - start) = omega arith in ap (λ (n : ℕ). drop start (take n block)) e) ∙ drop-take start (end - start) block in
    let taken : Appends below next (take count here) = subst (λ (l : List ℕ). Appends below next (take count l)) (sym range) moved in
    let left : drop count here ≡ drop (start + count) (take end block) = drop-drop count start (take end block) in
    subst (λ (l : List ℕ). Keeps (append_known below here) (append_known next l)) left
    (append_known-moved below next (take count here) (drop count here) here taken (sym (take-append-drop count here)))

-- bytes were put after those gathered
pub gathered-grown : (below : Option (List ℕ)) (old new bytes : List ℕ) (start end : ℕ) → start ≤ end → end ≤ length old
    → take (end + length bytes) new ≡ take end old ++ bytes → Appends (gathered below old start end) (gathered below new start (end + length bytes)) bytes
gathered-grown below old new bytes start end ordered within put =
    append_known-grown (append_known below (drop start (take end old))) below (drop start (take end old)) (drop start (take (end + length bytes) new)) bytes
    (Keeps-refl (append_known below (drop start (take end old))))
    (ap (drop start) put ∙ drop-append-le start (take end old) bytes (omega (arith, length-take-le end old within)))

-- more bytes were put after those gathered than count
pub gathered-prefix : (below : Option (List ℕ)) (old new bytes : List ℕ) (start end len : ℕ) → start ≤ end → end ≤ length old → len ≤ length bytes
    → take (end + length bytes) new ≡ take end old ++ bytes → Appends (gathered below old start end) (gathered below new start (end + len)) (take len bytes)
gathered-prefix below old new bytes start end len ordered within few put =
    let size : length (take len bytes) ≡ len = length-take-le len bytes few in
    let there : take (length (take end old) + len) (take end old ++ bytes) ≡ take end old ++ take len bytes = take-append-add (take end old) bytes len in
    let shorter : take (end + len) new ≡ take end old ++ take len bytes =
    sym (take-take (end + len) (end + length bytes) new (omega arith)) ∙ ap (take (end + len)) put ∙ (rw (length-take-le end old within) at there) in
    rw size at (gathered-grown below old new (take len bytes) start end ordered within (rw size shorter))

-- where nothing is gathered all is held below
gathered-none : (below : Option (List ℕ)) (block : List ℕ) (start end : ℕ) → end ≡ 0 → gathered below block start end ≡ below
gathered-none None block start end none = refl
gathered-none (Some z) block start end none = ap Some (rw none (ap (λ (l : List ℕ). z ++ l) (drop-nil start) ∙ append-nil z))

pub gathered-below : (below : Option (List ℕ)) (block : List ℕ) (start end : ℕ) → end ≡ 0 → Keeps (gathered below block start end) below
gathered-below below block start end none = subst (λ (all : Option (List ℕ)). Keeps all below) (sym (gathered-none below block start end none)) (Keeps-refl below)

-- All that was gathered is held below, and then something is done there: the same is done to all.
pub done_below : (R : Option (List ℕ) → Option (List ℕ) → Type 0) → ((new : Option (List ℕ)) → R None new)
    → (all below next : Option (List ℕ)) (block : List ℕ) (start end : ℕ) → Keeps all below → end ≡ 0 → R below next → R all (gathered next block start end)
done_below R unknown None below next block start end kept none done = unknown (gathered next block start end)
done_below R unknown (Some x) None next block start end kept none done = absurd kept
done_below R unknown (Some x) (Some y) next block start end kept none done =
    subst (λ (new : Option (List ℕ)). R (Some x) new) (sym (gathered-none next block start end none)) (subst (λ (l : List ℕ). R (Some l) next) kept done)

-- what follows from a result's clause
pub OnOk-map : {T E P Q : Type 0} (r : Result T E) → (P → Q) → OnOk r P → OnOk r Q
OnOk-map (Ok x) f h = f h
OnOk-map (Err e) f h = tt

pub OnErr-map : {T E P Q : Type 0} (r : Result T E) → (P → Q) → OnErr r P → OnErr r Q
OnErr-map (Ok x) f h = tt
OnErr-map (Err e) f h = f h

-- a fact holds of a fault too
pub on_any_err : {T E P : Type 0} (r : Result T E) → P → OnErr r P
on_any_err (Ok x) h = tt
on_any_err (Err e) h = h
