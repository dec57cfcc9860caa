-- The unanswered bytes of the buffer.
use Rattle.std.proofs.Common.{◌≡◌, ℕ, ◌+◌, ◌-◌, ◌≤◌, List, ◌++◌, length, take, drop, sym, ap, ◌∙◌, subst, arith, length-append, length-take, length-drop, append-nil}
use Rattle.std.proofs.lemmas.List.{drop-take, drop-drop, drop-append-le, take-append-le, take_at, length-take-le}
use Rattle.std.proofs.Math.Seq.{take-append-add}
use Rattle.std.specs.List.{copy_within}
use Rattle.std.proofs.lemmas.List.Edits.{take-paste}
use lib.Seq.{paste}
use borrow.Rule.Slice.PartMut.{put_mid}

-- the bytes from start to filled
abbrev pub pending : List ℕ → ℕ → ℕ → List ℕ
pending buffer start filled = take (filled - start) (drop start buffer)

pub length-pending : (buffer : List ℕ) (start filled : ℕ) → filled ≤ length buffer → length (pending buffer start filled) ≡ filled - start
length-pending buffer start filled fits = length-take-le (filled - start) (drop start buffer) (simp length-drop (omega arith))

-- count bytes were read after them
module _ (buffer into : List ℕ) (start filled count k : ℕ) (ordered : start ≤ filled) (fits : filled ≤ length buffer) (within : count ≤ length into) where
  pub pending_more : pending (put_mid filled k buffer into) start (filled + count) ≡ pending buffer start filled ++ take count into
  pending_more =
      let after = drop k (drop filled buffer) in
      let head : drop start (take filled buffer) ≡ take (filled - start) (drop start buffer) = ap (λ (n : ℕ). drop start (take n buffer)) (omega arith) ∙ drop-take start (filled - start) buffer in
      let cut : drop start (put_mid filled k buffer into) ≡ take (filled - start) (drop start buffer) ++ (into ++ after) = drop-append-le start (take filled buffer) (into ++ after) (simp length-take (omega arith)) ∙ ap (λ (l : List ℕ). l ++ (into ++ after)) head in
      let size : filled + count - start ≡ length (take (filled - start) (drop start buffer)) + count = omega (arith, length-pending buffer start filled fits) in
      ap (take (filled + count - start)) cut
      ∙ ap (λ (n : ℕ). take n (take (filled - start) (drop start buffer) ++ (into ++ after))) size
      ∙ take-append-add (take (filled - start) (drop start buffer)) (into ++ after) count
      ∙ ap (λ (l : List ℕ). take (filled - start) (drop start buffer) ++ l) (take-append-le count into after within)

-- the first of them were answered
pub pending_rest : (buffer : List ℕ) (start filled n : ℕ) → start + n ≤ filled → pending buffer (start + n) filled ≡ drop n (pending buffer start filled)
pending_rest buffer start filled n h =
    ap (take (filled - (start + n))) (sym (drop-drop n start buffer)) ∙ sym (drop-take n (filled - (start + n)) (drop start buffer)) ∙ ap (λ (m : ℕ). drop n (take m (drop start buffer))) (omega arith)

-- they were moved to the start of a full buffer
pub pending_moved : (buffer : List ℕ) (start filled n : ℕ) → start ≤ filled → filled ≡ length buffer → n ≡ filled - start → take n (copy_within buffer start (length buffer) 0) ≡ pending buffer start filled
pending_moved buffer start filled n ordered e h =
    let same : length buffer - start ≡ n = omega arith in
    let whole : 0 + n ≡ n = omega arith in
    let moved = take-paste buffer 0 (drop start buffer) n (omega arith) (simp length-drop (omega arith)) in
    rw same (subst (λ (m : ℕ). take m (paste buffer 0 (drop start buffer) n) ≡ take n (drop start buffer)) whole moved ∙ ap (λ (m : ℕ). take m (drop start buffer)) h)

pub size_kept : (buffer into : List ℕ) (filled k : ℕ) → filled ≤ length buffer → k ≡ length buffer - filled → length into ≡ length buffer - filled → length (put_mid filled k buffer into) ≡ length buffer
size_kept buffer into filled k fits e h = simp (length-append, length-take, length-drop) (omega arith)

-- a read of nothing leaves them
pub pending_same : (buffer into : List ℕ) (start filled k : ℕ) → start ≤ filled → filled ≤ length buffer → pending (put_mid filled k buffer into) start filled ≡ pending buffer start filled
pending_same buffer into start filled k ordered fits =
    ap (λ (n : ℕ). take (n - start) (drop start (put_mid filled k buffer into))) (omega arith) ∙ pending_more buffer into start filled 0 k ordered fits (omega arith) ∙ append-nil (pending buffer start filled)

-- the first of them were pending before the read
pub pending_kept : (buffer into : List ℕ) (start filled count k : ℕ) → start ≤ filled → filled ≤ length buffer → count ≤ length into → take (filled - start) (pending (put_mid filled k buffer into) start (filled + count)) ≡ pending buffer start filled
pending_kept buffer into start filled count k ordered fits within =
    ap (take (filled - start)) (pending_more buffer into start filled count k ordered fits within) ∙ take_at (pending buffer start filled) (take count into) (filled - start) (length-pending buffer start filled fits)
