-- Bytes put after those of an array that are in use.
use Rattle.std.proofs.Common.{◌≡◌, ℕ, ◌+◌, ◌-◌, ◌≤◌, List, ◌++◌, length, take, drop, replicate, sym, ap, ◌∙◌, arith, append_assoc, length-append, length-drop, length-take-le, take-append-drop}
use Rattle.std.proofs.lemmas.List.{take_at, drop_at, drop-replicate, replicate-append-replicate}
use Rattle.instants_answers.specs.Padded.{IsPadded}
use borrow.Rule.Slice.PartMut.{put_mid}

module _ (len n k : ℕ) (bytes more : List ℕ) (p : IsPadded len bytes) (size : length more ≡ n) (same : k ≡ n) (room : len + n ≤ 64) where
  prefix_length : length (take len bytes ++ more) ≡ len + n
  prefix_length = length-append (take len bytes) more ∙ omega (arith, length-take-le len bytes (omega (arith, p.size, p.within)), size)

  whole : put_mid len k bytes more ≡ (take len bytes ++ more) ++ drop k (drop len bytes)
  whole = sym (append_assoc (take len bytes) more (drop k (drop len bytes)))

  pub IsPadded_append : IsPadded (len + n) (put_mid len k bytes more)
  IsPadded_append = record {
    within = room;
    size = ap length whole ∙ length-append (take len bytes ++ more) (drop k (drop len bytes)) ∙ omega (arith, prefix_length, length-drop k (drop len bytes), length-drop len bytes, p.size, same, room);
    zeros = ap (drop (len + n)) whole ∙ drop_at (take len bytes ++ more) (drop k (drop len bytes)) (len + n) prefix_length ∙ ap (drop k) p.zeros ∙ drop-replicate k (64 - len) 0 ∙ ap (λ (m : ℕ). replicate m 0) (omega (arith, same));
  }

  pub take_append : take (len + n) (put_mid len k bytes more) ≡ take len bytes ++ more
  take_append = ap (take (len + n)) whole ∙ take_at (take len bytes ++ more) (drop k (drop len bytes)) (len + n) prefix_length

  -- some of more are in use, and the others are zero
  module _ (used : ℕ) (few : used ≤ n) (zeros : drop used more ≡ replicate (n - used) 0) where
    parts : put_mid len k bytes more ≡ (take len bytes ++ take used more) ++ (drop used more ++ drop k (drop len bytes))
    parts =
        ap (λ (m : List ℕ). take len bytes ++ (m ++ drop k (drop len bytes))) (sym (take-append-drop used more))
        ∙ ap (λ (l : List ℕ). take len bytes ++ l) (append_assoc (take used more) (drop used more) (drop k (drop len bytes)))
        ∙ sym (append_assoc (take len bytes) (take used more) (drop used more ++ drop k (drop len bytes)))

    used_length : length (take len bytes ++ take used more) ≡ len + used
    used_length = length-append (take len bytes) (take used more) ∙ omega (arith, length-take-le len bytes (omega (arith, p.size, p.within)), length-take-le used more (omega (arith, size, few)))

    pub IsPadded_padded : IsPadded (len + used) (put_mid len k bytes more)
    IsPadded_padded = record {
      within = omega (arith, room, few);
      size = IsPadded_append.size;
      zeros = ap (drop (len + used)) parts ∙ drop_at (take len bytes ++ take used more) (drop used more ++ drop k (drop len bytes)) (len + used) used_length
          ∙ ap (λ (l : List ℕ). l ++ drop k (drop len bytes)) zeros ∙ ap (λ (l : List ℕ). replicate (n - used) 0 ++ l) (ap (drop k) p.zeros ∙ drop-replicate k (64 - len) 0)
          ∙ replicate-append-replicate (n - used) (64 - len - k) 0 ∙ ap (λ (m : ℕ). replicate m 0) (omega (arith, same, few, room));
    }

    pub take_padded : take (len + used) (put_mid len k bytes more) ≡ take len bytes ++ take used more
    take_padded = ap (take (len + used)) parts ∙ take_at (take len bytes ++ take used more) (drop used more ++ drop k (drop len bytes)) (len + used) used_length
