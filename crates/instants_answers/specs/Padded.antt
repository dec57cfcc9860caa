-- A list in an array of 64 bytes, with zeros after it.
use Rattle.std.specs.Prelude.{◌≡◌, ℕ, ◌+◌, ◌-◌, ◌≤◌, ℤ, List, ◌++◌, length, take, drop, replicate, slice_set}
use Rattle.base.specs.Bytes.{line_feed}
use Rattle.instants_answers.specs.Text.{offset_text}
use Rattle.std.proofs.Common.{sym, ap, ◌∙◌, arith, take-append-drop, length-take-le, length-set}
use Rattle.std.proofs.lemmas.List.{drop-set-lt, drop-drop, drop-replicate}

-- the list and zeros
abbrev pub padded : List ℕ → List ℕ
padded v = v ++ replicate (64 - length v) 0

-- the text of an offset and zeros, eight bytes in all
abbrev pub padded_offset : ℤ → List ℕ
padded_offset z = offset_text z ++ replicate (8 - length (offset_text z)) 0

-- the same with a line feed after the text
abbrev pub ended_offset : ℤ → List ℕ
ended_offset z = slice_set (padded_offset z) (length (offset_text z)) line_feed

abbrev pub offset_len : ℤ → ℕ
offset_len z = length (offset_text z)

-- len bytes are in use, and the others are zero
pub record IsPadded (len : ℕ) (bytes : List ℕ) : Type 0 where
  pub within : len ≤ 64
  pub size : length bytes ≡ 64
  pub zeros : drop len bytes ≡ replicate (64 - len) 0

pub padded-take : (len : ℕ) (bytes : List ℕ) → IsPadded len bytes → (length (take len bytes) ≡ len) × (padded (take len bytes) ≡ bytes)
padded-take len bytes p =
    let size : length (take len bytes) ≡ len = length-take-le len bytes (omega (arith, p.size, p.within)) in
    (size, ap (λ (n : ℕ). take len bytes ++ replicate (64 - n) 0) size ∙ ap (λ (l : List ℕ). take len bytes ++ l) (sym p.zeros) ∙ take-append-drop len bytes)

pub IsPadded-push : (len b : ℕ) (bytes : List ℕ) → IsPadded len bytes → len + 1 ≤ 64 → IsPadded (len + 1) (slice_set bytes len b)
IsPadded-push len b bytes p room = record {
  within = room;
  size = length-set bytes len b ∙ p.size;
  zeros = drop-set-lt (len + 1) bytes len b (omega arith) ∙ sym (drop-drop 1 len bytes) ∙ ap (drop 1) p.zeros ∙ drop-replicate 1 (64 - len) 0 ∙ ap (λ (n : ℕ). replicate n 0) (omega arith);
}
