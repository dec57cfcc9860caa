-- The first bytes of a stream, as they were read.
use Rattle.std.proofs.Common.{◌≡◌, ℕ, ◌<◌, ◌≤◌, ◌⊎◌, List, [], ◌++◌, length, take, drop, Option, None, Some, IfSome, sym, ap, ◌∙◌, subst, arith, append-nil, length-take-le, inl, inr}
use Rattle.std.proofs.Math.ListN.{drop_of_length-le}
use Rattle.std.proofs.Math.Nat.{eq-or-lt_of_le}
use Rattle.std.proofs.Math.Seq.{drop-append_seam}
use Rattle.std.specs.Io.KnownBytes.{Consumes, IsAtEnd}
use Rattle.instants_guess.specs.Tallies.{most}

-- as many bytes as are looked at, or all, of which there are fewer
left_of : (stream prefix rest : List ℕ) → stream ≡ prefix ++ rest → (length prefix ≡ most) ⊎ (length prefix < most) → (length prefix < most → rest ≡ []) → rest ≡ drop most stream
left_of stream prefix rest e (inl all) ends = sym (ap (drop most) e ∙ subst (λ n. drop n (prefix ++ rest) ≡ rest) all (drop-append_seam prefix rest))
left_of stream prefix rest e (inr few) ends =
    let whole : stream ≡ prefix = e ∙ (ap (λ l. prefix ++ l) (ends few) ∙ append-nil prefix) in
    let short : length prefix ≤ most = omega (arith, few) in
    ends few ∙ sym (ap (drop most) whole ∙ drop_of_length-le prefix short)

sampled : (left left_new : Option (List ℕ)) (prefix : List ℕ) → Consumes left left_new prefix → length prefix ≤ most → (length prefix < most → IsAtEnd left_new) → IfSome left (λ stream. left_new ≡ Some (drop most stream))
sampled None left_new prefix read few ends = tt
sampled (Some stream) None prefix read few ends = absurd read
sampled (Some stream) (Some rest) prefix read few ends = ap Some (left_of stream prefix rest read (eq-or-lt_of_le few) ends)

-- what was read into a buffer
pub read_into : (left left_new : Option (List ℕ)) (buffer : List ℕ) (len : ℕ) → Consumes left left_new (take len buffer) → len ≤ length buffer → length buffer ≡ most → (len < length buffer → IsAtEnd left_new) → IfSome left (λ stream. left_new ≡ Some (drop most stream))
read_into left left_new buffer len read within size ends =
    let count : length (take len buffer) ≡ len = length-take-le len buffer within in
    sampled left left_new (take len buffer) read (omega (arith, count, within, size)) (λ few. ends (omega (arith, few, count, size)))
