-- Lemmas on known bytes.
use Rattle.std.proofs.Common.{◌≡◌, ℕ, List, ◌++◌, Option, None, Some, sym, ap, ◌∙◌, append_assoc}
use Rattle.std.proofs.Common.{Bool, true, false, Result, Ok, Err, OnOk, OnErr}
use Rattle.std.specs.Prelude.{IsErrAnd}
use Rattle.std.specs.Result.{is_err}
use Rattle.std.specs.Io.KnownBytes.{Appends}
use Rattle.std.proofs.KnownBytes.{Appends-trans}
use Rattle.instants_stream.specs.Known.{StaysOrUnknown, AppendsPrefix}
use Rattle.instants_stream.specs.Wrote.{Wrote}
use Rattle.instants_stream.specs.declared.devices.ByteWriter as writer

-- some bytes were appended, and the rest were not
pub AppendsPrefix-stays : (a b c : Option (List ℕ)) (prefix rest bytes : List ℕ) → bytes ≡ prefix ++ rest → Appends a b prefix → StaysOrUnknown b c → AppendsPrefix a c bytes
AppendsPrefix-stays None b c prefix rest bytes e p q = tt
AppendsPrefix-stays (Some x) None c prefix rest bytes e p q = absurd p
AppendsPrefix-stays (Some x) (Some y) None prefix rest bytes e p q = tt
AppendsPrefix-stays (Some x) (Some y) (Some z) prefix rest bytes e p q = (prefix, rest, e, q ∙ p)

-- some bytes were appended, and then a prefix of others
pub AppendsPrefix-after : (a b c : Option (List ℕ)) (xs ys : List ℕ) → Appends a b xs → AppendsPrefix b c ys → AppendsPrefix a c (xs ++ ys)
AppendsPrefix-after None b c xs ys p q = tt
AppendsPrefix-after (Some x) None c xs ys p q = absurd p
AppendsPrefix-after (Some x) (Some y) None xs ys p q = tt
AppendsPrefix-after (Some x) (Some y) (Some z) xs ys p q =
    (xs ++ q.0, q.1, ap (λ (l : List ℕ). xs ++ l) q.2 ∙ sym (append_assoc xs q.0 q.1), q.3 ∙ ap (λ (l : List ℕ). l ++ q.0) p ∙ append_assoc x xs q.0)

-- a prefix of the bytes was appended, and of more bytes too
pub AppendsPrefix-more : (a c : Option (List ℕ)) (xs ys : List ℕ) → AppendsPrefix a c xs → AppendsPrefix a c (xs ++ ys)
AppendsPrefix-more None c xs ys p = tt
AppendsPrefix-more (Some x) None xs ys p = tt
AppendsPrefix-more (Some x) (Some z) xs ys p =
    (p.0, p.1 ++ ys, ap (λ (l : List ℕ). l ++ ys) p.2 ∙ append_assoc p.0 p.1 ys, p.3)

-- what a result's clause says, after a test of it
pub on_ok : {T E P : Type 0} (r : Result T E) (b : Bool) → b ≡ is_err r → b ≡ false → OnOk r P → P
on_ok (Ok x) b e f h = h
on_ok (Err y) b e f h = absurd cc

pub on_err : {T E P : Type 0} (r : Result T E) (b : Bool) → b ≡ is_err r → b ≡ true → OnErr r P → P
on_err (Ok x) b e f h = absurd cc
on_err (Err y) b e f h = h

module _ {W T E : Type 0} (to : writer.Ghosts W) (w between w_new : W) where
  -- what a write that failed did
  pub wrote_err : (r : Result T E) (bytes : List ℕ) (Q : E → Type 0) → IsErrAnd r Q
      → AppendsPrefix (to.held w) (to.held w_new) bytes → to.failed w_new ≡ true → Wrote to w w_new r bytes
  wrote_err (Ok x) bytes Q is prefix failed = absurd is
  wrote_err (Err e) bytes Q is prefix failed = (tt, tt, prefix, failed)

  -- a write after another that ended well
  pub wrote_after : (r : Result T E) (xs ys : List ℕ) → Appends (to.held w) (to.held between) xs
      → to.failed between ≡ to.failed w → Wrote to between w_new r ys → Wrote to w w_new r (xs ++ ys)
  wrote_after (Ok x) xs ys first same then = (Appends-trans (to.held w) (to.held between) (to.held w_new) xs ys first then.0, then.1 ∙ same, tt, tt)
  wrote_after (Err e) xs ys first same then = (tt, tt, AppendsPrefix-after (to.held w) (to.held between) (to.held w_new) xs ys first then.2, then.3)
