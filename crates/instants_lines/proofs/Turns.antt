-- Two parts, written one after the other.
use Rattle.std.proofs.Common.{◌≡◌, ℕ, true, Option, List, ◌++◌, Result, Ok, Err, OnOk, OnErr, Bool, ◌∙◌}
use Rattle.std.specs.Prelude.{IsErrAnd}
use Rattle.std.specs.Io.KnownBytes.{Appends}
use Rattle.std.proofs.KnownBytes.{Appends-trans}
use Rattle.instants_stream.specs.Known.{AppendsPrefix}
use Rattle.instants_stream.specs.declared.devices.ByteWriter as writer
use Rattle.instants_stream.proofs.Gathering.{OnOk-map, OnErr-map, on_any_err}
use Rattle.instants_stream.proofs.Known.{AppendsPrefix-after, AppendsPrefix-more}
use Rattle.instants_lines.specs.Wrote.{Wrote}

-- the first was written in part
pub first_fails : {T E : Type 0} (r : Result T E) (a c : Option (List ℕ)) (xs ys : List ℕ) → AppendsPrefix a c xs → OnErr r (AppendsPrefix a c (xs ++ ys))
first_fails r a c xs ys first = on_any_err r (AppendsPrefix-more a c xs ys first)

-- the first was written, and the second in part
pub second_fails : {T E : Type 0} (r : Result T E) (a b c : Option (List ℕ)) (xs ys : List ℕ) → Appends a b xs → OnErr r (AppendsPrefix b c ys) → OnErr r (AppendsPrefix a c (xs ++ ys))
second_fails r a b c xs ys first second = OnErr-map r (AppendsPrefix-after a b c xs ys first) second

-- both were written
pub both_written : {T E : Type 0} (r : Result T E) (a b c : Option (List ℕ)) (xs ys : List ℕ) → Appends a b xs → OnOk r (Appends b c ys) → OnOk r (Appends a c (xs ++ ys))
both_written r a b c xs ys first second = OnOk-map r (Appends-trans a b c xs ys first) second

-- and the writer works as before
pub both_work : {T E : Type 0} (r : Result T E) (a b c : Bool) → b ≡ a → OnOk r (c ≡ b) → OnOk r (c ≡ a)
both_work r a b c first second = OnOk-map r (λ s. s ∙ first) second

pub ruleset in_turn = (first_fails, second_fails, both_written, both_work)

-- the write of the first failed
pub wrote_less : {W T E : Type 0} (to : writer.Ghosts W) (w w_new : W) (r : Result T E) (xs ys : List ℕ) (Q : E → Type 0) → IsErrAnd r Q → AppendsPrefix (to.held w) (to.held w_new) xs → to.failed w_new ≡ true → Wrote to w w_new r (xs ++ ys)
wrote_less to w w_new (Ok x) xs ys Q is prefix failed = absurd is
wrote_less to w w_new (Err e) xs ys Q is prefix failed = (tt, tt, AppendsPrefix-more (to.held w) (to.held w_new) xs ys prefix, failed)
