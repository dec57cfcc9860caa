use Rattle.std.proofs.Common.{◌≡◌, ℕ, List, ◌+◌, ◌-◌, ◌≤◌, ◌++◌, length, take, drop, refl, sym, ap, ◌∙◌, subst, arith, length-take}
use Rattle.std.proofs.KnownBytes.{Consumes-trans}
use Rattle.std.specs.Io.KnownBytes.{Consumes}
use Rattle.std.proofs.lemmas.Grind.{common_steps}
use Rattle.std.proofs.Math.Seq.{take-append-add}
use Rattle.std.proofs.lemmas.List.{take-append-le, length-take-le}
use Rattle.std.proofs.lemmas.Result.{err_from_is_err_and}
use Rattle.instants_stream.proofs.Ends.{ConsumesOrUnknown-stays}
use Rattle.instants_stream.proofs.Pending.{size_kept}
use Rattle.instants_guess.proofs.sample.read_sample.Goals as goal
use borrow.Rule.Slice.PartMut.{put_mid}

pieces : (buffer into : List ℕ) (filled count k : ℕ) → filled ≤ length buffer → count ≤ length into → take (filled + count) (put_mid filled k buffer into) ≡ take filled buffer ++ take count into
pieces buffer into filled count k fits within =
    let after = drop k (drop filled buffer) in
    let size : length (take filled buffer) ≡ filled = length-take-le filled buffer fits in
    let prefix = take-append-add (take filled buffer) (into ++ after) count in
    subst (λ n. take (n + count) (put_mid filled k buffer into) ≡ take filled buffer ++ take count (into ++ after)) size prefix
    ∙ ap (λ l. take filled buffer ++ l) (take-append-le count into after within)

pub returns-in_err-count-clause-consumed : goal.returns-in_err-count-clause-consumed
returns-in_err-count-clause-consumed g c =
    let p = err_from_is_err_and c.from_residual.result c.from_residual.ensures.1 in
    let i = c.loop-filled.invariant in
    let prefix = take c.loop-filled.filled c.loop-filled.buffer in
    rw p.1 (prefix, simp length-take (omega (arith, i.size)), ConsumesOrUnknown-stays _ _ _ _ i.read c.in_err-count.ensures.kept)

pub loop-filled-preserved : goal.loop-filled-preserved
loop-filled-preserved g c =
    let i = c.loop-filled.invariant in
    let buffer = c.loop-filled.buffer in
    let filled = c.loop-filled.filled in
    let into = c.read.new.into in
    let count = c.in_ok-count.count in
    let k = length buffer - filled in
    let fits : filled ≤ length buffer = omega (arith, i.size, i.within) in
    let into_size : length into ≡ length buffer - filled = grind (arith, common_steps) in
    let more : take (filled + count) (put_mid filled k buffer into) ≡ take filled buffer ++ take count into = pieces buffer into filled count k fits c.in_ok-count.ensures.within in
    let both = Consumes-trans _ _ _ _ _ i.read c.in_ok-count.ensures.moved in
    record {
      within = omega (arith, c.in_ok-count.ensures.within, into_size, i.size, fits);
      size = size_kept buffer into filled k fits refl into_size ∙ i.size;
      read = subst (Consumes _ _) (sym more) both;
      works = c.in_ok-count.ensures.ok ∙ i.works;
    }
