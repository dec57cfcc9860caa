use borrow.Author.Count.{below_more}
use Rattle.std.proofs.Common.{◌≡◌, ℕ, true, false, get_or}
use Rattle.instants_found.specs.Ranges.{is_within}
use Rattle.instants_found.proofs.starts.are_within.Goals as goal

pub loop-byte-preserved : goal.loop-byte-preserved
loop-byte-preserved c =
    below_more (λ (b : ℕ). is_within c.args.range.now b ≡ false → get_or c.args.table.now b true ≡ false) c.loop-byte.byte c.loop-byte.invariant (c.is_within.ensures c.if-not-is_within.false)
