use Rattle.std.proofs.Common.{arith}
use Rattle.calendar_count.proofs.lemmas.Signed.{signed}
use Rattle.datetime.proofs.LawLemmas.{only_some}
use Rattle.datetime.proofs.laws.timestamp_at_difference.Goals as goal

pub returns : goal.returns
returns c =
    only_some _ _ c.args.end (c.checked_add.ensures.some.1 (omega (arith, signed, c.sub.ensures), omega (arith, signed, c.sub.ensures)))
    c.checked_add.ensures.value
    (λ n e. omega (arith, signed, e, c.sub.ensures))
