use Rattle.std.proofs.Common.{arith}
use Rattle.description_strftime.proofs.Cuts.{ascii_cut}
use Rattle.description_strftime.proofs.conversions.flag.Goals as goal

pub cut-requires : goal.cut-requires
cut-requires c = rw (← c.as_bytes.ensures.value) (ascii_cut c.as_bytes.result.now c.as_bytes.ensures.utf8 (omega (arith, c.in-len1-up.len_at_least)) c.in-Some.ensures.ascii)
