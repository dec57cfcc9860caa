use Rattle.description_strftime.proofs.Cuts.{plain_cut}
use Rattle.description_strftime.proofs.conversions.plain_len.Goals as goal

pub returns-clause-boundary : goal.returns-clause-boundary
returns-clause-boundary c = rw (c.plain_run.ensures.value, c.as_bytes.ensures.value) (plain_cut c.args.text.now)
