use Rattle.std.proofs.Common.{arith}
use Rattle.description_strftime.proofs.Cuts.{character_le, character_cut}
use Rattle.description_strftime.proofs.conversions.character_len.Goals as goal

pub overflow_add-result : goal.overflow_add-result
overflow_add-result c = rw (c.continuation_len.ensures.value, c.split_at.ensures.back, c.as_bytes.ensures.value) (let le = character_le c.args.text.now c.requires in omega (arith, le, c.as_bytes.ensures.len))

pub returns-clause-boundary : goal.returns-clause-boundary
returns-clause-boundary c = rw (c.continuation_len.ensures.value, c.split_at.ensures.back, c.as_bytes.ensures.value) (character_cut c.args.text.now c.requires)
