use Rattle.std.proofs.Common.{arith}
use Rattle.calendar_count.proofs.lemmas.Signed.{signed}
use Rattle.datetime_types.specs.Unix.{unix_nanos}
use Rattle.datetime_types.proofs.UnixLemmas.{wall_parts}
use Rattle.datetime_types.proofs.timestamp.Timestamp.from_utc.Goals as goal

pub returns-clause-value : goal.returns-clause-value
unfolding unix_nanos
returns-clause-value c = omega (arith, signed, wall_parts c.args.utc)
