use Rattle.std.proofs.Common.{arith, inl, inr, pos}
use Rattle.std.proofs.lemmas.Int.{by_lt_z}
use Rattle.calendar_count.proofs.lemmas.Signed.{signed}
use Rattle.calendar_spans.proofs.duration.one_sign.Goals as goal
use Rattle.calendar_spans.proofs.duration.one_sign.Goals.{else-seconds-gt0-via-then-seconds-gt0+else-nanoseconds-lt0, else-seconds-gt0-via-else-seconds-gt0, else-seconds-lt0-via-then-seconds-lt0+else-nanoseconds-gt0, else-seconds-lt0-via-else-seconds-lt0}

pub returns-then-nanoseconds-lt0-clause-whole : goal.returns-then-nanoseconds-lt0-clause-whole
returns-then-nanoseconds-lt0-clause-whole c = omega (arith, signed)

pub returns-then-nanoseconds-lt0-clause-parts : goal.returns-then-nanoseconds-lt0-clause-parts
returns-then-nanoseconds-lt0-clause-parts c =
    record { low = omega (arith, signed); high = omega (arith, signed); same_sign = inl (omega (arith, signed), omega (arith, signed)) }

pub returns-then-nanoseconds-gt0-clause-whole : goal.returns-then-nanoseconds-gt0-clause-whole
returns-then-nanoseconds-gt0-clause-whole c = omega (arith, signed)

pub returns-then-nanoseconds-gt0-clause-parts : goal.returns-then-nanoseconds-gt0-clause-parts
returns-then-nanoseconds-gt0-clause-parts c =
    record { low = omega (arith, signed); high = omega (arith, signed); same_sign = inr (omega (arith, signed), omega (arith, signed)) }

pub returns-else-seconds-lt0-clause-whole : goal.returns-else-seconds-lt0-clause-whole
returns-else-seconds-lt0-clause-whole c = omega (arith, signed)

pub returns-else-seconds-lt0-clause-parts : goal.returns-else-seconds-lt0-clause-parts
returns-else-seconds-lt0-clause-parts c =
    record {
      low = omega (arith, signed);
      high = omega (arith, signed);
      same_sign =
          elim c.else-seconds-gt0.branch [
            | else-seconds-gt0-via-then-seconds-gt0+else-nanoseconds-lt0 w ↦ inl (omega (arith, signed), omega (arith, signed))
            | else-seconds-gt0-via-else-seconds-gt0 w ↦
                elim c.else-seconds-lt0.branch [
                  | else-seconds-lt0-via-then-seconds-lt0+else-nanoseconds-gt0 v ↦ inr (omega (arith, signed), omega (arith, signed))
                  | else-seconds-lt0-via-else-seconds-lt0 v ↦
                      by_lt_z c.args.nanoseconds (pos 0)
                      (λ below. inr (omega (arith, signed), omega (arith, signed)))
                      (λ above. inl (omega (arith, signed), omega (arith, signed)))
                ]
          ];
    }
