use Rattle.std.proofs.Common.{◌≡◌, [], ◌∷◌, rules, codes, pos, to_z, of_z, to_z-of_z, w32}
use Rattle.std.specs.Prelude.{int_lt, unsigned_abs, if◌then◌else◌}
use Rattle.instants_answers.proofs.TargetLemmas.{zulu, zulu_len, Signs, signed_text, signed_len}
use Rattle.instants_answers.proofs.target.offset_text.Goals as goal

pub returns-then-seconds-eq0-clause-text : goal.returns-then-seconds-eq0-clause-text
returns-then-seconds-eq0-clause-text c = zulu c.args.seconds (search rules)

pub returns-then-seconds-eq0-clause-len : goal.returns-then-seconds-eq0-clause-len
returns-then-seconds-eq0-clause-len c = zulu_len c.args.seconds (search rules)

signs : (c : goal.After-sign) → Signs c.args.seconds c.sign.result
signs c =
    let z = c.args.seconds in
    let kept : to_z w32 (of_z w32 z) ≡ z = to_z-of_z c.ranges.seconds in
    let sign : c.sign.result ∷ [] ≡ (if int_lt (to_z w32 (of_z w32 z)) (pos 0) then codes "-" else codes "+") = c.sign.ensures in
    record { not_zero = search rules; sign = rw kept at sign; range = c.requires.range }

pub returns-clause-text : goal.returns-clause-text
returns-clause-text c =
    let whole : c.unsigned_abs-minutes.result ≡ unsigned_abs c.args.seconds = search rules in
    signed_text c.args.seconds c.sign.result _ _ _ _ (signs c) (rw (← whole) c.digit_pair-hours.ensures.tens) (rw (← whole) c.digit_pair-hours.ensures.ones) (rw (← whole) c.digit_pair-minutes.ensures.tens) (rw (← whole) c.digit_pair-minutes.ensures.ones)

pub returns-clause-len : goal.returns-clause-len
returns-clause-len c = signed_len c.args.seconds c.sign.result (signs c)
