use Rattle.std.proofs.Common.{arith, ◌≢◌, pos}
use Rattle.std.proofs.lemmas.Grind.{common_steps}
use Rattle.calendar_spans.proofs.TextLemmas.{text_of_parts}
use Rattle.calendar_spans.proofs.text.UnfilledDisplay.fmt.Goals as goal

pub returns-clause-writes : goal.returns-clause-writes
returns-clause-writes g c =
    let zero = c.is_zero.ensures.value in
    let some : c.args.self.now.0 ≢ pos 0 = λ none. let yes = zero.1 none in cc in
    rw (text_of_parts c.args.self.now.0 c.length_parts-seconds.result.0 c.length_parts-seconds.result.1 some c.length_parts-seconds.ensures.seconds c.length_parts-seconds.ensures.nanoseconds) (grind (arith, common_steps))
