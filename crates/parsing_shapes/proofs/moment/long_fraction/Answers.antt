use Rattle.std.proofs.Common.{◌≡◌, ◌∙◌, ◌+◌, ◌-◌, take, drop, refl, sym, arith}
use Rattle.std.proofs.lemmas.List.{drop-drop}
use Rattle.parsing_layout.proofs.RunLemmas.{long_written}
use Rattle.parsing_shapes.proofs.moment.long_fraction.Goals as goal

pub returns-clause-writes : goal.returns-clause-writes
returns-clause-writes c =
    let text = c.args.text.now in
    let from = c.args.from in
    let read = c.in-Some.read in
    let nine : from + 9 - from ≡ 9 = omega arith in
    let more = c.are_digits.ensures c.if-not-are_digits.false in
    long_written (drop from text) (take (from + 9 - from) (drop from text)) read.1.now (c.args.end - from) read.0 (omega (arith, c.if-end-from-le-KEPT.false)) (rw nine refl) c.in-Some.ensures.fraction (sym c.is_empty.ensures ∙ c.if-not-is_empty.false) (rw (drop-drop 9 from text) (omega (arith, more)))
