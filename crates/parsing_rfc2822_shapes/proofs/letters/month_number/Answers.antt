use Rattle.std.proofs.Common.{ℕ, ◌*◌, ◌/◌, ◌%◌, ◌∙◌, ap, arith}
use Rattle.std.specs.Int.Bits.{bit_or}
use Rattle.calendar_count.proofs.lemmas.Steps.{month_bound}
use Rattle.parsing_rfc2822_shapes.proofs.LetterLemmas.{month_there}
use Rattle.parsing_rfc2822_shapes.proofs.letters.month_number.Goals as goal

pub returns-clause-there : goal.returns-clause-there
returns-clause-there c =
    let number = c.four_bytes-word.result in
    let place = bit_or number 538_976_256 * 284 % 4_294_967_296 / 268_435_456 in
    month_there c.args.text.now place c.requires (λ (k : ℕ). omega (arith, c.type_inv.text k)) (omega arith) (c.if-place-word.false ∙ ap (λ (n : ℕ). bit_or n 538_976_256) c.four_bytes-word.ensures)

pub returns-clause-bound : goal.returns-clause-bound
returns-clause-bound c =
    let m = returns-clause-there c in
    (omega (arith, m.number_is, month_bound m.month_is), omega (arith, m.number_is, month_bound m.month_is))
