use Rattle.std.proofs.Common.{ℕ, ◌*◌, ◌/◌, ◌%◌, ◌∙◌, ap, arith}
use Rattle.std.specs.Int.Bits.{bit_or}
use Rattle.parsing_rfc2822_shapes.proofs.LetterLemmas.{weekday_there}
use Rattle.parsing_rfc2822_shapes.proofs.letters.has_weekday.Goals as goal

pub returns : goal.returns
returns c = λ e.
    let number = c.four_bytes-word.result in
    let place = bit_or number 2_105_376 * 2466 % 4_294_967_296 / 536_870_912 in
    weekday_there c.args.text.now place c.requires (λ (k : ℕ). omega (arith, c.type_inv.text k)) (omega arith) (c.if-place-word.false ∙ ap (λ (n : ℕ). bit_or n 2_105_376) c.four_bytes-word.ensures) c.if-text-ne32.false
