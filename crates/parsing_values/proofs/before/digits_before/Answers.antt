use Rattle.std.proofs.Common.{ℕ, get_or, ◌<◌, arith}
use Rattle.parsing_values.proofs.DigitsBefore.{number, number_fits, of_digits}
use Rattle.parsing_values.proofs.before.digits_before.Goals as goal

pub overflow_add-digits : goal.overflow_add-digits
overflow_add-digits c =
    let fit : (k : ℕ) → get_or c.args.line.now k 0 < 256 = λ k. omega (arith, c.type_inv.line k) in
    rw (c.from_le_bytes-eight.ensures, c.zeros_after.ensures, number c.args.line.now c.args.end c.args.count c.requires.room c.requires.within c.requires.few fit) (number_fits c.args.line.now c.args.end c.args.count c.requires.room c.requires.within c.requires.few fit)

pub returns : goal.returns
returns c =
    let fit : (k : ℕ) → get_or c.args.line.now k 0 < 256 = λ k. omega (arith, c.type_inv.line k) in
    let is = number c.args.line.now c.args.end c.args.count c.requires.room c.requires.within c.requires.few fit in
    of_digits c.args.line.now c.args.end c.args.count c.requires.room c.requires.within c.requires.few fit _ c.requires.some (rw (c.from_le_bytes-eight.ensures, c.zeros_after.ensures) is) c.in_ok-_above.ensures.digits
