use Rattle.std.proofs.Common.{◌≡◌, ◌/◌, ◌%◌, refl, arith}
use Rattle.parsing_values.specs.Digits.{nine_digits}
use Rattle.parsing_values.specs.DigitsBack.{last_back}
use Rattle.parsing_values.proofs.DigitLemmas.{kept}
use Rattle.parsing_values.proofs.fraction.Fraction.padded_digits.Goals as goal

pub returns-clause-text : goal.returns-clause-text
unfolding nine_digits
returns-clause-text c =
    let last = c.self.inside.last in
    let byte : last % 256 ≡ last = omega (arith, last_back c.self.inside.first last c.self.invariant) in
    rw (c.to_le_bytes.ensures, c.to_le_bytes-2.ensures, byte) (kept _ _ _ c.self.invariant c.self.view_is).text

pub returns-clause-bound : goal.returns-clause-bound
returns-clause-bound c = (kept _ _ _ c.self.invariant c.self.view_is).bound

pub returns-clause-zeros : goal.returns-clause-zeros
returns-clause-zeros c =
    let last = c.self.inside.last in
    let is = last_back c.self.inside.first last c.self.invariant in
    let one : last / 256 % 256 ≡ 0 = omega (arith, is) in
    let two : last / 65536 % 256 ≡ 0 = omega (arith, is) in
    let three : last / 16777216 % 256 ≡ 0 = omega (arith, is) in
    let four : last / 4294967296 % 256 ≡ 0 = omega (arith, is) in
    let five : last / 1099511627776 % 256 ≡ 0 = omega (arith, is) in
    let six : last / 281474976710656 % 256 ≡ 0 = omega (arith, is) in
    let seven : last / 72057594037927936 % 256 ≡ 0 = omega (arith, is) in
    rw (c.to_le_bytes-2.ensures, one, two, three, four, five, six, seven) refl
