-- Years whose digits are the same.
use Rattle.std.proofs.Common.{◌≡◌, ℕ, ◌≤◌, ◌==◌, w32, sym, ap, ◌∙◌, arith}
use Rattle.std.specs.Prelude.{IsTrue}
use Rattle.std.specs.Int.{from_le_bytes, to_le_bytes}
use Rattle.std.specs.Str.Parse.{digits_value}
use Rattle.std.proofs.lemmas.Bool.Decides.{nat_tests}
use Rattle.std.proofs.lemmas.Nat.{le_bytes_4}
use Rattle.parsing_values.specs.Decimal.{decimal}
use Rattle.parsing_values.proofs.lemmas.Decimals.{decimal_length, decimal_count, decimal_value, digits_fit}

read_back : (x n : ℕ) → x ≤ 9999 → n ≡ from_le_bytes w32 (decimal 4 x) → digits_value 10 (to_le_bytes w32 n) ≡ x
read_back x n small is =
    let all = decimal_count 4 x ∙ sym (decimal_length 4 x) in
    ap (digits_value 10) (le_bytes_4 (decimal 4 x) n (decimal_length 4 x) (digits_fit (decimal 4 x) all) is) ∙ decimal_value 4 x (omega (arith, small))

pub same_year : (x y p q : ℕ) → x ≤ 9999 → y ≤ 9999 → p ≡ from_le_bytes w32 (decimal 4 x) → q ≡ from_le_bytes w32 (decimal 4 y)
    → (IsTrue (p == q) → x ≡ y) × (x ≡ y → IsTrue (p == q))
same_year x y p q hx hy one other = (
  λ test. let same : p ≡ q = grind (arith, nat_tests) in sym (read_back x p hx one) ∙ ap (λ n. digits_value 10 (to_le_bytes w32 n)) same ∙ read_back y q hy other,
  λ same. let bytes : p ≡ q = one ∙ ap (λ n. from_le_bytes w32 (decimal 4 n)) same ∙ sym other in grind (arith, nat_tests),
)
