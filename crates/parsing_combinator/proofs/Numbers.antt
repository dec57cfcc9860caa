-- Numbers read digit by digit.
use Rattle.std.proofs.Common.{lit<, ◌≡◌, ℕ, ◌+◌, ◌-◌, ◌*◌, ◌^◌, ◌<◌, ◌≤◌, List, length, get_or, take, arith}
use Rattle.std.specs.Str.Parse.{digits_value}
use Rattle.std.proofs.lemmas.List.Sums.{prefix_len_passes}
use Rattle.std.proofs.lemmas.Int.Digits.{digits_value_more}
use Rattle.std.proofs.lemmas.Nat.{pow-add}
use Rattle.std.proofs.Math.Nat.{pow-le-pow_right}
use Rattle.parsing_combinator.specs.Pieces.{digit_count}
use Rattle.std.proofs.lemmas.Bool.Decides.{nat_tests}

-- what is needed at one more digit of a number
pub record Next (prefix : List ℕ) (i value : ℕ) : Type 0 where
  pub low : 48 ≤ get_or prefix i 0
  pub high : get_or prefix i 0 ≤ 57
  pub more : value * 10 + (get_or prefix i 0 - 48) ≡ digits_value 10 (take (i + 1) prefix)
  pub bound : value * 10 + (get_or prefix i 0 - 48) < 10 ^ (i + 1)

pub below_most : (most i value : ℕ) → i < most → value < 10 ^ i → value * 10 + 9 < 10 ^ most
below_most most i value lt below =
    let least : 10 ^ (i + 1) ≤ 10 ^ most = pow-le-pow_right {n = 10} (lit< tt) {i = i + 1} {j = most} (omega arith) in
    omega (arith, pow-add 10 i 1, below, least)

pub next_digit : (prefix : List ℕ) (i value : ℕ) → digit_count prefix ≡ length prefix → i < length prefix → value ≡ digits_value 10 (take i prefix) → value < 10 ^ i → Next prefix i value
next_digit prefix i value all lt is below = grind (arith, nat_tests, prefix_len_passes, digits_value_more, pow-add)

pub nine_fit : (x k : ℕ) → x < 10 ^ k → k ≤ 9 → x < 1_000_000_000
nine_fit x k lt le = omega (arith, pow-le-pow_right {n = 10} (lit< tt) {i = k} {j = 9} le)
