-- Runs of bytes, and numbers read digit by digit.
use Rattle.std.proofs.Common.{◌≡◌, ℕ, Bool, true, ◌+◌, ◌-◌, ◌*◌, ◌<◌, ◌≤◌, List, length, get_or, take, arith}
use Rattle.std.specs.Char.{is_ascii_digit, digit_value}
use Rattle.std.specs.List.{prefix_len}
use Rattle.std.specs.Str.Parse.{digits_value}
use Rattle.std.proofs.lemmas.Bool.Decides.{nat_tests}
use Rattle.std.proofs.lemmas.List.{length-take-le, get_or-take}
use Rattle.std.proofs.lemmas.List.Sums.{prefix_len_is, prefix_len_passes, prefix_len-le-length}
use Rattle.std.proofs.lemmas.Int.Digits.{digits_value_more}
use Rattle.std.proofs.lemmas.Str.Parse.{digits_value-take-le}

pub run_within : (passes : ℕ → Bool) (text : List ℕ) → prefix_len passes text ≤ length text
run_within passes text = prefix_len-le-length passes text

-- a run of digits has digits alone
pub all_digits : (text : List ℕ) → prefix_len is_ascii_digit (take (prefix_len is_ascii_digit text) text) ≡ length (take (prefix_len is_ascii_digit text) text)
all_digits text =
    let n : ℕ = prefix_len is_ascii_digit text in
    let fits : n ≤ length text = prefix_len-le-length is_ascii_digit text in
    let long : length (take n text) ≡ n = length-take-le n text fits in
    prefix_len_is is_ascii_digit (take n text) (length (take n text)) 0 (omega arith)
    (λ k lt. let below : k < n = omega arith in rw (get_or-take n text k 0 below) (prefix_len_passes is_ascii_digit text k 0 (omega arith)))
    (λ lt. absurd (omega arith))

digit_here : (c : ℕ) → is_ascii_digit c ≡ true → (48 ≤ c) × (c ≤ 57) × (digit_value c ≡ c - 48)
digit_here c h = grind (arith, nat_tests)

-- what is needed at one more digit of a number
pub record Next (digits : List ℕ) (i value : ℕ) : Type 0 where
  pub low : 48 ≤ get_or digits i 0
  pub high : get_or digits i 0 ≤ 57
  pub more : value * 10 + (get_or digits i 0 - 48) ≡ digits_value 10 (take (i + 1) digits)
  pub within : value * 10 + (get_or digits i 0 - 48) ≤ digits_value 10 digits

pub next_digit : (digits : List ℕ) (i value : ℕ) → prefix_len is_ascii_digit digits ≡ length digits → i < length digits → value ≡ digits_value 10 (take i digits) → Next digits i value
next_digit digits i value all lt is =
    let here = digit_here (get_or digits i 0) (prefix_len_passes is_ascii_digit digits i 0 (omega arith)) in
    let more : value * 10 + (get_or digits i 0 - 48) ≡ digits_value 10 (take (i + 1) digits) = omega (arith, digits_value_more 10 digits i lt, here.2, is) in
    record {
      low = here.0;
      high = here.1;
      more = more;
      within = omega (arith, more, digits_value-take-le 10 digits (i + 1) (omega arith));
    }
