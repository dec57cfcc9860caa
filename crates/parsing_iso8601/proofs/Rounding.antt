-- Fractions of a second, rounded and cut.
use Rattle.std.proofs.Common.{◌≡◌, ℕ, ◌+◌, ◌-◌, ◌*◌, ◌/◌, ◌%◌, ◌^◌, ◌<◌, ◌≤◌, false, cond, leb, List, [], ◌∷◌, length, take, drop, get_or, sym, ap, ◌∙◌, arith, lit<, inl, inr, refl}
use Rattle.std.specs.Str.Parse.{digits_value}
use Rattle.std.proofs.lemmas.Bool.{cases_lt, le-leb, lt-leb}
use Rattle.std.proofs.lemmas.Bool.Decides.{nat_tests}
use Rattle.std.proofs.lemmas.Nat.{pow-add, div_below, le-div, div-add-mod', mod-mul-add}
use Rattle.std.proofs.Math.Nat.{one-le-pow, mul_assoc, mul-le-mul_right, mul-mod_left, mod-lt}
use Rattle.std.specs.Char.{is_ascii_digit}
use Rattle.std.proofs.lemmas.Int.Digits.{digits_value-lt}
use Rattle.std.proofs.lemmas.List.{take-append-drop, take_more, length-drop}
use Rattle.std.proofs.lemmas.List.Sums.{prefix_len_passes}
use Rattle.parsing_combinator.specs.Pieces.{digit_count, nanoseconds_of}
use Rattle.parsing_combinator.proofs.Decimal.{digit_here, value_after, value_append, count_drop}
use Rattle.parsing_combinator.proofs.FractionDigits.{all_digits}
use Rattle.parsing_iso8601.specs.Fractions.{rounded_part_of, next_if}

-- a quotient by its bounds
quotient : (n p q : ℕ) → 0 < p → q * p ≤ n → n < (q + 1) * p → n / p ≡ q
quotient n p q some low high = omega (arith, le-div q n p some low, div_below n p (q + 1) some high)

-- the two ways to say what a fraction is, by the nanosecond that it lies in
nearest : (x p : ℕ) → 0 < p → (2 * x + p) / (2 * p) ≡ cond (leb p (2 * (x % p))) (x / p + 1) (x / p)
nearest x p some =
    let e : x ≡ x / p * p + x % p = omega (arith, div-add-mod' x p) in
    elim (cases_lt (2 * (x % p)) p) [
      | inl lt ↦ rw (lt-leb p (2 * (x % p)) lt) (quotient (2 * x + p) (2 * p) (x / p) (omega arith) (omega (arith, e)) (omega (arith, e, lt)))
      | inr le ↦ rw (le-leb p (2 * (x % p)) le) (quotient (2 * x + p) (2 * p) (x / p + 1) (omega arith) (omega (arith, e, le)) (omega (arith, e, mod-lt x some)))
    ]

-- what is left of the nanosecond that a fraction lies in decides
pub rounded : (ds : List ℕ) → rounded_part_of 1_000_000_000 ds ≡ cond (leb (10 ^ length ds) (2 * (digits_value 10 ds * 10 ^ 9 % 10 ^ length ds))) (nanoseconds_of ds + 1) (nanoseconds_of ds)
unfolding rounded_part_of
rounded ds =
    let e : 2 * digits_value 10 ds * 1_000_000_000 + 10 ^ length ds ≡ 2 * (digits_value 10 ds * 10 ^ 9) + 10 ^ length ds = omega arith in
    ap (λ (n : ℕ). n / (2 * 10 ^ length ds)) e ∙ nearest (digits_value 10 ds * 10 ^ 9) (10 ^ length ds) (one-le-pow (length ds) 10 (lit< tt))

-- of at most nine digits nothing is left
pub none_left : (ds : List ℕ) → length ds ≤ 9 → leb (10 ^ length ds) (2 * (digits_value 10 ds * 10 ^ 9 % 10 ^ length ds)) ≡ false
none_left ds le =
    let n = length ds in
    let some : 0 < 10 ^ n = one-le-pow n 10 (lit< tt) in
    let split : 10 ^ 9 ≡ 10 ^ (9 - n) * 10 ^ n = ap (λ (k : ℕ). 10 ^ k) (let e : 9 ≡ 9 - n + n = omega arith in e) ∙ pow-add 10 (9 - n) n in
    let product : digits_value 10 ds * 10 ^ 9 ≡ digits_value 10 ds * 10 ^ (9 - n) * 10 ^ n = ap (λ (k : ℕ). digits_value 10 ds * k) split ∙ sym (mul_assoc (digits_value 10 ds) (10 ^ (9 - n)) (10 ^ n)) in
    let none : digits_value 10 ds * 10 ^ 9 % 10 ^ n ≡ 0 = ap (λ (k : ℕ). k % 10 ^ n) product ∙ mul-mod_left (digits_value 10 ds * 10 ^ (9 - n)) (10 ^ n) in
    rw none (let t : leb (10 ^ n) (2 * 0) ≡ false = grind (arith, nat_tests) in t)

pub short_fraction : (ds : List ℕ) → length ds ≤ 9 → rounded_part_of 1_000_000_000 ds ≡ nanoseconds_of ds
short_fraction ds le = rounded ds ∙ rw (none_left ds le) refl

-- of more digits the tenth decides: half of a nanosecond is five tenths of it
half : (v p s q r m b : ℕ) → v ≡ (p * 10 + s) * q + r → r < q → s ≤ 9 → m ≡ q * 10_000_000_000 → b ≡ 1_000_000_000 → leb m (2 * (v * b % m)) ≡ leb 5 s
half v p s q r m b is less digit me be =
    let most = mul-le-mul_right q digit in
    let product : v * b ≡ p * m + (s * q + r) * b = rw (is, me, be) (omega arith) in
    let below : (s * q + r) * b < m = rw (me, be) (omega (arith, most)) in
    let left : v * b % m ≡ (s * q + r) * b = ap (λ (x : ℕ). x % m) product ∙ mod-mul-add p m ((s * q + r) * b) below in
    elim (cases_lt s 5) [
      | inl lt ↦
          let few = mul-le-mul_right q (let le : s ≤ 4 = omega arith in le) in
          let small : 2 * ((s * q + r) * b) < m = rw (me, be) (omega (arith, few)) in
          rw (left, lt-leb m (2 * ((s * q + r) * b)) small, lt-leb 5 s lt) refl
      | inr le ↦
          let many = mul-le-mul_right q le in
          let great : m ≤ 2 * ((s * q + r) * b) = rw (me, be) (omega (arith, many)) in
          rw (left, le-leb m (2 * ((s * q + r) * b)) great, le-leb 5 s le) refl
    ]

five_more : (t s : ℕ) → t ≡ s + 48 → leb 5 s ≡ leb 53 t
five_more t s e = grind (arith, nat_tests)

pub long_rounded : (run : List ℕ) → 9 < length run → digit_count run ≡ length run → rounded_part_of 1_000_000_000 run ≡ next_if (leb 53 (get_or run 9 0)) (nanoseconds_of run)
long_rounded run lt all =
    let t = get_or run 9 0 in
    let j = length run - 10 in
    let p = digits_value 10 (take 9 run) in
    let r = digits_value 10 (drop 10 run) in
    let tenth = digit_here t (prefix_len_passes is_ascii_digit run 9 0 (omega (arith, all))) in
    let first : digits_value 10 (take 10 run) ≡ p * 10 + (t - 48) = ap (digits_value 10) (take_more run 9 0 lt) ∙ value_append 0 (take 9 run) (t ∷ []) ∙ ap (λ (d : ℕ). p * 10 + d) tenth.2 in
    let rest : length (drop 10 run) ≡ j = length-drop 10 run in
    let value : digits_value 10 run ≡ digits_value 10 (take 10 run) * 10 ^ length (drop 10 run) + r = ap (digits_value 10) (sym (take-append-drop 10 run)) ∙ value_append 0 (take 10 run) (drop 10 run) ∙ value_after (digits_value 10 (take 10 run)) (drop 10 run) in
    let left : digit_count (drop 10 run) ≡ length (drop 10 run) = omega (arith, count_drop 10 run (omega (arith, all)), rest, all) in
    let less : r < 10 ^ j = rw rest at (digits_value-lt 10 (drop 10 run) (all_digits (drop 10 run) left)) in
    let power : 10 ^ length run ≡ 10 ^ j * 10_000_000_000 = ap (λ (k : ℕ). 10 ^ k) (let e : length run ≡ j + 10 = omega arith in e) ∙ pow-add 10 j 10 in
    let whole : digits_value 10 run ≡ (p * 10 + (t - 48)) * 10 ^ j + r = rw (first, rest) at value in
    let decides = half (digits_value 10 run) p (t - 48) (10 ^ j) r (10 ^ length run) (10 ^ 9) whole less (omega (arith, tenth.1)) power refl in
    rounded run ∙ ap (λ b. next_if b (nanoseconds_of run)) (decides ∙ five_more t (t - 48) (omega (arith, tenth.0)))
