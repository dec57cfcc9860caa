-- The rows of the table of tails: each fact is computed for each row.
use Rattle.std.proofs.Common.{◌≡◌, ◌≤◌, ◌+◌, ◌-◌, ◌*◌, ◌%◌, ℕ, suc, true, List, [], get_or, refl, sym, subst, arith}
use Rattle.std.proofs.lemmas.Bool.{agree_below, agree_below_at}
use Rattle.parsing_places.specs.Lanes.{are_moves}
use Rattle.parsing_places.specs.declared.ending.Ending.{Ending}
use Rattle.parsing_places.specs.declared.ending.Ending.TheVariants.{Zulu}
use Rattle.parsing_shapes.specs.Tail.{is_row, offset_at, tail_row}
use Rattle.parsing_shapes.specs.declared.tails.TheConstants.{TABLES}

-- the lanes of an offset of each kind, and those of a row's fraction
abbrev offset_lanes : ℕ → List ℕ
offset_lanes g = get_or TABLES.offsets g []

abbrev digit_lanes : ℕ → ℕ → List ℕ
digit_lanes n g = get_or TABLES.digits (3 * n + g) []

pub offset_right : (g : ℕ) → g ≤ 2 → are_moves (offset_lanes g) ≡ true
offset_right g kind = agree_below_at (λ g. are_moves (offset_lanes g)) (λ _. true) 3 g refl (omega (arith, kind))

pub digits_right : (n g : ℕ) → n ≤ 16 → g ≤ 2 → are_moves (digit_lanes n g) ≡ true
digits_right n g few kind =
    let row = agree_below_at (λ n. agree_below (λ g. are_moves (digit_lanes n g)) (λ _. true) 3) (λ _. true) 17 n refl (omega (arith, few)) in
    agree_below_at (λ g. are_moves (digit_lanes n g)) (λ _. true) 3 g row (omega (arith, kind))

-- what is so of a row for so many bytes, of which an offset has so many; the rest, for a fraction, is a number of 64 bits
abbrev Right : Ending → ℕ → ℕ → ℕ → Type 0
Right e g size n = (r : (are_moves (offset_lanes g) ≡ true) × (are_moves (digit_lanes n g) ≡ true))
    → is_row (record { low = get_or TABLES.low (3 * n + g) []; high = get_or TABLES.above (3 * n + g) []; taken = record { lanes = offset_lanes g; right = r.0 } })
    (record { lanes = digit_lanes n g; right = r.1 }) e ((n + (18446744073709551616 - size)) % 18446744073709551616) ≡ true

right : (e : Ending) (n : ℕ) → n ≤ 16 → Right e (tail_row e) (16 - offset_at e) n
right e (suc (suc (suc (suc (suc (suc (suc (suc (suc (suc (suc (suc (suc (suc (suc (suc (suc n))))))))))))))))) few = absurd (omega (arith, few))
right Zulu n few = λ r. refl
right e n few = λ r. refl

pub row_there : (e : Ending) (n g size : ℕ) → n ≤ 16 → g ≡ tail_row e → size + offset_at e ≡ 16 → Right e g size n
row_there e n g size few same whole =
    let is : size ≡ 16 - offset_at e = omega (arith, whole) in
    subst (λ (k : ℕ). Right e k size n) (sym same) (subst (λ (z : ℕ). Right e (tail_row e) z n) (sym is) (right e n few))
