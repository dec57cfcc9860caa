use Rattle.std.proofs.Common.{ℕ, ◌*◌, ◌+◌, ◌^◌, ◌<◌, ◌≤◌, List, take, drop, get_or, sym, ap, ◌∙◌, arith}
use Rattle.std.specs.Str.Parse.{digits_value}
use Rattle.std.specs.Char.{is_ascii_digit}
use Rattle.std.proofs.lemmas.List.Sums.{prefix_len_passes}
use Rattle.parsing_combinator.specs.Pieces.{digit_count}
use Rattle.parsing_combinator.specs.Places.{HasDigit, HasPair}
use Rattle.parsing_combinator.proofs.Decimal.{digit_here, digit_count_within}
use Rattle.parsing_combinator.proofs.AtPlaces.{four_there}
use Rattle.parsing_combinator.proofs.FractionDigits.{digits_read}
use Rattle.parsing_values.specs.Decimal.{decimal}
use Rattle.parsing_values.proofs.lemmas.Decimals.{decimal_count, decimal_value}
use Rattle.parsing_iso8601_shapes.proofs.calendar_days.pairs_of.Goals as goal

digit_in : (bytes : List ℕ) (k : ℕ) → k < digit_count bytes → HasDigit bytes k
digit_in bytes k lt = let d = digit_here (get_or bytes k 0) (prefix_len_passes is_ascii_digit bytes k 0 lt) in record { low = d.0; high = d.1 }

pair_in : (bytes : List ℕ) (place : ℕ) → place + 2 ≤ digit_count bytes → HasPair bytes place
pair_in bytes place enough = record { room = omega (arith, enough, digit_count_within bytes); first = digit_in bytes place (omega arith); second = digit_in bytes (place + 1) (omega arith) }

pub two_pairs_at-requires-clause-first : goal.two_pairs_at-requires-clause-first
two_pairs_at-requires-clause-first c = pair_in c.digits.result 0 (omega (arith, ap digit_count c.digits.ensures.digits ∙ decimal_count 4 c.args.year))

pub two_pairs_at-requires-clause-second : goal.two_pairs_at-requires-clause-second
two_pairs_at-requires-clause-second c = pair_in c.digits.result 2 (omega (arith, ap digit_count c.digits.ensures.digits ∙ decimal_count 4 c.args.year))

pub returns-clause-year : goal.returns-clause-year
unfolding decimal
returns-clause-year c =
    let n = c.args.year in
    let pairs = c.two_pairs_at in
    let four = four_there c.digits.result 0 pairs.result.0 pairs.result.1 pairs.ensures.first pairs.ensures.second in
    let read = digits_read 4 (drop 0 c.digits.result) (pairs.result.0 * 100 + pairs.result.1) (drop 4 c.digits.result) four in
    let small : n < 10 ^ 4 = omega (arith, c.digits.ensures.bound) in
    sym (sym read.value ∙ ap (λ (l : List ℕ). digits_value 10 (take 4 (drop 0 l))) c.digits.ensures.digits ∙ decimal_value 4 n small)
