use Rattle.std.proofs.Common.{◌≡◌, ◌+◌, ◌-◌, ◌<◌, ◌≤◌, ℕ, List, None, Some, get_or, length, take, drop, sym, ◌∙◌, arith}
use Rattle.std.proofs.lemmas.List.{take_rest, drop-drop}
use Rattle.parsing_combinator.specs.Pieces.{digits}
use Rattle.parsing_combinator.specs.Chunks.{IsDigitChunk}
use Rattle.parsing_combinator.proofs.FractionDigits.{digits_read}
use Rattle.parsing_values.proofs.DigitLemmas.{NineRead, nine_read, short_nine, long_nine, no_digit}
use Rattle.parsing_values.proofs.fraction.Fraction.read.Goals as goal

-- at most eight digits, and nine, of which the last one is in a wider number
short_there : (bytes : List ℕ) (first count : ℕ) → IsDigitChunk bytes first count → ((k : ℕ) → get_or bytes k 0 < 256) → digits 1 (take (length bytes - count) (drop count bytes)) ≡ None → NineRead first 48 bytes (take (length bytes - count) (drop count bytes))
short_there bytes first count c fit none =
    let d = c.of_digits in
    rw (take_rest bytes count) (nine_read first 48 count bytes (short_nine bytes first count d fit) d.some (omega (arith, d.few)) (rw (take_rest bytes count) at none))

nine_there : (bytes rest : List ℕ) (first count last wide : ℕ) → IsDigitChunk bytes first count → ((k : ℕ) → get_or bytes k 0 < 256) → 8 ≤ count → wide ≡ 48 + last
    → digits 1 (take (length bytes - count) (drop count bytes)) ≡ Some (last, rest) → digits 1 rest ≡ None → NineRead first wide bytes rest
nine_there bytes rest first count last wide c fit enough is one none =
    let all : count ≡ 8 = omega (arith, c.of_digits.few, enough) in
    let ninth : digits 1 (drop 8 bytes) ≡ Some (last, rest) = rw (take_rest bytes count, all) at one in
    let after : drop 9 bytes ≡ rest = sym (drop-drop 1 8 bytes) ∙ (digits_read 1 (drop 8 bytes) last rest ninth).after in
    rw (is, ← after) (nine_read first (48 + last) 9 bytes (long_nine bytes first count c.of_digits fit last rest all ninth) (omega arith) (omega arith) (rw (← after) at none))

pub ninth_digit-requires : goal.ninth_digit-requires
ninth_digit-requires c = rw (take_rest c.args.bytes.now c.in_ok-first.count) c.in_ok-first.ensures.ends

pub invariant_of-result : goal.invariant_of-result
invariant_of-result c = (short_there _ _ _ c.in_ok-first.ensures (λ k. omega (arith, c.type_inv.bytes k)) (sym c.in_default.ensures.cut)).are

pub returns-in_default : goal.returns-in_default
returns-in_default c =
    let nine = short_there _ _ _ c.in_ok-first.ensures (λ k. omega (arith, c.type_inv.bytes k)) (sym c.in_default.ensures.cut) in
    record { fraction = nine.reads; bound = nine.bound; at_most_nine = nine.at_most_nine }

pub invariant_of-result-2 : goal.invariant_of-result-2
invariant_of-result-2 c =
    (nine_there _ _ _ _ _ _ c.in_ok-first.ensures (λ k. omega (arith, c.type_inv.bytes k)) c.in-Some.ensures.eight c.from-last.ensures
    (sym c.in-Some.ensures.cut) (no_digit _ _ c.one_digit.ensures.cut (sym c.is_some.ensures ∙ c.if-is_some.false))).are

pub returns : goal.returns
returns c =
    let nine = nine_there _ _ _ _ _ _ c.in_ok-first.ensures (λ k. omega (arith, c.type_inv.bytes k)) c.in-Some.ensures.eight c.from-last.ensures
    (sym c.in-Some.ensures.cut) (no_digit _ _ c.one_digit.ensures.cut (sym c.is_some.ensures ∙ c.if-is_some.false)) in
    record { fraction = nine.reads; bound = nine.bound; at_most_nine = nine.at_most_nine }
