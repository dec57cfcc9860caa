-- A number of two digits, the first of which may be a space.
use Rattle.std.proofs.Common.{◌≡◌, ℕ, List, Some, arith}
use Rattle.std.proofs.lemmas.Bool.Decides.{nat_tests}
use Rattle.parsing_combinator.specs.Pieces.{digits, byte}
use Rattle.parsing_combinator.specs.Shape.{taken, spaced_between}
use Rattle.parsing_combinator.proofs.FractionDigits.{digits_read}
use Rattle.parsing_combinator.proofs.Longest.{taken_exactly}
use Rattle.parsing_combinator.proofs.SpaceLemmas.{taken_spaced}
use Rattle.parsing_layout.proofs.PieceLemmas.{byte_is}

pub after_space : (text rest after : List ℕ) (n : ℕ) → byte 32 text ≡ Some (tt, rest) → digits 1 rest ≡ Some (n, after) → taken (spaced_between 2 2) text ≡ Some (n, after)
after_space text rest after n space digit = grind (arith, nat_tests, digits_read, byte_is, taken_spaced, taken_exactly)

pub without_space : (text after : List ℕ) (n : ℕ) → digits 2 text ≡ Some (n, after) → taken (spaced_between 2 2) text ≡ Some (n, after)
without_space text after n pair = grind (arith, nat_tests, digits_read, taken_spaced, taken_exactly)
