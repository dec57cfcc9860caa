-- What no digit begins.
use Rattle.std.proofs.Common.{◌≡◌, ◌&&◌, ℕ, Bool, true, false, List, [], ◌∷◌, ◌∙◌, get_or, None, refl, arith}
use Rattle.std.specs.Char.{is_ascii_digit}
use Rattle.std.proofs.lemmas.Bool.Decides.{nat_tests}
use Rattle.parsing_combinator.specs.Pieces.{digits}
use Rattle.parsing_combinator.proofs.Fixed.{some_if, digits_one}
use Rattle.parsing_layout.specs.Layout.{Values, Says}
use Rattle.parsing_layout.specs.declared.parts.Part.{Part}
use Rattle.parsing_layout.specs.declared.parts.Part.TheVariants as part
use Rattle.parsing_layout.proofs.PieceLemmas.{byte_is, literal_said, sign_is}
use Rattle.parsing_layout.proofs.TestLemmas.{is_not}
use Rattle.parsing_shapes.specs.End.{begins_apart}

no_number : (q p : Bool) (number : ℕ) (rest : List ℕ) → p ≡ false → some_if (q && p) number rest ≡ None
no_number q p number rest e = grind (arith, nat_tests)

pub none_at : (bytes : List ℕ) → is_ascii_digit (get_or bytes 0 0) ≡ false → digits 1 bytes ≡ None
none_at bytes e = digits_one bytes ∙ no_number _ _ _ _ e

pub none_first : (ps : List Part) (bytes rest : List ℕ) (v : Values) → begins_apart ps ≡ true → Says ps bytes v rest → (ps ≡ [] → digits 1 bytes ≡ None) → digits 1 bytes ≡ None
none_first [] bytes rest v e says none = none refl
none_first (part.Byte c ∷ ps) bytes rest v e says none =
    rw (byte_is c bytes says.0 (literal_said _ _ says.1)) (none_at (c ∷ says.0) (is_not (is_ascii_digit c) e))
none_first (part.Sign ∷ ps) bytes rest v e says none = grind (arith, nat_tests, none_at, sign_is)
none_first (p ∷ ps) bytes rest v e says none = absurd cc
