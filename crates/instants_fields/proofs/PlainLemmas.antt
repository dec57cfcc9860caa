-- Plain texts in strings.
use Rattle.std.proofs.Common.{◌≡◌, refl, ◌∙◌, ℕ, suc, ◌==◌, true, false, nat_lt, nat_eq, List, [], ◌∷◌, ◌++◌, map, length, Some, None, ap, arith}
use Rattle.std.specs.List.{AllByRecursion}
use Rattle.std.specs.Str.{bytes_eq}
use Rattle.std.proofs.lemmas.Bool.Decides.{nat_tests}
use Rattle.instants_fields.specs.Pieces.{then_cut, then_more, with_first, give, repeated}
use Rattle.instants_fields.specs.Strings.{character, turn, turn_of, string, text_after, after_bytes}
use Rattle.instants_fields.specs.Laws.{IsPlain}
use Rattle.instants_fields.specs.declared.string.Character.TheVariants.{Plain}
use Rattle.instants_fields.proofs.Turns.{one_turn, if_below}

pub plain_character : (c : ℕ) (rest : List ℕ) → IsPlain c → character (c ∷ rest) ≡ Some (Some (Plain c), rest)
unfolding character
plain_character c rest h =
    let a : (c == 34) ≡ false = grind (arith, nat_tests, h.no_mark) in
    let b : (c == 92) ≡ false = grind (arith, nat_tests, h.no_backslash) in
    let d : nat_lt c 32 ≡ false = grind (arith, nat_tests, h.no_control) in
    rw (a, b, d)

-- the characters of a plain text
pub plain_string : (text rest : List ℕ) → AllByRecursion IsPlain text → string (text ++ (34 ∷ rest)) ≡ Some (map Plain text, rest)
unfolding string turn character
plain_string [] rest h = one_turn turn (34 ∷ rest)
plain_string (c ∷ text) rest h =
    let more : List ℕ = text ++ (34 ∷ rest) in
    one_turn turn (c ∷ more) ∙ ap (λ r. then_more (repeated turn) (suc (length more)) (then_cut r (λ one. give (turn_of one)))) (plain_character c more h.0)
    ∙ if_below (length more) (suc (length more)) _ _ (omega arith) ∙ ap (with_first (Plain c)) (plain_string text rest h.1)

pub plain_text : (text : List ℕ) → text_after None (map Plain text) ≡ Some text
plain_text [] = refl
plain_text (c ∷ text) = ap (after_bytes (c ∷ [])) (plain_text text)

pub same_bytes : (bytes : List ℕ) → bytes_eq bytes bytes ≡ true
same_bytes [] = refl
same_bytes (b ∷ bytes) = let e : nat_eq b b ≡ true = grind (arith, nat_tests) in rw (e, same_bytes bytes)
