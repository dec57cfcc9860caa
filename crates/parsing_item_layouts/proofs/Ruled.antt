-- Lines with a byte that can't stand at its place.
use Rattle.std.proofs.Math.Bool.{and-false}
use Rattle.std.proofs.Common.{◌≡◌, ◌<◌, ◌&&◌, ℕ, zero, suc, Bool, true, false, List, [], length, get_or, refl, sym, arith}
use Rattle.std.specs.Prelude.{nat_lt}
use Rattle.std.proofs.lemmas.Bool.Decides.{nat_tests}
use Rattle.std.proofs.lemmas.List.{get_or_default}
use Rattle.parsing_item_layouts.specs.FirstBytes.{can_stand, fits_at, rule_out}
use Rattle.parsing_item_layouts.specs.declared.first_bytes.FirstBytes.{FirstBytes}

pub fails : (f : FirstBytes) (line : List ℕ) (place : ℕ) → fits_at f line place ≡ false → rule_out f line ≡ true
unfolding rule_out
fails f line zero e = rw e refl
fails f line (suc zero) e = rw (e, and-false (fits_at f line 0)) refl
fails f line (suc (suc zero)) e = rw (e, and-false (fits_at f line 1), and-false (fits_at f line 0)) refl
fails f line (suc (suc (suc zero))) e = rw (e, and-false (fits_at f line 2), and-false (fits_at f line 1), and-false (fits_at f line 0)) refl
fails f line (suc (suc (suc (suc place)))) e =
    absurd (let far : nat_lt (suc (suc (suc (suc place)))) 4 ≡ false = grind (arith, nat_tests) in let never : true ≡ false = rw far at e in cc)

-- what is found at a place
pub found : (f : FirstBytes) (place code byte : ℕ) → place < 4 → code ≡ byte → code < length (get_or f.places place []) → get_or (get_or f.places place []) code false ≡ can_stand f place byte
found f place code byte lt same within =
    let here : nat_lt place 4 ≡ true = grind (arith, nat_tests) in
    rw (here, ← same) (sym (get_or_default (get_or f.places place []) code true false within))
