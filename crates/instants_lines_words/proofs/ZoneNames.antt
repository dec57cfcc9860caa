-- The names of zones, in words and by a test.
use Rattle.std.proofs.Common.{◌≡◌, ◌≤◌, ◌≢◌, ◌↔◌, ℕ, Bool, false, Option, Some, None, List, [], ◌∷◌, length, get_or, refl, ap, arith}
use Rattle.std.specs.Prelude.{IsTrue, All, MatchOption, unwrap_or, nat_le, ◌==◌}
use Rattle.std.specs.Bool.{Decides}
use Rattle.std.specs.Borrow.{Bor}
use Rattle.std.specs.List.{list_all}
use Rattle.std.proofs.lemmas.Bool.Decides.{same_from_decides, Decides-and, Decides-by_and, Decides-eqb, Decides-ltb, Decides-not, nat_tests}
use Rattle.zones.specs.Name.{is_name_byte, IsZoneName}
use Rattle.instants_lines_words.specs.Filled.{without_colon}
use Rattle.instants_lines_words.specs.Words.{is_zone_name}

-- each byte is one of a name
bytes : (word : List ℕ) → Decides (list_all is_name_byte word) (All (λ byte. IsTrue (is_name_byte byte)) word)
bytes word = Decides-by_and is_name_byte (λ byte. IsTrue (is_name_byte byte)) (list_all is_name_byte) (λ byte. (λ e. e, λ e. e)) refl (λ _ _. refl) word

fits : (count most : ℕ) → Decides (nat_le count most) (count ≤ most)
fits count most = (λ e. grind (arith, nat_tests), λ l. grind (arith, nat_tests))

-- the test is true of the names of zones
pub decides : (word : List ℕ) → Decides (is_zone_name word) (IsZoneName word)
unfolding is_zone_name
decides word =
    let test = Decides-and _ _ (Decides-and _ _ (Decides-and _ _ (Decides-ltb 0 (length word)) (fits (length word) 64)) (Decides-not _ (Decides-eqb (get_or word 0 0) 47))) (bytes word) in (
      λ e. let is = test.0 e in record { some = is.0.0.0; short = is.0.0.1; relative = is.0.1; bytes = is.1 },
      λ is. test.1 (((is.some, is.short), is.relative), is.bytes),
    )

pub same_test : (word : List ℕ) (test : Bool) → IsTrue test ↔ IsZoneName word → test ≡ is_zone_name word
same_test word test is = same_from_decides test (is_zone_name word) is (decides word)

-- ---- a word without its colon

other_byte : (first byte : ℕ) → first ≢ byte → (first == byte) ≡ false
other_byte first byte other = grind (arith, nat_tests)

as_it_is : (word : List ℕ) → ((rest : List ℕ) → word ≢ 58 ∷ rest) → word ≡ without_colon word
as_it_is [] none = refl
as_it_is (first ∷ rest) none =
    let is : (first == 58) ≡ false = other_byte first 58 (λ e. none rest (ap (λ b. b ∷ rest) e)) in
    rw is refl

pub unprefixed : (word : Bor (List ℕ)) (stripped : Option (Bor (List ℕ))) → MatchOption stripped ((rest : List ℕ) → word.now ≢ 58 ∷ rest) (λ name. word.now ≡ 58 ∷ name.now) → (unwrap_or stripped word).now ≡ without_colon word.now
unprefixed word (Some name) is = rw is refl
unprefixed word None none = as_it_is word.now none
