-- What the words for a time of day and for a separator say.
use Rattle.std.proofs.Common.{◌≡◌, ◌≢◌, ◌∙◌, ℕ, Bool, Decides, true, false, Option, None, Some, is_some, List, [], ◌∷◌, length, get_or, refl, ap, arith}
use Rattle.std.specs.Prelude.{◌↔◌, IsSome, IfSome, codes, if◌then◌else◌}
use Rattle.std.specs.Str.{bytes_eq}
use Rattle.std.proofs.lemmas.Bool.Decides.{nat_tests, same_from_decides}
use Rattle.std.proofs.lemmas.Slice.Eq.{bytes_eq-Decides}
use Rattle.instants_fields.specs.Columns.{IsSeparator}
use Rattle.instants_words.specs.Pieces.{number_said}
use Rattle.instants_lines_words.specs.Words.{clock_minutes, is_separator, separator_said, time_said}

-- what a word of five bytes with a colon in the middle says
pub time_five : (word : List ℕ) → length word ≡ 5 → get_or word 2 0 ≡ 58
    → time_said word ≡ clock_minutes (number_said 0 23 2 (get_or word 0 0 ∷ get_or word 1 0 ∷ [])) (number_said 0 59 2 (get_or word 3 0 ∷ get_or word 4 0 ∷ []))
unfolding time_said
time_five (a ∷ b ∷ c ∷ d ∷ e ∷ []) five colon = rw colon refl
time_five word five colon = absurd (omega arith)

-- ---- what stands between columns

-- a byte that may stand there
decides : (byte : ℕ) → Decides (is_separator byte) (IsSeparator byte)
decides byte =
    (λ is. record { mark = grind (arith, nat_tests); line_feed = grind (arith, nat_tests); carriage_return = grind (arith, nat_tests) }, λ one. grind (arith, nat_tests, one.mark, one.line_feed, one.carriage_return))

there : (byte : ℕ) (result : Option ℕ) → IfSome result (λ separator. separator ≡ byte) → result ≡ (if is_some result then Some byte else None)
there byte (Some separator) is = ap (λ one. Some one) is
there byte None is = refl

-- the separator of a byte
made : (byte : ℕ) (result : Option ℕ) → IsSome result ↔ IsSeparator byte → IfSome result (λ separator. separator ≡ byte) → result ≡ (if is_separator byte then Some byte else None)
made byte result which value = there byte result value ∙ ap (λ (test : Bool). if test then Some byte else None) (same_from_decides (is_some result) (is_separator byte) which (decides byte))

-- a word of one byte
pub separator_one : (word : List ℕ) (result : Option ℕ) → length word ≡ 1 → IsSome result ↔ IsSeparator (get_or word 0 0) → IfSome result (λ separator. separator ≡ get_or word 0 0) → result ≡ separator_said word
unfolding separator_said
separator_one (byte ∷ []) result one which value = made byte result which value
separator_one word result one which value = absurd (omega arith)

-- a tab by its name
pub separator_tab : (word : List ℕ) (result : Option ℕ) → bytes_eq word (codes "tab") ≡ true → IsSome result ↔ IsSeparator 9 → IfSome result (λ separator. separator ≡ 9) → result ≡ separator_said word
unfolding separator_said
separator_tab word result is which value =
    let named : word ≡ codes "tab" = (bytes_eq-Decides word (codes "tab")).0 is in
    rw named (made 9 result which value)

-- another word
pub separator_none : (word : List ℕ) → length word ≢ 1 → bytes_eq word (codes "tab") ≡ false → separator_said word ≡ None
unfolding separator_said
separator_none [] other unnamed = refl
separator_none (byte ∷ []) other unnamed = absurd (other refl)
separator_none (byte ∷ next ∷ more) other unnamed = rw unnamed refl
