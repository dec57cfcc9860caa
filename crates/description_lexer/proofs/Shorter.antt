-- Each word takes something of the text.
use Rattle.std.proofs.Common.{◌≡◌, ℕ, ◌<◌, ◌≤◌, ◌==◌, not, length, Ok, Bool, true, false, ap, arith}
use Rattle.std.specs.List.{prefix_len}
use Rattle.std.proofs.lemmas.List.{length-drop}
use Rattle.std.proofs.lemmas.List.Sums.{prefix_len-le-length}
use Rattle.std.proofs.lemmas.Bool.Decides.{nat_tests}
use Rattle.description_lexer.specs.Text.{Rest, is_space, is_word_byte, run, past}
use Rattle.description_lexer.specs.Words.{Modifier, has_word, modifier_in, modifier_at, no_modifier}
use Rattle.description_lexer.proofs.Readings.{bind_ok, ok_is}

some_there : (n : ℕ) → not (n == 0) ≡ true → 0 < n
some_there n e = grind (arith, nat_tests)

pub there_is : (b : Bool) → not b ≡ false → b ≡ true
there_is b e = grind (arith, nat_tests)

-- no more is left past a run than before it
pub past_le : (p : ℕ → Bool) (s : Rest) → length (past p s).text ≤ length s.text
past_le p s = omega (arith, length-drop (prefix_len p s.text) s.text)

pub past_word_lt : (s : Rest) → has_word (past is_space s) ≡ true → length (past is_word_byte (past is_space s)).text < length s.text
past_word_lt s e =
    let start = past is_space s in
    omega (arith, some_there (prefix_len is_word_byte start.text) e, prefix_len-le-length is_word_byte start.text, past_le is_space s, length-drop (prefix_len is_word_byte start.text) start.text)

pub modifier_lt : (s : Rest) (x : Modifier × Rest) → no_modifier s ≡ false → modifier_at s ≡ Ok x → length x.1.text < length s.text
unfolding modifier_at
modifier_lt s x e is_x =
    let next = past is_word_byte (past is_space s) in
    let a = bind_ok (modifier_in (run is_word_byte (past is_space s))) (λ m. Ok (m, next)) x is_x in
    let same : length next.text ≡ length x.1.text = ap (λ (y : Modifier × Rest). length y.1.text) (ok_is (a.0, next) x a.2) in
    omega (arith, past_word_lt s (there_is _ e), same)
