-- Loops over white space and comments, and the bytes that begin none of them.
use Rattle.std.proofs.Common.{◌≡◌, ℕ, zero, suc, ◌-◌, ◌<◌, ◌≤◌, Bool, true, false, cond, List, [], ◌∷◌, length, Some, None, refl, ap, arith, ◌==◌}
use Rattle.std.proofs.lemmas.Bool.Decides.{nat_tests}
use Rattle.std.proofs.Common.{eqb, get_or, take, drop}
use Rattle.std.proofs.lemmas.List.{take_all}
use Rattle.parsing_rfc2822.specs.Skips.{many, then_skip, byte_where, past_some}
use Rattle.parsing_rfc2822.specs.WhiteSpace.{is_comment_text, lone_white, line_end, folded_line, unless_line_end, folded_blanks, folding_white_space, content_by, comment, content, white_or_comment, comments_and_white_space}
use Rattle.parsing_rfc2822.proofs.Many.{many_end}

-- ---- comments

pub comment_at : (levels : ℕ) (bytes : List ℕ) → 0 < levels → comment levels bytes ≡ then_skip (byte_where (λ c. c == 40) bytes) (λ rest. byte_where (λ c. c == 41) (many (content (levels - 1)) rest))
unfolding comment content
comment_at zero bytes h = absurd (omega arith)
comment_at (suc level) bytes h = ap (λ k. then_skip (byte_where (λ c. c == 40) bytes) (λ rest. byte_where (λ c. c == 41) (many (content_by (comment k)) rest))) (let e : level ≡ suc level - 1 = omega arith in e)

pub comment_not_open : (levels : ℕ) (bytes : List ℕ) → byte_where (λ c. c == 40) bytes ≡ None → comment levels bytes ≡ None
unfolding comment
comment_not_open zero bytes e = refl
comment_not_open (suc level) bytes e = rw e refl

pub comment_none : (bytes : List ℕ) → comment 0 bytes ≡ None
unfolding comment
comment_none bytes = refl

-- a byte that is no white space
pub folding_other : (c : ℕ) (rest : List ℕ) → eqb c 13 ≡ false → eqb c 32 ≡ false → eqb c 9 ≡ false → folding_white_space (c ∷ rest) ≡ None
unfolding folding_white_space lone_white folded_line line_end folded_blanks past_some byte_where
folding_other c rest a b d = rw (a, b, d) refl

-- text of a comment is none
text_apart : (c : ℕ) → is_comment_text c ≡ true → (eqb c 13 ≡ false) × (eqb c 32 ≡ false) × (eqb c 9 ≡ false)
unfolding is_comment_text
text_apart c h = (grind (arith, nat_tests), grind (arith, nat_tests), grind (arith, nat_tests))

shown : {A : Type 0} (b : Bool) (x y : A) → cond b (Some x) None ≡ Some y → b ≡ true
shown true x y e = refl
shown false x y e = absurd cc

pub text_alone : (bytes rest : List ℕ) → byte_where is_comment_text bytes ≡ Some rest → folding_white_space bytes ≡ None
unfolding byte_where
text_alone [] rest e = absurd cc
text_alone (c ∷ cs) rest e = let a = text_apart c (shown (is_comment_text c) cs rest e) in folding_other c cs a.0 a.1 a.2

-- a byte above the parentheses
above : (c : ℕ) → 41 ≤ c → (eqb c 13 ≡ false) × (eqb c 32 ≡ false) × (eqb c 9 ≡ false) × (eqb c 10 ≡ false) × (eqb c 40 ≡ false)
above c h = search (arith, nat_tests)

folding_none : (c : ℕ) (rest : List ℕ) → 41 ≤ c → folding_white_space (c ∷ rest) ≡ None
folding_none c rest h = let a = above c h in folding_other c rest a.0 a.1 a.2

-- .. and opens no comment
pub white_none : (c : ℕ) (rest : List ℕ) → 41 ≤ c → white_or_comment (c ∷ rest) ≡ None
unfolding white_or_comment comment byte_where
white_none c rest h = rw (folding_none c rest h, (above c h).4) refl

pub none_at : (c : ℕ) (rest : List ℕ) → 41 ≤ c → comments_and_white_space (c ∷ rest) ≡ None
unfolding comments_and_white_space
none_at c rest h = rw (white_none c rest h) refl

pub none_of_nothing : comments_and_white_space [] ≡ None
unfolding comments_and_white_space white_or_comment folding_white_space lone_white folded_line line_end folded_blanks past_some byte_where comment
none_of_nothing = refl

-- the same by places
pub none_there : (bytes : List ℕ) → 1 ≤ length bytes → 40 < get_or bytes 0 0 → comments_and_white_space bytes ≡ None
none_there [] le h = absurd (omega arith)
none_there (c ∷ rest) le h = none_at c rest (omega arith)

pub white_none_of_empty : (bytes : List ℕ) → length bytes ≡ 0 → white_or_comment bytes ≡ None
unfolding white_or_comment folding_white_space lone_white folded_line line_end folded_blanks past_some byte_where comment
white_none_of_empty [] e = refl
white_none_of_empty (c ∷ rest) e = absurd (omega arith)

pub white_none_there : (bytes : List ℕ) → 1 ≤ length bytes → 40 < get_or bytes 0 0 → white_or_comment bytes ≡ None
white_none_there [] le h = absurd (omega arith)
white_none_there (c ∷ rest) le h = white_none c rest (omega arith)

folding_space : (c : ℕ) (rest : List ℕ) → 41 ≤ c → folding_white_space (32 ∷ c ∷ rest) ≡ Some (c ∷ rest)
unfolding folding_white_space lone_white byte_where
folding_space c rest h = let a = above c h in rw (a.0, a.1, a.2, a.3) refl

white_space : (c : ℕ) (rest : List ℕ) → 41 ≤ c → white_or_comment (32 ∷ c ∷ rest) ≡ Some (c ∷ rest)
unfolding white_or_comment
white_space c rest h = rw (folding_space c rest h) refl

one_space : (c : ℕ) (rest : List ℕ) → 41 ≤ c → comments_and_white_space (32 ∷ c ∷ rest) ≡ Some (c ∷ rest)
unfolding comments_and_white_space
one_space c rest h = rw (white_space c rest h) (ap Some (many_end white_or_comment (c ∷ rest) (white_none c rest h)))

one_rest : (c : ℕ) (rest : List ℕ) → take (length (32 ∷ c ∷ rest) - 1) (c ∷ rest) ≡ c ∷ rest
one_rest c rest = take_all (length (32 ∷ c ∷ rest) - 1) (c ∷ rest) (omega arith)

-- a space before a byte that neither goes on nor opens a comment, by places
pub one_space_there : (bytes : List ℕ) → 2 ≤ length bytes → get_or bytes 0 0 ≡ 32 → 40 < get_or bytes 1 0 → comments_and_white_space bytes ≡ Some (take (length bytes - 1) (drop 1 bytes))
one_space_there (a ∷ c ∷ rest) le h k =
    let same : a ≡ 32 = h in
    rw (same, one_rest c rest) (one_space c rest (omega arith))
one_space_there bytes le h k = absurd (omega arith)

pub folding_space_there : (bytes : List ℕ) → 2 ≤ length bytes → get_or bytes 0 0 ≡ 32 → 40 < get_or bytes 1 0 → folding_white_space bytes ≡ Some (take (length bytes - 1) (drop 1 bytes))
folding_space_there (a ∷ c ∷ rest) le h k =
    let same : a ≡ 32 = h in
    rw (same, one_rest c rest) (folding_space c rest (omega arith))
folding_space_there bytes le h k = absurd (omega arith)

folding_two : (c : ℕ) (rest : List ℕ) → 41 ≤ c → folding_white_space (32 ∷ 32 ∷ c ∷ rest) ≡ Some (c ∷ rest)
unfolding folding_white_space lone_white folded_line line_end folded_blanks unless_line_end past_some byte_where
folding_two c rest h =
    let a = above c h in
    let none : folded_line (c ∷ rest) ≡ None = rw a.0 refl in
    rw (a.1, a.2) (rw (many_end folded_line (c ∷ rest) none, a.0) refl)

two_spaces : (c : ℕ) (rest : List ℕ) → 41 ≤ c → comments_and_white_space (32 ∷ 32 ∷ c ∷ rest) ≡ Some (c ∷ rest)
unfolding comments_and_white_space white_or_comment
two_spaces c rest h = rw (folding_two c rest h) (ap Some (many_end white_or_comment (c ∷ rest) (white_none c rest h)))

-- two spaces before such a byte, by places
pub two_spaces_there : (bytes : List ℕ) → 3 ≤ length bytes → get_or bytes 0 0 ≡ 32 → get_or bytes 1 0 ≡ 32 → 40 < get_or bytes 2 0 → comments_and_white_space bytes ≡ Some (drop 2 bytes)
two_spaces_there (a ∷ b ∷ c ∷ rest) le h k l =
    let first : a ≡ 32 = h in
    let second : b ≡ 32 = k in
    rw (first, second) (two_spaces c rest (omega arith))
two_spaces_there bytes le h k l = absurd (omega arith)
