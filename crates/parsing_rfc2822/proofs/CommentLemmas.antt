-- A comment of plain text, with one space before it and nothing after it.
use Rattle.std.proofs.Common.{◌≡◌, ◌≤◌, ◌-◌, ℕ, suc, true, List, [], ◌∷◌, ◌++◌, length, get_or, take, drop, Some, None, refl, ap, ◌∙◌, arith, lit<}
use Rattle.std.specs.List.{list_all}
use Rattle.std.proofs.lemmas.Bool.{and_parts}
use Rattle.parsing_rfc2822.specs.Skips.{many, byte_where}
use Rattle.parsing_rfc2822.specs.WhiteSpace.{is_comment_text, lone_white, folding_white_space, quoted_pair, content, white_or_comment, comments_and_white_space}
use Rattle.parsing_rfc2822.proofs.WhiteSpaceLemmas.{folding_other, text_alone, comment_at, comment_not_open, white_none_of_empty}
use Rattle.parsing_rfc2822.proofs.Many.{many_step, many_end}
use Rattle.parsing_rfc2822.proofs.lemmas.Ends.{contents_ends, white_ends}

text_step : (level c : ℕ) (rest : List ℕ) → is_comment_text c ≡ true → content level (c ∷ rest) ≡ Some rest
unfolding content byte_where
text_step level c rest h =
    rw (text_alone (c ∷ rest) rest (rw h refl), h) refl

closed : (level : ℕ) (rest : List ℕ) → content level (41 ∷ rest) ≡ None
unfolding content quoted_pair is_comment_text byte_where
closed level rest = rw (folding_other 41 rest refl refl refl, comment_not_open level (41 ∷ rest) refl) refl

text_passed : (level : ℕ) (text rest : List ℕ) → list_all is_comment_text text ≡ true → many (content level) (text ++ 41 ∷ rest) ≡ 41 ∷ rest
text_passed level [] rest h = many_end (content level) (41 ∷ rest) (closed level rest)
text_passed level (c ∷ text) rest h =
    let parts = and_parts (is_comment_text c) (list_all is_comment_text text) h in
    many_step (content level) (c ∷ text ++ 41 ∷ rest) (text ++ 41 ∷ rest) (contents_ends level) (text_step level c (text ++ 41 ∷ rest) parts.0) ∙ text_passed level text rest parts.1

comment_whole : (text : List ℕ) → list_all is_comment_text text ≡ true → white_or_comment (40 ∷ text ++ 41 ∷ []) ≡ Some []
unfolding white_or_comment byte_where
comment_whole text h =
    rw (folding_other 40 (text ++ 41 ∷ []) refl refl refl) (comment_at 31 (40 ∷ text ++ 41 ∷ []) (lit< tt) ∙ rw (text_passed 30 text [] h) refl)

space_before : (rest : List ℕ) → white_or_comment (32 ∷ 40 ∷ rest) ≡ Some (40 ∷ rest)
unfolding white_or_comment folding_white_space lone_white byte_where
space_before rest = refl

plain_comment : (text : List ℕ) → list_all is_comment_text text ≡ true → comments_and_white_space (32 ∷ 40 ∷ text ++ 41 ∷ []) ≡ Some []
unfolding comments_and_white_space
plain_comment text h =
    rw (space_before (text ++ 41 ∷ [])) (ap Some (many_step white_or_comment (40 ∷ text ++ 41 ∷ []) [] white_ends (comment_whole text h) ∙ many_end white_or_comment [] (white_none_of_empty [] refl)))

last_apart : (c : ℕ) (rest : List ℕ) → get_or (c ∷ rest) (length rest) 0 ≡ 41 → c ∷ rest ≡ take (length rest) (c ∷ rest) ++ 41 ∷ []
last_apart c [] e = ap (λ (n : ℕ). n ∷ []) e
last_apart c (d ∷ rest) e = ap (λ (t : List ℕ). c ∷ t) (last_apart d rest e)

-- the same by places
pub plain_comment_there : (bytes : List ℕ) → 3 ≤ length bytes → get_or bytes 0 0 ≡ 32 → get_or bytes 1 0 ≡ 40 → get_or bytes (length bytes - 1) 0 ≡ 41 → list_all is_comment_text (take (length bytes - 1 - 2) (drop 2 bytes)) ≡ true → comments_and_white_space bytes ≡ Some []
plain_comment_there (a ∷ b ∷ c ∷ rest) le h k l plain =
    let first : a ≡ 32 = h in
    let second : b ≡ 40 = k in
    let end : length (a ∷ b ∷ c ∷ rest) - 1 ≡ suc (suc (length rest)) = omega arith in
    let inner : length (a ∷ b ∷ c ∷ rest) - 1 - 2 ≡ length rest = omega arith in
    rw (first, second, last_apart c rest (rw end at l)) (plain_comment (take (length rest) (c ∷ rest)) (rw inner at plain))
plain_comment_there bytes le h k l plain = absurd (omega arith)
