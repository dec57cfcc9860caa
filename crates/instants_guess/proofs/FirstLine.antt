-- The first line of a text, and the lines after it.
use Rattle.std.proofs.Common.{◌≡◌, ℕ, ◌+◌, ◌<◌, List, [], ◌∷◌, ◌++◌, length, take, drop, get_or, refl, sym, ap, ◌∙◌, arith, append_assoc, take-append-drop}
use Rattle.std.proofs.lemmas.List.{drop_more}
use Rattle.instants_stream.specs.Lines.{HasNoLineFeed, if_nonempty, whole_lines, last_part, lines}
use Rattle.instants_stream.proofs.Lines.{whole_lines-piece, last_part-piece, whole_lines-line, last_part-line, lines-append, whole_lines_none, last_part_of_none}

-- no bytes have no lines
pub lines_none : (text : List ℕ) → length text ≡ 0 → lines text ≡ []
unfolding lines
lines_none [] h = rw (whole_lines_none, last_part_of_none) refl
lines_none (b ∷ text) h = absurd (omega arith)

nonempty : (text : List ℕ) → 0 < length text → if_nonempty text ≡ text ∷ []
nonempty [] h = absurd (omega arith)
nonempty (b ∷ text) h = refl

-- a text without a line feed is one line
pub only_line : (text : List ℕ) → 0 < length text → HasNoLineFeed text → lines text ≡ text ∷ []
unfolding lines
only_line text some free =
    let whole : whole_lines text ≡ [] = whole_lines-piece [] text free ∙ whole_lines_none in
    let last : last_part text ≡ text = last_part-piece [] text free ∙ ap (λ l. l ++ text) last_part_of_none in
    rw (whole, last) (nonempty text some)

-- a line with its line feed
fed_line : (line : List ℕ) → HasNoLineFeed line → lines (line ++ 10 ∷ []) ≡ line ∷ []
unfolding lines
fed_line line free =
    let whole : whole_lines (line ++ 10 ∷ []) ≡ line ∷ [] = whole_lines-line [] line free ∙ rw (whole_lines_none, last_part_of_none) refl in
    let last : last_part (line ++ 10 ∷ []) ≡ [] = last_part-line [] line free in
    rw (whole, last) refl

-- the line before the first line feed, and the lines after it
pub first_and_others : (text : List ℕ) (len : ℕ) → len < length text → HasNoLineFeed (take len text) → get_or text len 0 ≡ 10 → lines text ≡ take len text ∷ lines (drop (len + 1) text)
first_and_others text len within free feed =
    let line = take len text in
    let rest = drop (len + 1) text in
    let cut : text ≡ (line ++ 10 ∷ []) ++ rest = sym (take-append-drop len text) ∙ (ap (λ l. line ++ l) (drop_more text len 0 within ∙ ap (λ (b : ℕ). b ∷ rest) feed) ∙ sym (append_assoc line (10 ∷ []) rest)) in
    ap lines cut ∙ (lines-append (line ++ 10 ∷ []) rest (last_part-line [] line free) ∙ ap (λ l. l ++ lines rest) (fed_line line free))
