-- The whole lines among bytes, by the places of line feeds.
use Rattle.std.proofs.Common.{◌≡◌, ℕ, ◌+◌, ◌<◌, List, [], ◌∷◌, ◌++◌, length, take, drop, get_or, sym, ap, ◌∙◌, refl, take-append-drop}
use Rattle.std.proofs.Math.Seq.{take-add}
use Rattle.std.proofs.lemmas.List.{take_more}
use Rattle.instants_stream.specs.Lines.{HasNoLineFeed, whole_lines, last_part}
use Rattle.instants_stream.proofs.Lines.{whole_lines-line, last_part-line, whole_lines-piece, last_part-piece, whole_lines-append, last_part-append, whole_lines_none, last_part_of_none}

-- The bytes before start are whole lines, and after them stand len bytes with no line feed, and then one.
module _ (bytes : List ℕ) (start len : ℕ) (ended : last_part (take start bytes) ≡ []) (within : len < length (drop start bytes)) (line_feed : get_or (drop start bytes) len 0 ≡ 10) (free : HasNoLineFeed (take len (drop start bytes))) where
  prefix : take (start + (len + 1)) bytes ≡ take start bytes ++ (take len (drop start bytes) ++ 10 ∷ [])
  prefix = take-add start (len + 1) bytes ∙ ap (λ (l : List ℕ). take start bytes ++ l) (take_more (drop start bytes) len 0 within ∙ ap (λ (b : ℕ). take len (drop start bytes) ++ b ∷ []) line_feed)

  pub next_ended : last_part (take (start + (len + 1)) bytes) ≡ []
  next_ended = ap last_part prefix ∙ last_part-line (take start bytes) (take len (drop start bytes)) free

  pub next_lines : whole_lines (take (start + (len + 1)) bytes) ≡ whole_lines (take start bytes) ++ take len (drop start bytes) ∷ []
  next_lines = ap whole_lines prefix ∙ whole_lines-line (take start bytes) (take len (drop start bytes)) free ∙ ap (λ (l : List ℕ). whole_lines (take start bytes) ++ (l ++ take len (drop start bytes)) ∷ []) ended

-- all lines begin with those of a prefix that ends in a line feed
pub whole_lines-prefix : (bytes : List ℕ) (start : ℕ) → last_part (take start bytes) ≡ [] → whole_lines bytes ≡ whole_lines (take start bytes) ++ whole_lines (drop start bytes)
whole_lines-prefix bytes start ended = ap whole_lines (sym (take-append-drop start bytes)) ∙ whole_lines-append (take start bytes) (drop start bytes) ended

-- no line feed is left
module _ (bytes : List ℕ) (start : ℕ) (ended : last_part (take start bytes) ≡ []) (free : HasNoLineFeed (drop start bytes)) where
  pub rest_is_last : drop start bytes ≡ last_part bytes
  rest_is_last = sym (ap last_part (sym (take-append-drop start bytes)) ∙ last_part-piece (take start bytes) (drop start bytes) free ∙ ap (λ (l : List ℕ). l ++ drop start bytes) ended)

  pub lines_are_all : whole_lines bytes ≡ whole_lines (take start bytes)
  lines_are_all = ap whole_lines (sym (take-append-drop start bytes)) ∙ whole_lines-piece (take start bytes) (drop start bytes) free

-- there is no line feed
module _ (bytes : List ℕ) (free : HasNoLineFeed bytes) where
  pub no_lines : whole_lines bytes ≡ []
  no_lines = whole_lines-piece [] bytes free ∙ whole_lines_none

  pub all_last : last_part bytes ≡ bytes
  all_last = last_part-piece [] bytes free ∙ ap (λ (l : List ℕ). l ++ bytes) last_part_of_none

-- the first line feed stands after so many bytes
module _ (bytes : List ℕ) (len : ℕ) (within : len < length bytes) (line_feed : get_or bytes len 0 ≡ 10) (free : HasNoLineFeed (take len bytes)) where
  first : take (len + 1) bytes ≡ take len bytes ++ 10 ∷ []
  first = take_more bytes len 0 within ∙ ap (λ (b : ℕ). take len bytes ++ b ∷ []) line_feed

  ended : last_part (take (len + 1) bytes) ≡ []
  ended = ap last_part first ∙ last_part-line [] (take len bytes) free

  alone : whole_lines (take (len + 1) bytes) ≡ take len bytes ∷ []
  alone = rw (first, whole_lines-line [] (take len bytes) free, whole_lines_none, last_part_of_none) refl

  pub first_line : whole_lines bytes ≡ take len bytes ∷ whole_lines (drop (len + 1) bytes)
  first_line = whole_lines-prefix bytes (len + 1) ended ∙ ap (λ (l : List (List ℕ)). l ++ whole_lines (drop (len + 1) bytes)) alone

  pub last_of_others : last_part bytes ≡ last_part (drop (len + 1) bytes)
  last_of_others = ap last_part (sym (take-append-drop (len + 1) bytes)) ∙ last_part-append (take (len + 1) bytes) (drop (len + 1) bytes) ended
