-- Words that stand beside a date, by how they are written.
use Rattle.std.specs.Prelude.{ℕ, ◌+◌, ◌==◌, ◌&&◌, ◌||◌, nat_le, Bool, true, false, List, [], ◌∷◌, ◌++◌, length, drop, codes, if◌then◌else◌}
use Rattle.std.specs.Char.{is_ascii_digit, to_ascii_lowercase}
use Rattle.base.specs.Bytes.{plus}
use Rattle.instants_edges.specs.Edge.{is_edge, is_sign}

-- a mark of a form stands for these bytes: a digit for each digit up to it, `+` for a sign, and any other for itself, a small letter for the capital one too
abbrev pub fits : ℕ → ℕ → Bool
fits mark byte =
    if is_ascii_digit mark then is_ascii_digit byte && nat_le byte mark
    else if mark == plus then is_sign byte
    else to_ascii_lowercase byte == mark

-- bytes begin in this form
unfoldable pub begin_so : List ℕ → List ℕ → Bool
begin_so [] bytes = true
begin_so (mark ∷ marks) [] = false
begin_so (mark ∷ marks) (byte ∷ bytes) = fits mark byte && begin_so marks bytes

-- the length of the first of these forms in which bytes begin, and 0 where there is none
unfoldable pub begun : List (List ℕ) → List ℕ → ℕ
begun [] bytes = 0
begun (form ∷ others) bytes = if begin_so form bytes then length form else begun others bytes

-- the same, where a word ends after it
unfoldable pub word : List (List ℕ) → List ℕ → ℕ
word [] bytes = 0
word (form ∷ others) bytes = if begin_so form bytes && is_edge bytes (length form) then length form else word others bytes

-- ---- the forms

-- the signs: a plus or a hyphen, the minus of Unicode, U+2212, in UTF-8, and both as JSON may escape them
abbrev pub signs : List (List ℕ)
signs = codes "+" ∷ (226 ∷ 136 ∷ 146 ∷ []) ∷ codes "\\u002b" ∷ codes "\\u002d" ∷ []

abbrev pub hours : List (List ℕ)
hours = codes "19" ∷ codes "9" ∷ []

abbrev pub hours_and_minutes : List (List ℕ)
hours_and_minutes = codes "19:59" ∷ codes "9:59" ∷ codes "1959" ∷ []

-- the length of a sign and a number in one of these forms, and 0 where there is none
abbrev pub signed : List (List ℕ) → List ℕ → ℕ
signed numbers bytes =
    let sign = begun signs bytes in
    let number = word numbers (drop sign bytes) in
    if sign == 0 || number == 0 then 0 else sign + number

-- the names of UTC, and those of other zones, which say an offset only where digits do after them
abbrev pub names_of_utc : List (List ℕ)
names_of_utc = codes "utc" ∷ codes "gmt" ∷ codes "ut" ∷ codes "z" ∷ []

abbrev pub other_names : List (List ℕ)
other_names =
    codes "cet" ∷ codes "cest" ∷ codes "eet" ∷ codes "eest" ∷ codes "wet" ∷ codes "west" ∷ codes "bst" ∷ codes "ist" ∷ codes "msk" ∷
    codes "est" ∷ codes "edt" ∷ codes "cst" ∷ codes "cdt" ∷ codes "mst" ∷ codes "mdt" ∷ codes "pst" ∷ codes "pdt" ∷
    codes "jst" ∷ codes "kst" ∷ codes "aest" ∷ codes "aedt" ∷ codes "nzst" ∷ codes "nzdt" ∷ []

-- the halves of the day; the last two have a space that does not break, U+00A0
abbrev pub halves : List (List ℕ)
halves =
    codes "am" ∷ codes "pm" ∷ codes "a.m" ∷ codes "p.m" ∷ codes "a. m" ∷ codes "p. m" ∷
    (codes "a." ++ 194 ∷ 160 ∷ codes "m") ∷ (codes "p." ++ 194 ∷ 160 ∷ codes "m") ∷ []

abbrev pub clocks : List (List ℕ)
clocks =
    codes "29:59" ∷ codes "9:59" ∷ codes "29h59" ∷ codes "9h59" ∷ codes "29.59.59" ∷ codes "29-59-59" ∷
    codes "19am" ∷ codes "19pm" ∷ codes "9am" ∷ codes "9pm" ∷ codes "19 am" ∷ codes "19 pm" ∷ codes "9 am" ∷ codes "9 pm" ∷ []
