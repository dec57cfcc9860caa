-- Which of the bytes from a place on a date of ISO 8601 and one of RFC 2822 may have.
use Rattle.std.specs.Prelude.{ℕ, ◌+◌, ◌==◌, ◌&&◌, ◌||◌, not, Bool, List, [], ◌∷◌, take, get_or, codes, Option, Some, None, if◌then◌else◌}
use Rattle.std.specs.Char.{is_ascii_digit, is_ascii_alphabetic, is_ascii_alphanumeric, to_ascii_lowercase}
use Rattle.std.specs.List.{prefix_len}
use Rattle.std.specs.Option.{option_map_or}
use Rattle.base.specs.Bytes.{dot, lower_z}
use Rattle.instants_edges.specs.Edge.{is_one_of}

abbrev pub comma : ℕ
comma = 44

-- digits after a comma are a fraction, of thousandths, millionths or billionths, and no field of a list: no comma stands after them, and no point before a digit
abbrev pub is_fraction : List ℕ → Bool
is_fraction bytes =
    let long = prefix_len is_ascii_digit bytes in
    (long == 3 || long == 6 || long == 9) && not (get_or bytes long 0 == comma || (get_or bytes long 0 == dot && is_ascii_digit (get_or bytes (long + 1) 0)))

-- a point, a comma or a colon of a sentence or a list: no digit stands after it, or after a comma no fraction
abbrev pub is_stop : ℕ → List ℕ → Bool
is_stop byte after =
    (is_one_of (codes ".,:") byte && not (is_ascii_digit (get_or after 0 0))) || (byte == comma && not (is_fraction after))

-- the bytes up to the first at which they end: by the byte before it, that byte and those after it, how many there are from it on
unfoldable pub up_to_end : (ℕ → ℕ → List ℕ → Option ℕ) → ℕ → List ℕ → List ℕ
up_to_end ends before [] = []
up_to_end ends before (byte ∷ after) = option_map_or (λ long. take long (byte ∷ after)) (ends before byte after) (byte ∷ up_to_end ends byte after)

-- a date of ISO 8601 ends before such a mark
abbrev pub iso_end : ℕ → ℕ → List ℕ → Option ℕ
iso_end before byte after = if is_stop byte after then Some 0 else None

abbrev pub iso_text : List ℕ → List ℕ
iso_text bytes = up_to_end iso_end 0 bytes

-- a date of RFC 2822 ends before a comment, with the word `UT` or `Z`, and before another word of one letter, which its section 4.3 reads as a zone too
abbrev pub mail_end : ℕ → ℕ → List ℕ → Option ℕ
mail_end before byte after =
    if byte == 40 then Some 0
    else if is_ascii_alphanumeric before || not (is_ascii_alphabetic byte) then None
    else if not (is_ascii_alphanumeric (get_or after 0 0)) then Some (if to_ascii_lowercase byte == lower_z then 1 else 0)
    else if (to_ascii_lowercase byte == 117 && to_ascii_lowercase (get_or after 0 0) == 116) && not (is_ascii_alphanumeric (get_or after 1 0)) then Some 2
    else None

abbrev pub mail_text : ℕ → List ℕ → List ℕ
mail_text before bytes = up_to_end mail_end before bytes
