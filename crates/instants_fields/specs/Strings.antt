-- Strings: RFC 8259, section 7.
use Rattle.std.specs.Prelude.{ℕ, ◌+◌, ◌-◌, ◌*◌, ◌==◌, ◌&&◌, ◌||◌, Bool, false, nat_le, nat_lt, List, [], ◌∷◌, ◌++◌, Option, Some, None, option_map, bytes_eq, if◌then◌else◌}
use Rattle.std.specs.Char.{digit_value, encode_utf8}
use Rattle.instants_fields.specs.Pieces.{Piece, ◌>>=◌, give, Turn, another, last, repeated}
use Rattle.instants_fields.specs.declared.string.Character.{Character}
use Rattle.instants_fields.specs.declared.string.Character.TheVariants.{Plain, Escaped}

-- what a byte after a backslash names
abbrev pub short_escape : ℕ → Option ℕ
short_escape c =
    if (c == 34) || (c == 92) || (c == 47) then Some c
    else (if c == 98 then Some 8 else (if c == 102 then Some 12 else (if c == 110 then Some 10 else (if c == 114 then Some 13 else (if c == 116 then Some 9 else None)))))

-- a digit of sixteen
unfoldable pub hex_digit : Piece ℕ
hex_digit [] = None
hex_digit (c ∷ rest) = if nat_lt (digit_value c) 16 then Some (digit_value c, rest) else None

-- four of them
unfoldable pub four_digits : Piece ℕ
four_digits = do
  a ← hex_digit
  b ← hex_digit
  c ← hex_digit
  d ← hex_digit
  give (a * 4096 + b * 256 + c * 16 + d)

-- what follows a backslash
unfoldable pub escape : Piece ℕ
escape [] = None
escape (c ∷ rest) = if c == 117 then four_digits rest else option_map (λ code. (code, rest)) (short_escape c)

-- a character, or the quotation mark that ends the string
unfoldable pub character : Piece (Option Character)
character [] = None
character (c ∷ rest) =
    if c == 34 then Some (None, rest)
    else (if c == 92 then option_map (λ p. (Some (Escaped p.0), p.1)) (escape rest)
    else (if nat_lt c 32 then None else Some (Some (Plain c), rest)))

abbrev pub turn_of : Option Character → Turn Character
turn_of None = last []
turn_of (Some one) = another one

unfoldable pub turn : Piece (Turn Character)
turn = do
  one ← character
  give (turn_of one)

-- the characters of a string after the quotation mark that begins it
unfoldable pub string : Piece (List Character)
string = repeated turn

-- ---- what a string says

abbrev pub is_high : ℕ → Bool
is_high code = nat_le 0xd800 code && nat_lt code 0xdc00

abbrev pub is_low : ℕ → Bool
is_low code = nat_le 0xdc00 code && nat_lt code 0xe000

-- the code point of two surrogates
abbrev pub pair : ℕ → ℕ → ℕ
pair high low = 0x10000 + (high - 0xd800) * 1024 + (low - 0xdc00)

abbrev pub after_bytes : List ℕ → Option (List ℕ) → Option (List ℕ)
after_bytes bytes text = option_map (λ more. bytes ++ more) text

-- the bytes that characters say in UTF-8, where a high surrogate may stand before them; none, if a surrogate is alone
abbrev pub text_after : Option ℕ → List Character → Option (List ℕ)
text_after None [] = Some []
text_after None (Plain c ∷ more) = after_bytes (c ∷ []) (text_after None more)
text_after None (Escaped code ∷ more) =
    if is_high code then text_after (Some code) more
    else (if is_low code then None else after_bytes (encode_utf8 code) (text_after None more))
text_after (Some high) [] = None
text_after (Some high) (Plain c ∷ more) = None
text_after (Some high) (Escaped code ∷ more) = if is_low code then after_bytes (encode_utf8 (pair high code)) (text_after None more) else None

abbrev pub text_of : List Character → Option (List ℕ)
text_of characters = text_after None characters

-- whether they say these bytes
abbrev pub is_text : List ℕ → Option (List ℕ) → Bool
is_text bytes None = false
is_text bytes (Some text) = bytes_eq bytes text
