-- The bytes that definitions name: ASCII, ISO/IEC 646.
use Rattle.std.specs.Prelude.{ℕ}

abbrev pub tab : ℕ
tab = 9

abbrev pub line_feed : ℕ
line_feed = 10

abbrev pub form_feed : ℕ
form_feed = 12

abbrev pub carriage_return : ℕ
carriage_return = 13

abbrev pub space : ℕ
space = 32

-- `%`
abbrev pub percent : ℕ
percent = 37

-- `+`
abbrev pub plus : ℕ
plus = 43

-- `-`
abbrev pub hyphen : ℕ
hyphen = 45

-- `.`
abbrev pub dot : ℕ
dot = 46

-- `0`; the digit n is `digit_zero + n`
abbrev pub digit_zero : ℕ
digit_zero = 48

-- `:`
abbrev pub colon : ℕ
colon = 58

-- `Z`
abbrev pub upper_z : ℕ
upper_z = 90

-- `[`
abbrev pub left_bracket : ℕ
left_bracket = 91

-- `\`
abbrev pub backslash : ℕ
backslash = 92

-- `]`
abbrev pub right_bracket : ℕ
right_bracket = 93

-- `z`
abbrev pub lower_z : ℕ
lower_z = 122
