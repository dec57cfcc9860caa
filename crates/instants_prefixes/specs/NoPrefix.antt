-- Bytes at which a source reads no date.
use Rattle.std.specs.Prelude.{◌≡◌, ◌==◌, ◌||◌, ℕ, Bool, List, get_or, None, codes}
use Rattle.std.specs.Char.{is_ascii_digit, to_ascii_lowercase}
use Rattle.base.specs.Bytes.{plus, hyphen}
use Rattle.instants_sources.specs.Grammar.{Grammar}
use Rattle.instants_prefixes.specs.Given.{Given}
use Rattle.instants_prefixes.specs.Reading.{text_for, prefix_named}

-- no prefix of these bytes names a moment by a source, whatever is given
abbrev pub HasNoPrefix : List ℕ → Grammar → Type 0
HasNoPrefix bytes grammar = (given : Given) → prefix_named given grammar (text_for grammar bytes) ≡ None

-- a name begins with a letter, in any case
abbrev pub begins_name : List ℕ → ℕ → Bool
begins_name name letter = to_ascii_lowercase letter == get_or name 0 0

-- a date of RFC 2822 begins with a digit or with the name of a weekday
abbrev pub begins_day : ℕ → Bool
begins_day byte = ((((is_ascii_digit byte || begins_name (codes "fri") byte) || begins_name (codes "mon") byte) || begins_name (codes "sat") byte) || begins_name (codes "tue") byte) || begins_name (codes "wed") byte

-- one of ISO 8601 that says a day begins with its year: a digit or a sign
abbrev pub begins_year : ℕ → Bool
begins_year byte = (is_ascii_digit byte || byte == plus) || byte == hyphen
