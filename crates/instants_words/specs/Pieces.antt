-- What one word says, where it says anything.
use Rattle.std.specs.Prelude.{ℕ, ◌+◌, ◌*◌, ◌&&◌, ◌==◌, nat_le, if◌then◌else◌, Option, None, Some, option_map, List, [], ◌∷◌, length, codes, ℤ, pos, neg_ℤ}
use Rattle.std.specs.Char.{is_ascii_digit}
use Rattle.std.specs.List.{list_all}
use Rattle.std.specs.Str.{bytes_eq}
use Rattle.std.specs.Str.Parse.{digits_value}
use Rattle.base.specs.Bytes.{plus, hyphen, colon}

-- a number from one to another that digits write, at most so many
unfoldable pub number_said : ℕ → ℕ → ℕ → List ℕ → Option ℕ
number_said least greatest most_digits word =
    let number = digits_value 10 word in
    if list_all is_ascii_digit word && nat_le (length word) most_digits && nat_le least number && nat_le number greatest then Some number else None

-- a limit is one to seven digits
abbrev pub limit_said : List ℕ → Option ℕ
limit_said word = number_said 1 1_048_576 7 word

-- the hours and minutes of a clock, in seconds
abbrev pub clock_seconds : Option ℕ → Option ℕ → Option ℕ
clock_seconds (Some hour) (Some minute) = Some (hour * 3600 + minute * 60)
clock_seconds (Some hour) None = None
clock_seconds None minute = None

-- a plus or a minus before a number
abbrev pub with_sign : ℕ → Option ℕ → Option ℤ
with_sign sign None = None
with_sign sign (Some number) =
    if sign == plus then Some (pos number) else (if sign == hyphen then Some (neg_ℤ (pos number)) else None)

-- an offset from UTC as `+HH:MM` or `-HH:MM`, which RFC 3339, section 5.6, calls a time-numoffset, in seconds
unfoldable pub offset_said : List ℕ → Option ℤ
offset_said (sign ∷ h ∷ i ∷ mark ∷ m ∷ n ∷ []) =
    if mark == colon then with_sign sign (clock_seconds (number_said 0 23 2 (h ∷ i ∷ [])) (number_said 0 59 2 (m ∷ n ∷ []))) else None
offset_said _ = None

-- `-` says that no offset is assumed, and an offset that it is
abbrev pub assumed_said : List ℕ → Option (Option ℤ)
assumed_said word = if bytes_eq word (codes "-") then Some None else option_map Some (offset_said word)
