-- RFC 2822, section 3.3, and section 4.3 for the zones: the names of weekdays, months and zones, in any case.
use Rattle.std.specs.Prelude.{ℕ, ◌==◌, ◌&&◌, not, Bool, List, [], ◌∷◌, length, take, drop, Option, Some, None, option_map, nat_le, codes, if◌then◌else◌}
use Rattle.std.specs.Str.{str_eq_ignore_ascii_case}
use Rattle.std.specs.Char.{is_ascii_alphabetic, to_ascii_lowercase}
use Rattle.calendar_count.specs.declared.month.Month.{Month}
use Rattle.calendar_count.specs.declared.month.Month.TheVariants.{January, February, March, April, May, June, July, August, September, October, November, December}
use Rattle.calendar_count.specs.declared.weekday.Weekday.{Weekday}
use Rattle.calendar_count.specs.declared.weekday.Weekday.TheVariants.{Monday, Tuesday, Wednesday, Thursday, Friday, Saturday, Sunday}
use Rattle.parsing_combinator.specs.Pieces.{Piece, byte_of}

abbrev pub is_name : List ℕ → List ℕ → Bool
is_name text name = str_eq_ignore_ascii_case text name

-- three letters and what they name
abbrev pub named : {A : Type 0} → (List ℕ → Option A) → Piece A
named meaning bytes =
    if nat_le 3 (length bytes) then option_map (λ x. (x, drop 3 bytes)) (meaning (take 3 bytes)) else None

-- what a text names that is the first of these names
abbrev pub lookup : {A : Type 0} → List (List ℕ × A) → List ℕ → Option A
lookup [] text = None
lookup (entry ∷ entries) text = if is_name text entry.0 then Some entry.1 else lookup entries text

abbrev pub weekdays : List (List ℕ × Weekday)
weekdays =
    (codes "mon", Monday) ∷ (codes "tue", Tuesday) ∷ (codes "wed", Wednesday) ∷ (codes "thu", Thursday) ∷
    (codes "fri", Friday) ∷ (codes "sat", Saturday) ∷ (codes "sun", Sunday) ∷ []

unfoldable pub weekday_of : List ℕ → Option Weekday
weekday_of text = lookup weekdays text

unfoldable pub weekday : Piece Weekday
weekday = named weekday_of

abbrev pub months : List (List ℕ × Month)
months =
    (codes "jan", January) ∷ (codes "feb", February) ∷ (codes "mar", March) ∷ (codes "apr", April) ∷
    (codes "may", May) ∷ (codes "jun", June) ∷ (codes "jul", July) ∷ (codes "aug", August) ∷
    (codes "sep", September) ∷ (codes "oct", October) ∷ (codes "nov", November) ∷ (codes "dec", December) ∷ []

unfoldable pub month_of : List ℕ → Option Month
month_of text = lookup months text

unfoldable pub month : Piece Month
month = named month_of

-- hours west of Greenwich
abbrev pub zones : List (List ℕ × ℕ)
zones =
    (codes "est", 5) ∷ (codes "edt", 4) ∷ (codes "cst", 6) ∷ (codes "cdt", 5) ∷ (codes "mst", 7) ∷
    (codes "mdt", 6) ∷ (codes "pst", 8) ∷ (codes "pdt", 7) ∷ (codes "gmt", 0) ∷ []

unfoldable pub zone_of : List ℕ → Option ℕ
zone_of text = lookup zones text

-- `j`
abbrev pub lower_j : ℕ
lower_j = 106

-- a letter other than `J` and `j`: a military zone, of which the hours are not known
abbrev pub is_military : ℕ → Bool
is_military c = is_ascii_alphabetic c && not (to_ascii_lowercase c == lower_j)

unfoldable pub military_zone : Piece ℕ
military_zone bytes = option_map (λ x. (0, x.1)) (byte_of is_military bytes)

-- `UT`, or one letter
unfoldable pub short_zone : Piece ℕ
short_zone bytes = if is_name bytes (codes "ut") then Some (0, []) else military_zone bytes

-- a zone's name; the names with fewer than three letters are read where fewer than three bytes are left
unfoldable pub zone_name : Piece ℕ
zone_name bytes = if nat_le 3 (length bytes) then named zone_of bytes else short_zone bytes
