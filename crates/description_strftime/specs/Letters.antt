-- What the letters of strftime stand for: those of POSIX in its C locale, and the usual ones of GNU.
use Rattle.std.specs.Prelude.{ℕ, ◌==◌, ◌||◌, Bool, true, false, List, [], ◌∷◌, map, Option, Some, None, if◌then◌else◌, codes}
use Rattle.std.specs.Option.{option_map, option_or, unwrap_or}
use Rattle.base.specs.Bytes.{tab, line_feed, percent}
use Rattle.description_modifiers.specs.declared.choices.Padding.{Padding}
use Rattle.description_modifiers.specs.declared.choices.Padding.TheVariants as padding
use Rattle.description_items.specs.declared.component.Component.{Component}
use Rattle.description_items.specs.declared.component.Component.TheVariants as component
use Rattle.description_items.specs.Tree.{Tree, Literal, Part}

-- the byte is one of these
abbrev pub is_in : List ℕ → ℕ → Bool
is_in [] b = false
is_in (c ∷ []) b = b == c
is_in (c ∷ d ∷ others) b = b == c || is_in (d ∷ others) b

-- a flag
unfoldable pub flag_of : ℕ → Option Padding
flag_of b =
    if is_in (codes "_") b then Some padding.Space
    else (if is_in (codes "-") b then Some padding.None
    else (if is_in (codes "0") b then Some padding.Zero
    else None))

-- how a number is padded under a flag, and where there is none
abbrev pub zero_or : Option Padding → Padding
zero_or flag = unwrap_or flag padding.Zero

abbrev pub space_or : Option Padding → Padding
space_or flag = unwrap_or flag padding.Space

-- days and weeks
unfoldable pub day_number : Option Padding → ℕ → Option Component
day_number flag letter =
    if is_in (codes "d") letter then Some (component.Day (record { padding = zero_or flag }))
    else (if is_in (codes "e") letter then Some (component.Day (record { padding = space_or flag }))
    else (if is_in (codes "j") letter then Some (component.Ordinal (record { padding = zero_or flag }))
    else (if is_in (codes "m") letter then Some (component.MonthNumerical (record { padding = zero_or flag }))
    else (if is_in (codes "U") letter then Some (component.WeekNumberSunday (record { padding = zero_or flag }))
    else (if is_in (codes "V") letter then Some (component.WeekNumberIso (record { padding = zero_or flag }))
    else (if is_in (codes "W") letter then Some (component.WeekNumberMonday (record { padding = zero_or flag }))
    else None))))))

-- years
unfoldable pub year_number : Option Padding → ℕ → Option Component
year_number flag letter =
    if is_in (codes "C") letter then Some (component.CalendarYearCenturyExtendedRange (record { padding = zero_or flag; sign_is_mandatory = false }))
    else (if is_in (codes "g") letter then Some (component.IsoYearLastTwo (record { padding = zero_or flag }))
    else (if is_in (codes "G") letter then Some (component.IsoYearFullExtendedRange (record { padding = zero_or flag; sign_is_mandatory = false }))
    else (if is_in (codes "y") letter then Some (component.CalendarYearLastTwo (record { padding = zero_or flag }))
    else (if is_in (codes "Y") letter then Some (component.CalendarYearFullExtendedRange (record { padding = zero_or flag; sign_is_mandatory = false }))
    else None))))

-- times of day
unfoldable pub time_number : Option Padding → ℕ → Option Component
time_number flag letter =
    if is_in (codes "H") letter then Some (component.Hour24 (record { padding = zero_or flag }))
    else (if is_in (codes "I") letter then Some (component.Hour12 (record { padding = zero_or flag }))
    else (if is_in (codes "k") letter then Some (component.Hour24 (record { padding = space_or flag }))
    else (if is_in (codes "l") letter then Some (component.Hour12 (record { padding = space_or flag }))
    else (if is_in (codes "M") letter then Some (component.Minute (record { padding = zero_or flag }))
    else (if is_in (codes "S") letter then Some (component.Second (record { padding = zero_or flag }))
    else None)))))

-- what no flag changes
unfoldable pub unpadded : ℕ → Option Component
unpadded letter =
    if is_in (codes "a") letter then Some (component.WeekdayShort (record { case_sensitive = true }))
    else (if is_in (codes "A") letter then Some (component.WeekdayLong (record { case_sensitive = true }))
    else (if is_in (codes "bh") letter then Some (component.MonthShort (record { case_sensitive = true }))
    else (if is_in (codes "B") letter then Some (component.MonthLong (record { case_sensitive = true }))
    else (if is_in (codes "p") letter then Some (component.Period (record { is_uppercase = true; case_sensitive = true }))
    else (if is_in (codes "P") letter then Some (component.Period (record { is_uppercase = false; case_sensitive = true }))
    else (if is_in (codes "s") letter then Some (component.UnixTimestampSecond (record { sign_is_mandatory = false }))
    else (if is_in (codes "u") letter then Some (component.WeekdayMonday (record { one_indexed = true }))
    else (if is_in (codes "w") letter then Some (component.WeekdaySunday (record { one_indexed = false }))
    else None))))))))

unfoldable pub component_of : Option Padding → ℕ → Option Component
component_of flag letter =
    option_or (day_number flag letter) (option_or (year_number flag letter) (option_or (time_number flag letter) (unpadded letter)))

-- a line feed, a tab, a percent sign
unfoldable pub text_of : ℕ → Option (List ℕ)
text_of letter =
    if is_in (codes "n") letter then Some (line_feed ∷ [])
    else (if is_in (codes "t") letter then Some (tab ∷ [])
    else (if is_in (codes "%") letter then Some (percent ∷ [])
    else None))

-- the one item that a letter stands for
unfoldable pub item_of : Option Padding → ℕ → Option Tree
item_of flag letter = option_or (option_map (λ c. Part c) (component_of flag letter)) (option_map (λ t. Literal t) (text_of letter))

-- the hours of an offset with their sign, and then its minutes
abbrev pub offset : List Tree
offset = Part (component.OffsetHour (record { sign_is_mandatory = true; padding = padding.Zero })) ∷ Part (component.OffsetMinute (record { padding = padding.Zero })) ∷ []

-- the letters that a composite one stands for, and what stands between them
unfoldable pub composite : ℕ → Option (List ℕ)
composite letter =
    if is_in (codes "c") letter then Some (codes "a b e H:M:S Y")
    else (if is_in (codes "Dx") letter then Some (codes "m/d/y")
    else (if is_in (codes "F") letter then Some (codes "Y-m-d")
    else (if is_in (codes "r") letter then Some (codes "I:M:S p")
    else (if is_in (codes "R") letter then Some (codes "H:M")
    else (if is_in (codes "TX") letter then Some (codes "H:M:S")
    else None)))))

-- what stands between two letters of a composite
unfoldable pub separator : ℕ → List ℕ
separator b =
    if is_in (codes "/") b then codes "/"
    else (if is_in (codes "-") b then codes "-"
    else (if is_in (codes ":") b then codes ":"
    else codes " "))

-- a letter of a composite, without a flag, or what stands between two of them
unfoldable pub part_of : ℕ → Tree
part_of b = unwrap_or (item_of None b) (Literal (separator b))

-- the items that a letter stands for
unfoldable pub letter_items : Option Padding → ℕ → Option (List Tree)
letter_items flag letter =
    option_or (option_map (λ t. t ∷ []) (item_of flag letter))
    (option_or (if is_in (codes "z") letter then Some offset else None)
    (option_map (λ letters. map part_of letters) (composite letter)))

-- letters and signs that have a meaning elsewhere
unfoldable pub refused : ℕ → Option (List ℕ)
refused letter =
    if is_in (codes "EO") letter then Some (codes "alternative form")
    else (if is_in (codes "Z") letter then Some (codes "zone name")
    else (if is_in (codes "^#") letter then Some (codes "flag")
    else None))
