-- The keys of modifiers, and the components that have them.
use Rattle.std.specs.Prelude.{ℕ, Bool, true, false, List, [], ◌∷◌, Option, codes}
use Rattle.description_lexer.specs.declared.version.DescriptionVersion.{DescriptionVersion}
use Rattle.description_tables.specs.Lookup.{Table, lookup}
use Rattle.description_tables.specs.declared.names.Name.{Name}
use Rattle.description_tables.specs.declared.names.Name.TheVariants as name
use Rattle.description_tables.specs.declared.keys.Key.{Key}
use Rattle.description_tables.specs.declared.keys.Key.TheVariants as key

abbrev pub keys : Table Key
keys =
    (codes "padding", key.Padding) ∷ (codes "repr", key.Repr) ∷ (codes "case_sensitive", key.CaseSensitive) ∷ (codes "one_indexed", key.OneIndexed) ∷
    (codes "base", key.Base) ∷ (codes "sign", key.Sign) ∷ (codes "range", key.Range) ∷ (codes "case", key.Case) ∷
    (codes "digits", key.Digits) ∷ (codes "count", key.Count) ∷ (codes "precision", key.Precision) ∷ (codes "trailing_input", key.TrailingInput) ∷ []

unfoldable pub key_of : DescriptionVersion → List ℕ → Option Key
key_of v word = lookup v keys word

abbrev pub has_key : Key → Name → Bool
has_key key.Padding name.Day = true
has_key key.Padding name.Ordinal = true
has_key key.Padding name.Minute = true
has_key key.Padding name.Second = true
has_key key.Padding name.OffsetMinute = true
has_key key.Padding name.OffsetSecond = true
has_key key.Padding name.Month = true
has_key key.Padding name.WeekNumber = true
has_key key.Padding name.Year = true
has_key key.Padding name.Hour = true
has_key key.Padding name.OffsetHour = true
has_key key.Repr name.Month = true
has_key key.Repr name.Weekday = true
has_key key.Repr name.WeekNumber = true
has_key key.Repr name.Year = true
has_key key.Repr name.Hour = true
has_key key.CaseSensitive name.Month = true
has_key key.CaseSensitive name.Weekday = true
has_key key.CaseSensitive name.Period = true
has_key key.OneIndexed name.Weekday = true
has_key key.Base name.Year = true
has_key key.Sign name.Year = true
has_key key.Sign name.OffsetHour = true
has_key key.Sign name.UnixTimestamp = true
has_key key.Range name.Year = true
has_key key.Case name.Period = true
has_key key.Digits name.Subsecond = true
has_key key.Count name.Ignore = true
has_key key.Precision name.UnixTimestamp = true
has_key key.TrailingInput name.End = true
has_key k n = false
