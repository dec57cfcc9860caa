-- What modifiers have chosen, and which of them say anything.
use Rattle.std.specs.Prelude.{ℕ, not, Bool, true, false, List, Option, Some, None}
use Rattle.std.specs.Option.{option_map, is_some}
use Rattle.description_lexer.specs.declared.version.DescriptionVersion.{DescriptionVersion}
use Rattle.description_tables.specs.declared.names.Name.{Name}
use Rattle.description_tables.specs.declared.names.Name.TheVariants as name
use Rattle.description_tables.specs.declared.keys.Key.{Key}
use Rattle.description_tables.specs.declared.keys.Key.TheVariants as key
use Rattle.description_tables.specs.declared.values.Repr.{Repr}
use Rattle.description_tables.specs.declared.values.Repr.TheVariants as repr
use Rattle.description_tables.specs.declared.chosen.Chosen.{Chosen}
use Rattle.description_tables.specs.Lookup.{lookup}
use Rattle.description_tables.specs.Values.{paddings, flags, bases, signs, ranges, cases, digit_counts, precisions, trailing_inputs, reprs, count_of}

abbrev pub nothing : Chosen
nothing = record { padding = None; repr = None; case_sensitive = None; one_indexed = None; base = None; sign = None; range = None; case = None; digits = None; count = None; precision = None; trailing_input = None }

-- a value replaces an earlier one of its key
abbrev pub with_value : DescriptionVersion → Name → Chosen → Key → List ℕ → Option Chosen
with_value v n c key.Padding word = option_map (λ x. record c { padding = Some x }) (lookup v paddings word)
with_value v n c key.Repr word = option_map (λ x. record c { repr = Some x }) (lookup v (reprs n) word)
with_value v n c key.CaseSensitive word = option_map (λ x. record c { case_sensitive = Some x }) (lookup v flags word)
with_value v n c key.OneIndexed word = option_map (λ x. record c { one_indexed = Some x }) (lookup v flags word)
with_value v n c key.Base word = option_map (λ x. record c { base = Some x }) (lookup v bases word)
with_value v n c key.Sign word = option_map (λ x. record c { sign = Some x }) (lookup v signs word)
with_value v n c key.Range word = option_map (λ x. record c { range = Some x }) (lookup v ranges word)
with_value v n c key.Case word = option_map (λ x. record c { case = Some x }) (lookup v cases word)
with_value v n c key.Digits word = option_map (λ x. record c { digits = Some x }) (lookup v digit_counts word)
with_value v n c key.Count word = option_map (λ x. record c { count = Some x }) (count_of word)
with_value v n c key.Precision word = option_map (λ x. record c { precision = Some x }) (lookup v precisions word)
with_value v n c key.TrailingInput word = option_map (λ x. record c { trailing_input = Some x }) (lookup v trailing_inputs word)

abbrev pub is_chosen : Chosen → Key → Bool
is_chosen c key.Padding = is_some c.padding
is_chosen c key.Repr = is_some c.repr
is_chosen c key.CaseSensitive = is_some c.case_sensitive
is_chosen c key.OneIndexed = is_some c.one_indexed
is_chosen c key.Base = is_some c.base
is_chosen c key.Sign = is_some c.sign
is_chosen c key.Range = is_some c.range
is_chosen c key.Case = is_some c.case
is_chosen c key.Digits = is_some c.digits
is_chosen c key.Count = is_some c.count
is_chosen c key.Precision = is_some c.precision
is_chosen c key.TrailingInput = is_some c.trailing_input

-- representations by a name, of months and of weekdays, and by a number
abbrev pub is_named_month : Option Repr → Bool
is_named_month (Some repr.Long) = true
is_named_month (Some repr.Short) = true
is_named_month r = false

abbrev pub is_numbered_weekday : Option Repr → Bool
is_numbered_weekday (Some repr.Sunday) = true
is_numbered_weekday (Some repr.Monday) = true
is_numbered_weekday r = false

abbrev pub is_last_two : Option Repr → Bool
is_last_two (Some repr.LastTwo) = true
is_last_two r = false

-- named months have no padding, numbers no case, named weekdays no first number, last digits neither sign nor range
abbrev pub is_carried : Name → Option Repr → Key → Bool
is_carried name.Month r key.Padding = not (is_named_month r)
is_carried name.Month r key.CaseSensitive = is_named_month r
is_carried name.Weekday r key.CaseSensitive = not (is_numbered_weekday r)
is_carried name.Weekday r key.OneIndexed = is_numbered_weekday r
is_carried name.Year r key.Sign = not (is_last_two r)
is_carried name.Year r key.Range = not (is_last_two r)
is_carried n r k = true
