-- What the tables of version 3 have, those of version 2 have too.
use Rattle.std.proofs.Common.{◌≡◌, ℕ, List, map, Option, Some, None, false, refl, ap, ◌∙◌}
use Rattle.std.specs.Option.{option_map}
use Rattle.description_lexer.specs.declared.version.DescriptionVersion.TheVariants.{Two, Three}
use Rattle.description_tables.specs.declared.names.Name.{Name}
use Rattle.description_tables.specs.declared.names.Name.TheVariants as name
use Rattle.description_tables.specs.declared.keys.Key.{Key}
use Rattle.description_tables.specs.declared.keys.Key.TheVariants as key
use Rattle.description_tables.specs.declared.chosen.Chosen.{Chosen}
use Rattle.description_tables.specs.Lookup.{Table, lookup}
use Rattle.description_tables.specs.Names.{names, name_of}
use Rattle.description_tables.specs.Keys.{keys, key_of}
use Rattle.description_tables.specs.Values.{paddings, flags, bases, signs, ranges, cases, digit_counts, precisions, trailing_inputs, reprs}
use Rattle.description_tables.specs.Chosen.{with_value}
use Rattle.description_grammar.specs.Heads.{is_nesting}
use Rattle.description.proofs.Tables.{none_not, by_entry}

-- each word of a table is found there, whatever the case of its letters
abbrev Own : {A : Type 0} → Table A → Type 0
Own entries = map (λ e. lookup Two entries e.0) entries ≡ map (λ e. Some e.1) entries

-- what version 3 finds in a table, version 2 finds too
lookup_two : {A : Type 0} (entries : Table A) → Own entries → (w : List ℕ) (x : A) → lookup Three entries w ≡ Some x → lookup Two entries w ≡ Some x
lookup_two entries = by_entry (λ e. lookup Two entries e.0) (λ e. Some e.1) entries

-- ---- names and keys

pub name_two : (w : List ℕ) (n : Name) → name_of Three w ≡ Some n → name_of Two w ≡ Some n
unfolding name_of lookup
name_two = lookup_two names refl

pub no_nesting_two : (w : List ℕ) (n : Name) → name_of Three w ≡ Some n → is_nesting Two w ≡ false
unfolding name_of
no_nesting_two = by_entry (λ e. is_nesting Two e.0) (λ e. false) names refl

pub key_two : (w : List ℕ) (k : Key) → key_of Three w ≡ Some k → key_of Two w ≡ Some k
unfolding key_of lookup
key_two = lookup_two keys refl

-- ---- a value

reprs_two : (n : Name) → Own (reprs n)
unfolding lookup
reprs_two name.Month = refl
reprs_two name.Weekday = refl
reprs_two name.WeekNumber = refl
reprs_two name.Year = refl
reprs_two name.Hour = refl
reprs_two n = refl

map_two : {A B : Type 0} (f : A → B) (o p : Option A) (y : B) → ((x : A) → o ≡ Some x → p ≡ Some x) → option_map f o ≡ Some y → option_map f p ≡ Some y
map_two f None p y same e = absurd (none_not y e)
map_two f (Some x) p y same e = ap (option_map f) (same x refl) ∙ e

by_table : {A B : Type 0} (f : A → B) (entries : Table A) (w : List ℕ) (y : B) → Own entries → option_map f (lookup Three entries w) ≡ Some y → option_map f (lookup Two entries w) ≡ Some y
by_table f entries w y own = map_two f (lookup Three entries w) (lookup Two entries w) y (lookup_two entries own w)

pub value_two : (n : Name) (c d : Chosen) (k : Key) (w : List ℕ) → with_value Three n c k w ≡ Some d → with_value Two n c k w ≡ Some d
unfolding lookup
value_two n c d key.Padding w = by_table _ paddings w d refl
value_two n c d key.Repr w = by_table _ (reprs n) w d (reprs_two n)
value_two n c d key.CaseSensitive w = by_table _ flags w d refl
value_two n c d key.OneIndexed w = by_table _ flags w d refl
value_two n c d key.Base w = by_table _ bases w d refl
value_two n c d key.Sign w = by_table _ signs w d refl
value_two n c d key.Range w = by_table _ ranges w d refl
value_two n c d key.Case w = by_table _ cases w d refl
value_two n c d key.Digits w = by_table _ digit_counts w d refl
value_two n c d key.Count w = λ e. e
value_two n c d key.Precision w = by_table _ precisions w d refl
value_two n c d key.TrailingInput w = by_table _ trailing_inputs w d refl
