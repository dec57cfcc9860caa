-- The tables of versions 1 and 2 do not see the case of letters.
use Rattle.std.proofs.Common.{◌≡◌, ℕ, List, [], ◌∷◌, false, refl, sym, ap, ◌∙◌, inl, inr}
use Rattle.std.specs.Char.{is_ascii_digit}
use Rattle.std.specs.List.{list_all}
use Rattle.std.specs.Option.{option_map}
use Rattle.std.specs.Str.{str_to_ascii_lowercase}
use Rattle.description_lexer.specs.declared.version.DescriptionVersion.{DescriptionVersion}
use Rattle.description_lexer.specs.declared.version.DescriptionVersion.TheVariants.{One, Two, Three}
use Rattle.description_lexer.specs.Version.{is_three}
use Rattle.description_tables.specs.declared.names.Name.{Name}
use Rattle.description_tables.specs.declared.keys.Key.{Key}
use Rattle.description_tables.specs.declared.keys.Key.TheVariants as key
use Rattle.description_tables.specs.declared.chosen.Chosen.{Chosen}
use Rattle.description_tables.specs.Lookup.{Table, lookup}
use Rattle.description_tables.specs.Names.{names, name_of}
use Rattle.description_tables.specs.Keys.{keys, key_of}
use Rattle.description_tables.specs.Values.{paddings, flags, bases, signs, ranges, cases, digit_counts, precisions, trailing_inputs, reprs, count_of}
use Rattle.description_tables.specs.Chosen.{with_value}
use Rattle.description_grammar.specs.Heads.{is_nesting}
use Rattle.description_grammar.proofs.Runs.{which}
use Rattle.description.proofs.Letters.{Alike, lower_same, digits_alike, digits_same}

lookup_cased : {A : Type 0} (v : DescriptionVersion) (entries : Table A) (w u : List ℕ) → is_three v ≡ false → str_to_ascii_lowercase w ≡ str_to_ascii_lowercase u → lookup v entries w ≡ lookup v entries u
unfolding lookup
lookup_cased v [] w u h e = refl
lookup_cased One (entry ∷ entries) w u h e = rw (e, lookup_cased One entries w u h e) refl
lookup_cased Two (entry ∷ entries) w u h e = rw (e, lookup_cased Two entries w u h e) refl
lookup_cased Three (entry ∷ entries) w u h e = absurd cc

count_cased : (w u : List ℕ) → Alike w u → count_of w ≡ count_of u
unfolding count_of
count_cased w u h =
    elim (which (list_all is_ascii_digit w)) [
      | inl all ↦ ap count_of (digits_same w u h all)
      | inr some ↦ let other : list_all is_ascii_digit u ≡ false = sym (digits_alike w u h) ∙ some in rw (some, other) refl
    ]

pub name_cased : (v : DescriptionVersion) (w u : List ℕ) → is_three v ≡ false → str_to_ascii_lowercase w ≡ str_to_ascii_lowercase u → name_of v w ≡ name_of v u
unfolding name_of
name_cased v = lookup_cased v names

pub key_cased : (v : DescriptionVersion) (w u : List ℕ) → is_three v ≡ false → str_to_ascii_lowercase w ≡ str_to_ascii_lowercase u → key_of v w ≡ key_of v u
unfolding key_of
key_cased v = lookup_cased v keys

pub nesting_cased : (v : DescriptionVersion) (w u : List ℕ) → is_three v ≡ false → str_to_ascii_lowercase w ≡ str_to_ascii_lowercase u → is_nesting v w ≡ is_nesting v u
nesting_cased One w u h e = rw e refl
nesting_cased Two w u h e = rw e refl
nesting_cased Three w u h e = absurd cc

by_table : {A B : Type 0} (f : A → B) (v : DescriptionVersion) (entries : Table A) (w u : List ℕ) → is_three v ≡ false → Alike w u → option_map f (lookup v entries w) ≡ option_map f (lookup v entries u)
by_table f v entries w u h a = ap (option_map f) (lookup_cased v entries w u h (lower_same w u a))

pub value_cased : (v : DescriptionVersion) (w u : List ℕ) → is_three v ≡ false → Alike w u → (n : Name) (c : Chosen) (k : Key) → with_value v n c k w ≡ with_value v n c k u
value_cased v w u h a n c key.Padding = by_table _ v paddings w u h a
value_cased v w u h a n c key.Repr = by_table _ v (reprs n) w u h a
value_cased v w u h a n c key.CaseSensitive = by_table _ v flags w u h a
value_cased v w u h a n c key.OneIndexed = by_table _ v flags w u h a
value_cased v w u h a n c key.Base = by_table _ v bases w u h a
value_cased v w u h a n c key.Sign = by_table _ v signs w u h a
value_cased v w u h a n c key.Range = by_table _ v ranges w u h a
value_cased v w u h a n c key.Case = by_table _ v cases w u h a
value_cased v w u h a n c key.Digits = by_table _ v digit_counts w u h a
value_cased v w u h a n c key.Count = ap (option_map _) (count_cased w u a)
value_cased v w u h a n c key.Precision = by_table _ v precisions w u h a
value_cased v w u h a n c key.TrailingInput = by_table _ v trailing_inputs w u h a
