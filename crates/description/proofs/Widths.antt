-- In version 3 a component's longest value is no longer than its text.
use Rattle.std.proofs.Common.{◌≡◌, ℕ, ◌+◌, ◌≤◌, ◌<◌, List, [], ◌∷◌, ◌++◌, length, Option, Some, None, Ok, Err, Bool, true, false, cond, refl, sym, ap, subst, ◌∙◌, arith, inl, inr}
use Rattle.std.specs.Prelude.{codes, ◌&&◌}
use Rattle.std.specs.Option.{option_map, option_and_then}
use Rattle.description_modifiers.specs.Ignored.{ignored}
use Rattle.description_modifiers.specs.declared.ignore.Ignore.{Ignore}
use Rattle.std.proofs.lemmas.List.{length-append}
use Rattle.base.specs.Bytes.{colon, right_bracket}
use Rattle.description_lexer.specs.Fault.{Fault, DuplicateModifier, MissingRequiredModifier, InvalidComponentName}
use Rattle.description_lexer.specs.Answer.{◌>>=◌}
use Rattle.description_modifiers.specs.declared.choices.Padding.{Padding}
use Rattle.description_modifiers.specs.declared.choices.MonthRepr.{MonthRepr}
use Rattle.description_modifiers.specs.declared.choices.MonthRepr.TheVariants as month
use Rattle.description_modifiers.specs.declared.choices.WeekdayRepr.{WeekdayRepr}
use Rattle.description_modifiers.specs.declared.choices.WeekdayRepr.TheVariants as weekday
use Rattle.description_modifiers.specs.declared.choices.WeekNumberRepr.{WeekNumberRepr}
use Rattle.description_modifiers.specs.declared.choices.WeekNumberRepr.TheVariants as week
use Rattle.description_modifiers.specs.declared.choices.YearRepr.{YearRepr}
use Rattle.description_modifiers.specs.declared.choices.YearRepr.TheVariants as year
use Rattle.description_modifiers.specs.declared.choices.YearRange.{YearRange}
use Rattle.description_modifiers.specs.declared.choices.YearRange.TheVariants as range
use Rattle.description_modifiers.specs.declared.choices.SubsecondDigits.{SubsecondDigits}
use Rattle.description_modifiers.specs.declared.choices.SubsecondDigits.TheVariants as digit
use Rattle.description_modifiers.specs.declared.choices.UnixTimestampPrecision.{UnixTimestampPrecision}
use Rattle.description_modifiers.specs.declared.choices.UnixTimestampPrecision.TheVariants as unit
use Rattle.description_items.specs.declared.component.Component.{Component}
use Rattle.description_items.specs.declared.component.Component.TheVariants as component
use Rattle.description_items.specs.Modern.{modern_month, modern_weekday, modern_week_number, modern_year, modern_hour, modern_timestamp}
use Rattle.description_lexer.specs.declared.version.DescriptionVersion.TheVariants.{Three}
use Rattle.description_lexer.specs.Version.{is_three}
use Rattle.description_lexer.specs.Text.{Rest}
use Rattle.description_lexer.specs.Words.{Modifier}
use Rattle.description_lexer.proofs.Readings.{bind_ok, ok_is, not_ok, chosen}
use Rattle.description_tables.specs.declared.names.Name.{Name}
use Rattle.description_tables.specs.declared.names.Name.TheVariants as name
use Rattle.description_tables.specs.declared.keys.Key.{Key}
use Rattle.description_tables.specs.declared.keys.Key.TheVariants as key
use Rattle.description_tables.specs.declared.chosen.Chosen.{Chosen}
use Rattle.description_tables.specs.Names.{name_of, name_text}
use Rattle.description_tables.specs.Keys.{key_of, has_key}
use Rattle.description_tables.specs.Lookup.{lookup}
use Rattle.description_tables.specs.Values.{signs}
use Rattle.description_tables.specs.Chosen.{nothing, with_value, is_chosen}
use Rattle.description_tables.specs.Made.{made}
use Rattle.description_tables.specs.Component.{found, bad, key_in, with_modifier, with_modifiers, combined, named, component_of}
use Rattle.description_tree.specs.Reserved.{digits_width, width_of}
use Rattle.description.proofs.Tables.{some_is, none_not, name_is, key_text, key_is, sign_is, key_found, value_found, found_is}
use Rattle.description_grammar.specs.Heads.{SpellsModifiers, SpellsComponent}

-- ---- widths by names

month_width : (r : MonthRepr) (p : Padding) (s : Bool) → width_of (modern_month r p s) ≤ 9
unfolding width_of
month_width month.Numerical p s = omega arith
month_width r p s = omega arith

weekday_width : (r : WeekdayRepr) (i s : Bool) → width_of (modern_weekday r i s) ≤ 9
unfolding width_of
weekday_width weekday.Short i s = omega arith
weekday_width r i s = omega arith

week_width : (r : WeekNumberRepr) (p : Padding) → width_of (modern_week_number r p) ≤ 9
unfolding width_of
week_width week.Iso p = omega arith
week_width r p = omega arith

year_width : (iso : Bool) (r : YearRepr) (g : YearRange) (p : Padding) (s : Bool) → width_of (modern_year iso r g p s) ≤ 9
unfolding width_of
year_width true year.Full range.Extended p s = omega arith
year_width true year.Century range.Extended p s = omega arith
year_width false year.Full range.Extended p s = omega arith
year_width false year.Century range.Extended p s = omega arith
year_width iso r g p s = omega arith

hour_width : (twelve : Bool) (p : Padding) → width_of (modern_hour twelve p) ≤ 9
unfolding width_of
hour_width true p = omega arith
hour_width false p = omega arith

timestamp_width : (u : UnixTimestampPrecision) (s : Bool) → width_of (modern_timestamp u s) ≤ 24
unfolding width_of
timestamp_width unit.Second s = omega arith
timestamp_width u s = omega arith

digits_most : (d : SubsecondDigits) → digits_width d ≤ 9
digits_most digit.One = omega arith
digits_most d = omega arith

abbrev most : Name → ℕ
most name.UnixTimestamp = 24
most n = 9

-- whatever was chosen
any_width : (n : Name) (d : Chosen) (c : Component) → made Three n d ≡ Some c → width_of c ≤ most n
unfolding width_of
any_width name.Month d c e = subst (λ (c : Component). width_of c ≤ 9) (some_is _ c e) (month_width _ _ _)
any_width name.Weekday d c e = subst (λ (c : Component). width_of c ≤ 9) (some_is _ c e) (weekday_width _ _ _)
any_width name.WeekNumber d c e = subst (λ (c : Component). width_of c ≤ 9) (some_is _ c e) (week_width _ _)
any_width name.Year d c e = subst (λ (c : Component). width_of c ≤ 9) (some_is _ c e) (year_width _ _ _ _ _)
any_width name.Hour d c e = subst (λ (c : Component). width_of c ≤ 9) (some_is _ c e) (hour_width _ _)
any_width name.UnixTimestamp d c e = subst (λ (c : Component). width_of c ≤ 24) (some_is _ c e) (timestamp_width _ _)
any_width name.Subsecond d c e = subst (λ (c : Component). width_of c ≤ 9) (some_is _ c e) (digits_most _)
any_width name.Ignore d c e = of_ignored (option_and_then ignored d.count) e
  where
    of_ignored : (o : Option Ignore) → option_map (λ i. component.Ignore i) o ≡ Some c → width_of c ≤ 9
    of_ignored None e = absurd (none_not c e)
    of_ignored (Some i) e = subst (λ (c : Component). width_of c ≤ 9) (some_is _ c e) (omega arith)
any_width n d c e = subst (λ (c : Component). width_of c ≤ 9) (some_is _ c e) (omega arith)

-- where nothing was chosen
default_width : (n : Name) (c : Component) → made Three n nothing ≡ Some c → width_of c ≤ 2 + length (name_text n)
unfolding width_of
default_width name.Ignore c e = absurd (none_not c e)
default_width n c e = subst (λ (c : Component). width_of c ≤ 2 + length (name_text n)) (some_is _ c e) (omega arith)

-- ---- what a modifier takes

-- the key and the value of the modifier that was taken first
record TakenFirst (n : Name) (m : Modifier) : Type 0 where
  key : Key
  is_key : key_of Three m.key.text ≡ Some key
  fits : has_key key n ≡ true
  value : Chosen
  is_value : with_value Three n nothing key m.value.text ≡ Some value

taken_first : (n : Name) (d : Chosen) (m : Modifier) → with_modifier Three n nothing m ≡ Ok d → TakenFirst n m
unfolding with_modifier
taken_first n d m e =
    let a = bind_ok (key_in Three n m.key) (λ k. cond (is_three Three && is_chosen nothing k) (Err (DuplicateModifier m.key.text m.key.index)) (found (with_value Three n nothing k m.value.text) (bad m.value))) d e in
    let k = key_found (key_of Three m.key.text) n (bad m.key) a.0 a.1 in
    elim (chosen (is_three Three && is_chosen nothing a.0) (Err (DuplicateModifier m.key.text m.key.index)) (found (with_value Three n nothing a.0 m.value.text) (bad m.value)) (Ok d) a.2) [
      | inl h ↦ absurd (not_ok _ d h.1)
      | inr h ↦ record { key = a.0; is_key = k.0; fits = k.1; value = d; is_value = value_found (with_value Three n nothing a.0 m.value.text) (bad m.value) d h.1 }
    ]

-- a timestamp's modifier is no shorter than this
timestamp_modifier : (m : Modifier) → TakenFirst name.UnixTimestamp m → 0 < length m.value.text → 8 ≤ 2 + length m.key.text + length m.value.text
timestamp_modifier m t some = by_key t.key (key_is m.key.text t.key t.is_key) t.fits t.value t.is_value
  where
    sign_value : (o : Option Bool) (d : Chosen) → lookup Three signs m.value.text ≡ o → option_map (λ x. record nothing { sign = Some x }) o ≡ Some d → 9 ≤ length m.value.text
    sign_value None d is_o e = absurd (none_not d e)
    sign_value (Some false) d is_o e = omega (arith, ap (length {A = ℕ}) (sign_is m.value.text false is_o))
    sign_value (Some true) d is_o e = omega (arith, ap (length {A = ℕ}) (sign_is m.value.text true is_o))

    by_key : (k : Key) → m.key.text ≡ key_text k → has_key k name.UnixTimestamp ≡ true → (d : Chosen) → with_value Three name.UnixTimestamp nothing k m.value.text ≡ Some d → 8 ≤ 2 + length m.key.text + length m.value.text
    by_key key.Sign is_key fits d e = omega (arith, sign_value (lookup Three signs m.value.text) d refl e)
    by_key key.Precision is_key fits d e = omega (arith, ap (length {A = ℕ}) is_key)
    by_key k is_key fits d e = absurd cc

abbrev least : Name → ℕ
least name.UnixTimestamp = 8
least n = 4

modifier_len : (n : Name) (m : Modifier) → TakenFirst n m → 0 < length m.key.text → 0 < length m.value.text → least n ≤ 2 + length m.key.text + length m.value.text
modifier_len name.UnixTimestamp m t some_key some = timestamp_modifier m t some
modifier_len n m t some_key some = omega arith

-- ---- a component

enough : (n : Name) → most n ≤ 2 + length (name_text n) + least n
enough name.UnixTimestamp = omega arith
enough n = omega arith

-- the same, by the modifiers that there are
chosen_width : (n : Name) (at : ℕ) (own : List ℕ) (ms : List Modifier) (b d : Chosen) (c : Component) → SpellsModifiers at own ms → with_modifiers Three n nothing ms ≡ Ok b → combined Three n b ms ≡ Ok d → made Three n d ≡ Some c → width_of c ≤ 2 + length (name_text n) + length own
unfolding with_modifiers combined
chosen_width n at own [] b d c h with_is d_is e =
    let same : d ≡ nothing = sym (ok_is b d d_is) ∙ sym (ok_is nothing b with_is) in
    let at_default : made Three n nothing ≡ Some c = ap (made Three n) (sym same) ∙ e in
    omega (arith, default_width n c at_default)
chosen_width n at own (m ∷ ms) b d c (first, rest, parts, one, more) with_is d_is e =
    let a = bind_ok (with_modifier Three n nothing m) (λ x. with_modifiers Three n x ms) b with_is in
    let len = modifier_len n m (taken_first n a.0 m a.1) one.is_key.0 one.is_value.0 in
    let own_len : 2 + length m.key.text + length m.value.text ≤ length own = omega (arith, ap (length {A = ℕ}) parts, length-append first rest, ap (length {A = ℕ}) one.parts, length-append one.blank (m.key.text ++ colon ∷ m.value.text), length-append m.key.text (colon ∷ m.value.text), one.some_space) in
    omega (arith, any_width n d c e, enough n, len, own_len)

pub component_width : (own : List ℕ) (c : Component) → SpellsComponent Three own c → width_of c ≤ length own
unfolding component_of named
component_width own c h =
    let g = h.is_head in
    let lacking : Rest → Fault = λ word. MissingRequiredModifier (codes "count") word.index in
    let a = bind_ok (named Three h.name) (λ n. with_modifiers Three n nothing h.modifiers >>= λ c. combined Three n c h.modifiers >>= λ d. found (made Three n d) (lacking h.name)) c h.means in
    let b = bind_ok (with_modifiers Three a.0 nothing h.modifiers) (λ c. combined Three a.0 c h.modifiers >>= λ d. found (made Three a.0 d) (lacking h.name)) c a.2 in
    let d = bind_ok (combined Three a.0 b.0 h.modifiers) (λ d. found (made Three a.0 d) (lacking h.name)) c b.2 in
    let is_name : h.name.text ≡ name_text a.0 = name_is h.name.text a.0 (found_is (name_of Three h.name.text) (InvalidComponentName h.name.text h.name.index) a.0 a.1) in
    let width = chosen_width a.0 (0 + 1 + length g.first + length h.name.text) g.middle h.modifiers b.0 d.0 c g.modifiers b.1 d.1 (found_is (made Three a.0 d.0) (lacking h.name) c d.2) in
    omega (arith, width, ap (length {A = ℕ}) is_name, ap (length {A = ℕ}) h.parts, length-append h.head (right_bracket ∷ []), ap (length {A = ℕ}) g.parts, length-append g.first (h.name.text ++ (g.middle ++ g.last)), length-append h.name.text (g.middle ++ g.last), length-append g.middle g.last)
