-- A text of version 3 with no nested items is one of version 2.
use Rattle.std.proofs.Common.{◌≡◌, ℕ, List, [], ◌∷◌, Option, Some, None, Result, Ok, Err, Bool, true, false, not, cond, refl, sym, ap, subst, ◌∙◌, inl, inr}
use Rattle.std.specs.Prelude.{codes, ◌&&◌, ◌||◌}
use Rattle.std.specs.Option.{option_map, option_and_then, unwrap_or, is_some}
use Rattle.description_modifiers.specs.Ignored.{ignored}
use Rattle.description_modifiers.specs.declared.ignore.Ignore.{Ignore}
use Rattle.std.specs.Str.{bytes_eq}
use Rattle.std.proofs.lemmas.Bool.{cond-true}
use Rattle.description_modifiers.specs.declared.choices.Padding.{Padding}
use Rattle.description_modifiers.specs.declared.choices.Padding.TheVariants as padding
use Rattle.description_modifiers.specs.declared.choices.MonthRepr.{MonthRepr}
use Rattle.description_modifiers.specs.declared.choices.MonthRepr.TheVariants as month
use Rattle.description_modifiers.specs.declared.choices.WeekdayRepr.{WeekdayRepr}
use Rattle.description_modifiers.specs.declared.choices.WeekdayRepr.TheVariants as weekday
use Rattle.description_modifiers.specs.declared.choices.WeekNumberRepr.{WeekNumberRepr}
use Rattle.description_modifiers.specs.declared.choices.WeekNumberRepr.TheVariants as week
use Rattle.description_modifiers.specs.declared.choices.YearRepr.{YearRepr}
use Rattle.description_modifiers.specs.declared.choices.YearRepr.TheVariants as year
use Rattle.description_modifiers.specs.declared.choices.YearRange.{YearRange}
use Rattle.description_modifiers.specs.declared.choices.YearRange.TheVariants as range
use Rattle.description_modifiers.specs.declared.choices.UnixTimestampPrecision.{UnixTimestampPrecision}
use Rattle.description_modifiers.specs.declared.choices.UnixTimestampPrecision.TheVariants as unit
use Rattle.description_lexer.specs.Fault.{Fault, DuplicateModifier, InvalidModifierCombination, MissingRequiredModifier, InvalidComponentName}
use Rattle.description_lexer.specs.Answer.{◌>>=◌}
use Rattle.description_items.specs.declared.component.Component.{Component}
use Rattle.description_items.specs.declared.component.Component.TheVariants as component
use Rattle.description_items.specs.Modern.{modern_month, modern_weekday, modern_week_number, modern_year, modern_hour, modern_timestamp}
use Rattle.description_items.specs.Tree.{Tree, Literal, Part, Compound, Optional, First}
use Rattle.description_lexer.specs.declared.version.DescriptionVersion.TheVariants.{Two, Three}
use Rattle.description_lexer.specs.Version.{is_three}
use Rattle.description_lexer.specs.Text.{Rest}
use Rattle.description_lexer.specs.Words.{Modifier}
use Rattle.description_lexer.proofs.Readings.{bind_ok, ok_is, not_ok, chosen, and_then_ok}
use Rattle.description_tables.specs.declared.names.Name.{Name}
use Rattle.description_tables.specs.declared.names.Name.TheVariants as name
use Rattle.description_tables.specs.declared.keys.Key.{Key}
use Rattle.description_tables.specs.declared.keys.Key.TheVariants as key
use Rattle.description_tables.specs.declared.chosen.Chosen.{Chosen}
use Rattle.description_tables.specs.Names.{name_of, name_text}
use Rattle.description_tables.specs.Keys.{key_of, has_key}
use Rattle.description_tables.specs.Chosen.{nothing, with_value, is_chosen, is_carried}
use Rattle.description_tables.specs.Made.{made, year_repr}
use Rattle.description_tables.specs.Component.{found, bad, key_among, key_in, with_modifier, with_modifiers, combined, named, component_of}
use Rattle.description_grammar.specs.Heads.{SpellsComponent}
use Rattle.description_grammar.specs.Spelling.{Spells}
use Rattle.description.specs.Versions.{extended, has_range, IsFlat, InTwo, SaysRange, SpellsRanged}
use Rattle.description.proofs.Tables.{none_not, some_is, key_text, key_is, key_found, value_found, found_is}
use Rattle.description.proofs.TwoTables.{name_two, no_nesting_two, key_two, value_two}

-- ---- modifiers

key_in_two : (n : Name) (p : Rest) (k : Key) → key_in Three n p ≡ Ok k → key_in Two n p ≡ Ok k
key_in_two n p k e =
    let f = key_found (key_of Three p.text) n (bad p) k e in
    ap (λ (o : Option Key). key_among o n (bad p)) (key_two p.text k f.0) ∙ cond-true (has_key k n) (Ok k) (Err (bad p)) f.1

-- the key of a modifier, and what its value makes
record TakesValue (n : Name) (c d : Chosen) (m : Modifier) : Type 0 where
  the_key : Key
  is_key : key_in Three n m.key ≡ Ok the_key
  makes : with_value Three n c the_key m.value.text ≡ Some d

takes_value : (n : Name) (c d : Chosen) (m : Modifier) → with_modifier Three n c m ≡ Ok d → TakesValue n c d m
unfolding with_modifier
takes_value n c d m e =
    let a = bind_ok (key_in Three n m.key) (λ k. cond (is_three Three && is_chosen c k) (Err (DuplicateModifier m.key.text m.key.index)) (found (with_value Three n c k m.value.text) (bad m.value))) d e in
    elim (chosen (is_three Three && is_chosen c a.0) (Err (DuplicateModifier m.key.text m.key.index)) (found (with_value Three n c a.0 m.value.text) (bad m.value)) (Ok d) a.2) [
      | inl h ↦ absurd (not_ok _ d h.1)
      | inr h ↦ record { the_key = a.0; is_key = a.1; makes = value_found (with_value Three n c a.0 m.value.text) (bad m.value) d h.1 }
    ]

modifier_two : (n : Name) (c d : Chosen) (m : Modifier) → with_modifier Three n c m ≡ Ok d → with_modifier Two n c m ≡ Ok d
unfolding with_modifier
modifier_two n c d m e =
    let t : TakesValue n c d m = takes_value n c d m e in
    and_then_ok (key_in Two n m.key) t.the_key (λ k. cond (is_three Two && is_chosen c k) (Err (DuplicateModifier m.key.text m.key.index)) (found (with_value Two n c k m.value.text) (bad m.value))) (key_in_two n m.key t.the_key t.is_key)
    ∙ ap (λ (o : Option Chosen). found o (bad m.value)) (value_two n c d t.the_key m.value.text t.makes)

modifiers_two : (n : Name) (c d : Chosen) (ms : List Modifier) → with_modifiers Three n c ms ≡ Ok d → with_modifiers Two n c ms ≡ Ok d
unfolding with_modifiers
modifiers_two n c d [] e = e
modifiers_two n c d (m ∷ ms) e =
    let a = bind_ok (with_modifier Three n c m) (λ x. with_modifiers Three n x ms) d e in
    and_then_ok (with_modifier Two n c m) a.0 (λ x. with_modifiers Two n x ms) (modifier_two n c a.0 m a.1) ∙ modifiers_two n a.0 d ms a.2

combined_two : (n : Name) (b d : Chosen) (ms : List Modifier) → combined Three n b ms ≡ Ok d → (combined Two n b ms ≡ Ok b) × (b ≡ d)
unfolding combined
combined_two n b d [] e = (refl, ok_is b d e)
combined_two n b d (m ∷ ms) e =
    let idle : Modifier → Result Chosen Fault = λ m. Err (InvalidModifierCombination m.key.text (name_text n) m.key.index) in
    let a = bind_ok (key_in Three n m.key) (λ k. cond (is_three Three && not (is_carried n b.repr k)) (idle m) (combined Three n b ms)) d e in
    elim (chosen (is_three Three && not (is_carried n b.repr a.0)) (idle m) (combined Three n b ms) (Ok d) a.2) [
      | inl h ↦ absurd (not_ok _ d h.1)
      | inr h ↦
          let others = combined_two n b d ms h.1 in
          (and_then_ok (key_in Two n m.key) a.0 (λ k. cond (is_three Two && not (is_carried n b.repr k)) (idle m) (combined Two n b ms)) (key_in_two n m.key a.0 a.1) ∙ others.0, others.1)
    ]

-- ---- the range

mapped : {A : Type 0} (f : A → Chosen) (o : Option A) (d : Chosen) → option_map f o ≡ Some d → (x : A) × (f x ≡ d)
mapped f None d e = absurd (none_not d e)
mapped f (Some x) d e = (x, some_is (f x) d e)

abbrev ranged : Chosen → Bool
ranged c = is_some c.range

-- a value of another key leaves the range as it is
other_key : {A : Type 0} (w : List ℕ) (k : Key) (c d : Chosen) (f : A → Chosen) (o : Option A) → w ≡ key_text k → bytes_eq (key_text k) (codes "range") ≡ false → ((x : A) → ranged (f x) ≡ ranged c) → option_map f o ≡ Some d → ranged d ≡ (bytes_eq w (codes "range") || ranged c)
other_key {A} w k c d f o is_key differs keeps e =
    let x = mapped f o d e in
    ap ranged (sym x.1) ∙ keeps x.0 ∙ sym (ap (λ (b : Bool). b || ranged c) (ap (λ (t : List ℕ). bytes_eq t (codes "range")) is_key ∙ differs))

by_key : (n : Name) (c d : Chosen) (k : Key) (w value : List ℕ) → w ≡ key_text k → with_value Three n c k value ≡ Some d → ranged d ≡ (bytes_eq w (codes "range") || ranged c)
by_key n c d key.Range w value is_key e =
    let x = mapped _ _ d e in
    ap ranged (sym x.1) ∙ sym (ap (λ (t : List ℕ). bytes_eq t (codes "range") || ranged c) is_key)
by_key n c d k w value is_key e = other_key w k c d _ _ is_key refl (λ x. refl) e

-- a range is chosen where it is among the modifiers
range_chosen : (n : Name) (c d : Chosen) (ms : List Modifier) → with_modifiers Three n c ms ≡ Ok d → ranged d ≡ (has_range ms || ranged c)
unfolding with_modifiers
range_chosen n c d [] e = ap ranged (sym (ok_is c d e))
range_chosen n c d (m ∷ ms) e =
    let a = bind_ok (with_modifier Three n c m) (λ x. with_modifiers Three n x ms) d e in
    let t : TakesValue n c a.0 m = takes_value n c a.0 m a.1 in
    let k = key_found (key_of Three m.key.text) n (bad m.key) t.the_key t.is_key in
    let here = by_key n c a.0 t.the_key m.key.text m.value.text (key_is m.key.text t.the_key k.0) t.makes in
    range_chosen n a.0 d ms a.2 ∙ ap (λ (b : Bool). has_range ms || b) here ∙ turned (has_range ms) (bytes_eq m.key.text (codes "range")) (ranged c)
  where
    turned : (a b c : Bool) → (a || (b || c)) ≡ ((b || a) || c)
    turned true true c = refl
    turned true false c = refl
    turned false true c = refl
    turned false false c = refl

-- ---- the component

month_kept : (r : MonthRepr) (p : Padding) (s : Bool) → extended (modern_month r p s) ≡ modern_month r p s
month_kept month.Numerical p s = refl
month_kept r p s = refl

weekday_kept : (r : WeekdayRepr) (i s : Bool) → extended (modern_weekday r i s) ≡ modern_weekday r i s
weekday_kept weekday.Short i s = refl
weekday_kept r i s = refl

week_kept : (r : WeekNumberRepr) (p : Padding) → extended (modern_week_number r p) ≡ modern_week_number r p
week_kept week.Iso p = refl
week_kept r p = refl

hour_kept : (twelve : Bool) (p : Padding) → extended (modern_hour twelve p) ≡ modern_hour twelve p
hour_kept true p = refl
hour_kept false p = refl

timestamp_kept : (u : UnixTimestampPrecision) (s : Bool) → extended (modern_timestamp u s) ≡ modern_timestamp u s
timestamp_kept unit.Second s = refl
timestamp_kept u s = refl

year_extended : (iso : Bool) (r : YearRepr) (p : Padding) (s : Bool) → extended (modern_year iso r range.Standard p s) ≡ modern_year iso r range.Extended p s
year_extended true year.Full p s = refl
year_extended true r p s = refl
year_extended false year.Full p s = refl
year_extended false r p s = refl

abbrev some_component : Component → Option Component
some_component c = Some c

-- what version 2 makes, where a range was chosen or not
abbrev in_two : Bool → Component → Component
in_two b c = cond b c (extended c)

kept : (b : Bool) (c : Component) → extended c ≡ c → some_component c ≡ Some (in_two b c)
kept true c e = refl
kept false c e = ap some_component (sym e)

made_kept : (b : Bool) (c x : Component) → extended c ≡ c → some_component c ≡ Some x → some_component c ≡ Some (in_two b x)
made_kept b c x same e = kept b c same ∙ ap (λ (y : Component). some_component (in_two b y)) (some_is c x e)

made_two : (n : Name) (d : Chosen) (c : Component) → made Three n d ≡ Some c → made Two n d ≡ Some (in_two (ranged d) c)
made_two name.Month d c e = made_kept (ranged d) _ c (month_kept _ _ _) e
made_two name.Weekday d c e = made_kept (ranged d) _ c (weekday_kept _ _ _) e
made_two name.WeekNumber d c e = made_kept (ranged d) _ c (week_kept _ _) e
made_two name.Hour d c e = made_kept (ranged d) _ c (hour_kept _ _) e
made_two name.UnixTimestamp d c e = made_kept (ranged d) _ c (timestamp_kept _ _) e
made_two name.Ignore d c e = of_ignored (option_and_then ignored d.count) e
  where
    of_ignored : (o : Option Ignore) → option_map (λ i. component.Ignore i) o ≡ Some c → option_map (λ i. component.Ignore i) o ≡ Some (in_two (ranged d) c)
    of_ignored None e = absurd (none_not c e)
    of_ignored (Some i) e = made_kept (ranged d) _ c refl e
made_two name.Year d c e = by_range d.range e
  where
    a_year : YearRange → Component
    a_year g = modern_year (unwrap_or d.base false) (year_repr d.repr) g (unwrap_or d.padding padding.Zero) (unwrap_or d.sign false)

    by_range : (g : Option YearRange) → some_component (a_year (unwrap_or g range.Standard)) ≡ Some c → some_component (a_year (unwrap_or g range.Extended)) ≡ Some (in_two (is_some g) c)
    by_range (Some g) e = e
    by_range None e = ap some_component (sym (year_extended _ _ _ _)) ∙ ap (λ (y : Component). some_component (extended y)) (some_is _ c e)
made_two n d c e = made_kept (ranged d) _ c refl e

pub component_two : (own : List ℕ) (c : Component) (h : SpellsComponent Three own c) → SpellsComponent Two own (in_two (has_range h.modifiers) c)
unfolding component_of named
component_two own c h =
    let g = h.is_head in
    let lacking : Fault = MissingRequiredModifier (codes "count") h.name.index in
    let a = bind_ok (named Three h.name) (λ n. with_modifiers Three n nothing h.modifiers >>= λ c. combined Three n c h.modifiers >>= λ d. found (made Three n d) lacking) c h.means in
    let b = bind_ok (with_modifiers Three a.0 nothing h.modifiers) (λ c. combined Three a.0 c h.modifiers >>= λ d. found (made Three a.0 d) lacking) c a.2 in
    let d = bind_ok (combined Three a.0 b.0 h.modifiers) (λ d. found (made Three a.0 d) lacking) c b.2 in
    let unknown : Fault = InvalidComponentName h.name.text h.name.index in
    let is_name : name_of Three h.name.text ≡ Some a.0 = found_is (name_of Three h.name.text) unknown a.0 a.1 in
    let both = combined_two a.0 b.0 d.0 h.modifiers d.1 in
    let makes : made Three a.0 b.0 ≡ Some c = ap (made Three a.0) both.1 ∙ found_is (made Three a.0 d.0) lacking c d.2 in
    let chosen_range : ranged b.0 ≡ has_range h.modifiers = range_chosen a.0 nothing b.0 h.modifiers b.1 ∙ or_false (has_range h.modifiers) in
    let made_so : made Two a.0 b.0 ≡ Some (in_two (has_range h.modifiers) c) = made_two a.0 b.0 c makes ∙ ap (λ (x : Bool). some_component (in_two x c)) chosen_range in
    record {
      head = h.head;
      name = h.name;
      modifiers = h.modifiers;
      parts = h.parts;
      is_head = record { first = g.first; middle = g.middle; last = g.last; parts = g.parts; is_first = g.is_first; is_name = g.is_name; no_nesting = no_nesting_two h.name.text a.0 is_name; name_at = g.name_at; modifiers = g.modifiers; is_last = g.is_last };
      means =
          and_then_ok (named Two h.name) a.0 (λ n. with_modifiers Two n nothing h.modifiers >>= λ c. combined Two n c h.modifiers >>= λ d. found (made Two n d) lacking) (ap (λ (o : Option Name). found o unknown) (name_two h.name.text a.0 is_name))
          ∙ and_then_ok (with_modifiers Two a.0 nothing h.modifiers) b.0 (λ c. combined Two a.0 c h.modifiers >>= λ d. found (made Two a.0 d) lacking) (modifiers_two a.0 nothing b.0 h.modifiers b.1)
          ∙ and_then_ok (combined Two a.0 b.0 h.modifiers) b.0 (λ d. found (made Two a.0 d) lacking) both.0
          ∙ ap (λ (o : Option Component). found o lacking) made_so;
    }
  where
    or_false : (b : Bool) → (b || false) ≡ b
    or_false true = refl
    or_false false = refl

-- ---- the items

pub items_two : (text : List ℕ) (ts : List Tree) → Spells Three text ts → IsFlat ts → InTwo text ts
items_two text [] e flat = record { items = []; spells = e; same = (e, refl) }
items_two text (Literal bytes ∷ ts) (own, more, parts, one, others) flat =
    let o : InTwo more ts = items_two more ts others flat in
    record { items = Literal bytes ∷ o.items; spells = (own, more, parts, one, o.spells); same = (own, more, o.items, parts, refl, o.same) }
items_two text (Part c ∷ ts) (own, more, parts, one, others) flat =
    let o : InTwo more ts = items_two more ts others flat in
    let d : Component = in_two (has_range one.modifiers) c in
    record { items = Part d ∷ o.items; spells = (own, more, parts, component_two own c one, o.spells); same = (own, more, d, o.items, parts, refl, (one, refl), o.same) }
items_two text (Compound us ∷ ts) h flat = absurd flat
items_two text (Optional f t ∷ ts) h flat = absurd flat
items_two text (First us ∷ ts) h flat = absurd flat

-- ---- the same items

says_range : (ms : List Modifier) (c : Component) → SaysRange ms c → in_two (has_range ms) c ≡ c
says_range ms c (inl same) = either (has_range ms)
  where
    either : (b : Bool) → in_two b c ≡ c
    either true = refl
    either false = same
says_range ms c (inr there) = ap (λ (b : Bool). in_two b c) there

pub ranged_two : (text : List ℕ) (ts : List Tree) → SpellsRanged text ts → Spells Three text ts × Spells Two text ts
ranged_two text [] e = (e, e)
ranged_two text (Literal bytes ∷ ts) (own, more, parts, one, others) =
    let o = ranged_two more ts others in
    ((own, more, parts, one, o.0), (own, more, parts, one, o.1))
ranged_two text (Part c ∷ ts) (own, more, parts, one, says, others) =
    let o = ranged_two more ts others in
    ((own, more, parts, one, o.0), (own, more, parts, subst (SpellsComponent Two own) (says_range one.modifiers c says) (component_two own c one), o.1))
ranged_two text (Compound us ∷ ts) h = absurd h
ranged_two text (Optional f t ∷ ts) h = absurd h
ranged_two text (First us ∷ ts) h = absurd h
