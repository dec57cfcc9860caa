-- In versions 1 and 2 the case of letters in a component says nothing.
use Rattle.std.proofs.Common.{◌≡◌, ℕ, ◌+◌, List, [], ◌∷◌, ◌++◌, length, true, false, refl, sym, ap, subst, ◌∙◌, append_assoc, arith, inl, inr}
use Rattle.std.specs.Str.{str_eq_ignore_ascii_case}
use Rattle.base.specs.Bytes.{colon, left_bracket, right_bracket}
use Rattle.description_items.specs.declared.component.Component.{Component}
use Rattle.description_items.specs.Tree.{Tree, Part}
use Rattle.description_lexer.specs.Fault.{Fault}
use Rattle.description_lexer.specs.declared.version.DescriptionVersion.{DescriptionVersion}
use Rattle.description_lexer.specs.declared.version.DescriptionVersion.TheVariants.{One, Two, Three}
use Rattle.description_lexer.specs.Version.{is_three}
use Rattle.description_lexer.specs.Text.{Rest, is_space, is_no_colon, is_plain}
use Rattle.description_lexer.specs.Words.{Modifier}
use Rattle.description_grammar.specs.Heads.{Stops, SpellsModifier, SpellsModifiers, SpellsComponent}
use Rattle.description_grammar.specs.Spelling.{Spells}
use Rattle.description_grammar.proofs.Runs.{at_index}
use Rattle.description_grammar.proofs.Meaning.{AreAlike, AllAlike, component_agrees}
use Rattle.description.proofs.Letters.{IsLetter, space_agrees, colon_agrees, Alike, alike_from, lower_same, alike_length, alike_each, alike_word, CutAlike, cut_alike, alike_byte, alike_nothing}
use Rattle.description.proofs.CasedTables.{name_cased, key_cased, nesting_cased, value_cased}
use Rattle.description_grammar.proofs.ItemsComplete.{item_more}

-- what stands between words is no letter
no_open : IsLetter left_bracket → ⊥
no_open (lo, hi, inl h) = omega arith
no_open (lo, hi, inr h) = omega arith

no_close : IsLetter right_bracket → ⊥
no_close (lo, hi, inl h) = omega arith
no_close (lo, hi, inr h) = omega arith

no_colon_letter : IsLetter colon → ⊥
no_colon_letter (lo, hi, h) = omega arith

-- ---- modifiers

-- what is wrong with words in another case is not compared
abbrev any_faults : Fault → Fault → Type 0
any_faults e f = Unit {0}

record ModifierAlike (v : DescriptionVersion) (at : ℕ) (own : List ℕ) (m : Modifier) : Type 0 where
  other : Modifier
  spells : SpellsModifier at own other
  alike : AreAlike v any_faults m other

modifier_alike : (v : DescriptionVersion) (at to : ℕ) (own other : List ℕ) (m : Modifier) → is_three v ≡ false → SpellsModifier at own m → Alike own other → ModifierAlike v to other m
modifier_alike v at to own other m h s a =
    let c : CutAlike s.blank (m.key.text ++ colon ∷ m.value.text) other = cut_alike s.blank (m.key.text ++ colon ∷ m.value.text) other (subst (λ (t : List ℕ). Alike t other) s.parts a) in
    let k : CutAlike m.key.text (colon ∷ m.value.text) c.back = cut_alike m.key.text (colon ∷ m.value.text) c.back c.is_back in
    let value = alike_byte colon m.value.text k.back no_colon_letter k.is_back in
    let there : Modifier = record { key = at_index (to + length c.prefix) k.prefix; value = at_index (to + length c.prefix + length k.prefix + 1) value.0 } in
    record {
      other = there;
      spells = record {
        blank = c.prefix;
        parts = c.parts ∙ ap (λ (t : List ℕ). c.prefix ++ t) (k.parts ∙ ap (λ (t : List ℕ). k.prefix ++ t) value.1);
        is_space = alike_each is_space space_agrees s.blank c.prefix c.is_prefix s.is_space;
        some_space = omega (arith, alike_length s.blank c.prefix c.is_prefix, s.some_space);
        is_key = alike_word m.key.text k.prefix k.is_prefix s.is_key;
        no_colon = alike_each is_no_colon colon_agrees m.key.text k.prefix k.is_prefix s.no_colon;
        is_value = alike_word m.value.text value.0 value.2 s.is_value;
        key_at = refl;
        value_at = refl;
      };
      alike = record { key = key_cased v m.key.text k.prefix h (lower_same m.key.text k.prefix k.is_prefix); value = value_cased v m.value.text value.0 h value.2; bad_key = tt; bad_value = tt; twice = tt; idle = λ x. tt };
    }

record ModifiersAlike (v : DescriptionVersion) (at : ℕ) (own : List ℕ) (ms : List Modifier) : Type 0 where
  others : List Modifier
  spells : SpellsModifiers at own others
  alike : AllAlike v any_faults ms others

modifiers_alike : (v : DescriptionVersion) (ms : List Modifier) (at to : ℕ) (own other : List ℕ) → is_three v ≡ false → SpellsModifiers at own ms → Alike own other → ModifiersAlike v to other ms
modifiers_alike v [] at to own other h e a = record { others = []; spells = alike_nothing other (subst (λ (t : List ℕ). Alike t other) e a); alike = tt }
modifiers_alike v (m ∷ ms) at to own other h (first, rest, parts, one, more) a =
    let c : CutAlike first rest other = cut_alike first rest other (subst (λ (t : List ℕ). Alike t other) parts a) in
    let here : ModifierAlike v to c.prefix m = modifier_alike v at to first c.prefix m h one c.is_prefix in
    let later : ModifiersAlike v (to + length c.prefix) c.back ms = modifiers_alike v ms (at + length first) (to + length c.prefix) rest c.back h more c.is_back in
    record { others = here.other ∷ later.others; spells = (c.prefix, c.back, c.parts, here.spells, later.spells); alike = (here.alike, later.alike) }

-- ---- the component

component_alike : (v : DescriptionVersion) (own other : List ℕ) (c : Component) → is_three v ≡ false → Alike own other → SpellsComponent v own c → SpellsComponent v other c
component_alike v own other c h a s =
    let g = s.is_head in
    let whole : CutAlike s.head (right_bracket ∷ []) other = cut_alike s.head (right_bracket ∷ []) other (subst (λ (t : List ℕ). Alike t other) s.parts a) in
    let close = alike_byte right_bracket [] whole.back no_close whole.is_back in
    let back_is : whole.back ≡ right_bracket ∷ [] = close.1 ∙ ap (λ (t : List ℕ). right_bracket ∷ t) (alike_nothing close.0 close.2) in
    let inside = alike_byte left_bracket (g.first ++ (s.name.text ++ (g.middle ++ g.last))) whole.prefix no_open (subst (λ (t : List ℕ). Alike t whole.prefix) g.parts whole.is_prefix) in
    let first : CutAlike g.first (s.name.text ++ (g.middle ++ g.last)) inside.0 = cut_alike g.first (s.name.text ++ (g.middle ++ g.last)) inside.0 inside.2 in
    let name : CutAlike s.name.text (g.middle ++ g.last) first.back = cut_alike s.name.text (g.middle ++ g.last) first.back first.is_back in
    let middle : CutAlike g.middle g.last name.back = cut_alike g.middle g.last name.back name.is_back in
    let same = lower_same s.name.text name.prefix name.is_prefix in
    let words : ModifiersAlike v (0 + 1 + length first.prefix + length name.prefix) middle.prefix s.modifiers = modifiers_alike v s.modifiers (0 + 1 + length g.first + length s.name.text) (0 + 1 + length first.prefix + length name.prefix) g.middle middle.prefix h g.modifiers middle.is_prefix in
    let there : Rest = at_index (0 + 1 + length first.prefix) name.prefix in
    record {
      head = whole.prefix;
      name = there;
      modifiers = words.others;
      parts = whole.parts ∙ ap (λ (t : List ℕ). whole.prefix ++ t) back_is;
      is_head = record {
        first = first.prefix;
        middle = middle.prefix;
        last = middle.back;
        parts = inside.1 ∙ ap (λ (t : List ℕ). left_bracket ∷ t) (first.parts ∙ ap (λ (t : List ℕ). first.prefix ++ t) (name.parts ∙ ap (λ (t : List ℕ). name.prefix ++ t) middle.parts));
        is_first = alike_each is_space space_agrees g.first first.prefix first.is_prefix g.is_first;
        is_name = alike_word s.name.text name.prefix name.is_prefix g.is_name;
        no_nesting = sym (nesting_cased v s.name.text name.prefix h same) ∙ g.no_nesting;
        name_at = refl;
        modifiers = words.spells;
        is_last = alike_each is_space space_agrees g.last middle.back middle.is_back g.is_last;
      };
      means = (component_agrees v s.name there s.modifiers words.others (name_cased v s.name.text name.prefix h same) tt tt words.alike).ok c s.means;
    }

pub component_cased : (v : DescriptionVersion) (own other : List ℕ) (c : Component) → is_three v ≡ false → str_eq_ignore_ascii_case own other ≡ true → SpellsComponent v own c → SpellsComponent v other c
component_cased v own other c h e s = component_alike v own other c h (alike_from own other e) s

-- ---- the text round it

append_spelled : (v : DescriptionVersion) (prefix tail : List ℕ) (as_items ts : List Tree) → Stops (is_plain v) tail → Spells v prefix as_items → Spells v tail ts → Spells v (prefix ++ tail) (as_items ++ ts)
append_spelled v prefix tail [] ts stops e h = subst (λ (t : List ℕ). Spells v (t ++ tail) ts) (sym e) h
append_spelled v prefix tail (t ∷ items) ts stops (own, more, parts, one, others) h =
    (own, more ++ tail, ap (λ (x : List ℕ). x ++ tail) parts ∙ append_assoc own more tail, item_more v false 127 own more tail t stops one, append_spelled v more tail items ts stops others h)

-- a component's bracket ends a literal
bracket_first : (v : DescriptionVersion) (own back : List ℕ) (c : Component) → SpellsComponent v own c → Stops (is_plain v) (own ++ back)
bracket_first v own back c h = subst (λ (t : List ℕ). Stops (is_plain v) (t ++ back)) (sym (h.parts ∙ ap (λ (t : List ℕ). t ++ right_bracket ∷ []) h.is_head.parts)) (plain v)
  where
    plain : (v : DescriptionVersion) → is_plain v left_bracket ≡ false
    plain One = refl
    plain Two = refl
    plain Three = refl

pub text_cased : (v : DescriptionVersion) (prefix own other back : List ℕ) (before after : List Tree) (c : Component) → is_three v ≡ false → str_eq_ignore_ascii_case own other ≡ true → Spells v prefix before → SpellsComponent v own c → Spells v back after
    → Spells v (prefix ++ (own ++ back)) (before ++ Part c ∷ after) × Spells v (prefix ++ (other ++ back)) (before ++ Part c ∷ after)
text_cased v prefix own other back before after c h e f s b = (around own s, around other (component_cased v own other c h e s))
  where
    around : (text : List ℕ) → SpellsComponent v text c → Spells v (prefix ++ (text ++ back)) (before ++ Part c ∷ after)
    around text one = append_spelled v prefix (text ++ back) before (Part c ∷ after) (bracket_first v text back c one) f (text, back, refl, one, b)
