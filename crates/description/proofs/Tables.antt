-- Words by the tables of version 3.
use Rattle.std.proofs.Common.{◌≡◌, ℕ, List, [], ◌∷◌, map, Option, Some, None, Ok, Err, Bool, true, false, refl, sym, ap, subst, inl, inr}
use Rattle.std.specs.Prelude.{codes}
use Rattle.std.proofs.lemmas.Slice.Eq.{bytes_eq-Decides}
use Rattle.description_lexer.specs.Fault.{Fault}
use Rattle.description_lexer.specs.declared.version.DescriptionVersion.TheVariants.{Three}
use Rattle.description_lexer.specs.Words.{is_named}
use Rattle.description_lexer.proofs.Readings.{ok_is, not_ok, chosen}
use Rattle.description_tables.specs.Lookup.{Table, lookup}
use Rattle.description_tables.specs.declared.names.Name.{Name}
use Rattle.description_tables.specs.declared.keys.Key.{Key}
use Rattle.description_tables.specs.declared.keys.Key.TheVariants as key
use Rattle.description_tables.specs.declared.chosen.Chosen.{Chosen}
use Rattle.description_tables.specs.Names.{names, name_of, name_text}
use Rattle.description_tables.specs.Keys.{keys, key_of, has_key}
use Rattle.description_tables.specs.Values.{signs}
use Rattle.description_tables.specs.Component.{found, key_among}

-- ---- words by their tables

pub some_is : {A : Type 0} (x y : A) → Some x ≡ Some y → x ≡ y
some_is x y e = cc

pub none_not : {A : Type 0} (y : A) → None ≡ Some y → ⊥
none_not y e = cc

pub heads_are : {A : Type 0} (x y : A) (xs ys : List A) → (x ∷ xs) ≡ (y ∷ ys) → x ≡ y
heads_are x y xs ys e = cc

pub tails_are : {A : Type 0} (x y : A) (xs ys : List A) → (x ∷ xs) ≡ (y ∷ ys) → xs ≡ ys
tails_are x y xs ys e = cc

-- what holds of each entry of a table holds of what is found there
pub by_entry : {A B : Type 0} (f g : List ℕ × A → B) (entries : Table A) → map f entries ≡ map g entries → (w : List ℕ) (x : A) → lookup Three entries w ≡ Some x → f (w, x) ≡ g (w, x)
unfolding lookup
by_entry f g [] same w x e = absurd (none_not x e)
by_entry f g ((name, value) ∷ entries) same w x e =
    elim (chosen (is_named Three w name) (Some value) (lookup Three entries w) (Some x) e) [
      | inl h ↦ rw ((bytes_eq-Decides w name).0 h.0, sym (some_is value x h.1)) (heads_are _ _ _ _ same)
      | inr h ↦ by_entry f g entries (tails_are _ _ _ _ same) w x h.1
    ]

pub name_is : (w : List ℕ) (n : Name) → name_of Three w ≡ Some n → w ≡ name_text n
unfolding name_of
name_is = by_entry (λ e. e.0) (λ e. name_text e.1) names refl

abbrev pub key_text : Key → List ℕ
key_text key.Padding = codes "padding"
key_text key.Repr = codes "repr"
key_text key.CaseSensitive = codes "case_sensitive"
key_text key.OneIndexed = codes "one_indexed"
key_text key.Base = codes "base"
key_text key.Sign = codes "sign"
key_text key.Range = codes "range"
key_text key.Case = codes "case"
key_text key.Digits = codes "digits"
key_text key.Count = codes "count"
key_text key.Precision = codes "precision"
key_text key.TrailingInput = codes "trailing_input"

pub key_is : (w : List ℕ) (k : Key) → key_of Three w ≡ Some k → w ≡ key_text k
unfolding key_of
key_is = by_entry (λ e. e.0) (λ e. key_text e.1) keys refl

abbrev pub sign_text : Bool → List ℕ
sign_text false = codes "automatic"
sign_text true = codes "mandatory"

pub sign_is : (w : List ℕ) (b : Bool) → lookup Three signs w ≡ Some b → w ≡ sign_text b
sign_is = by_entry (λ e. e.0) (λ e. sign_text e.1) signs refl

pub key_found : (o : Option Key) (n : Name) (f : Fault) (k : Key) → key_among o n f ≡ Ok k → (o ≡ Some k) × (has_key k n ≡ true)
key_found None n f k e = absurd (not_ok f k e)
key_found (Some j) n f k e =
    elim (chosen (has_key j n) (Ok j) (Err f) (Ok k) e) [
      | inl h ↦ let same = ok_is j k h.1 in (ap (λ (k : Key). some_key k) same, subst (λ (k : Key). has_key k n ≡ true) same h.0)
      | inr h ↦ absurd (not_ok f k h.1)
    ]
  where
    some_key : Key → Option Key
    some_key k = Some k

pub value_found : (o : Option Chosen) (f : Fault) (d : Chosen) → found o f ≡ Ok d → o ≡ Some d
value_found None f d e = absurd (not_ok f d e)
value_found (Some x) f d e = ap (λ (d : Chosen). some_value d) (ok_is x d e)
  where
    some_value : Chosen → Option Chosen
    some_value d = Some d

pub found_is : {A : Type 0} (o : Option A) (f : Fault) (x : A) → found o f ≡ Ok x → o ≡ Some x
found_is {A} None f x e = absurd (not_ok f x e)
found_is {A} (Some y) f x e = ap some_of (ok_is y x e)
  where
    some_of : A → Option A
    some_of x = Some x
