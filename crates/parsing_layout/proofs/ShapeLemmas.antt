-- What the texts of shapes begin with, and so what is taken of them.
use Rattle.std.proofs.Common.{◌≡◌, ◌≤◌, ◌<◌, ◌∙◌, ◌&&◌, ◌||◌, ◌==◌, ◌-◌, ◌+◌, ℕ, zero, suc, Bool, true, false, not, List, [], ◌∷◌, length, get_or, take, drop, Option, Some, None, refl, sym, ap, arith, inl, inr}
use Rattle.std.specs.Prelude.{option_map, nat_lt, nat_le, nat_eq, IfSome, if◌then◌else◌}
use Rattle.std.specs.Char.{is_ascii_digit, to_ascii_lowercase}
use Rattle.std.specs.List.{list_all, list_any}
use Rattle.std.proofs.lemmas.Bool.{cases_lt}
use Rattle.std.proofs.lemmas.Bool.Decides.{nat_tests}
use Rattle.std.proofs.lemmas.List.{get_or-take, get_or-drop, length-take-le, length-drop}
use Rattle.std.proofs.lemmas.List.Sums.{AllPass-from_list_all, prefix_len_passes, prefix_len-le-length}
use Rattle.std.proofs.Math.ListN.{get_or-map}
use Rattle.std.proofs.lemmas.Slice.Eq.{bytes_eq-Decides}
use Rattle.parsing_combinator.specs.Pieces.{Piece}
use Rattle.parsing_combinator.specs.Shape.{Shape, or_before, greatest, prefix, taken, is_space, space_count, are_digits, digits_as, spaced_between}
use Rattle.parsing_combinator.specs.Names.{compared, is_name, named}
use Rattle.parsing_combinator.proofs.NameLemmas.{is_name_length}
use Rattle.parsing_layout.specs.Stretch.{Begins, Leaves, name_stands}
use Rattle.parsing_layout.proofs.TestLemmas.{both, less}

-- ---- bytes that can stand at places

abbrev pub Test : Type 0
Test = ℕ → ℕ → Bool

-- a text has so many at least, or exactly so many
abbrev pub HasText : Test → ℕ → Bool → List ℕ → Type 0
HasText test least whole text = Begins test least text × ((least ≤ length text) × (whole ≡ true → length text ≡ least))

abbrev pub Holds : {A : Type 0} → Test → ℕ → Bool → Shape A → Type 0
Holds test least whole shape = (text : List ℕ) → IfSome (shape text) (λ _. HasText test least whole text)

abbrev pub Cuts : {A : Type 0} → Test → ℕ → Bool → Piece A → Type 0
Cuts test least whole piece = (line : List ℕ) → IfSome (piece line) (λ x. Leaves test least whole line x.1)

-- ---- what is taken of a shape begins as its texts

or_each : {A : Type 0} (P : A → Type 0) (x before : Option A) → IfSome x P → IfSome before P → IfSome (or_before x before) P
or_each P x before h k = grind (arith, nat_tests)

greatest_each : {A : Type 0} (P : A → Type 0) (f : ℕ → Option A) (n : ℕ) → ((k : ℕ) → k ≤ n → IfSome (f k) P) → IfSome (greatest f n) P
greatest_each P f zero h = h 0 (omega arith)
greatest_each P f (suc n) h = or_each P (f (suc n)) (greatest f n) (h (suc n) (omega arith)) (greatest_each P f n (λ k le. h k (omega (arith, le))))

begins_line : (t : Test) (least k : ℕ) (line : List ℕ) → least ≤ k → Begins t least (take k line) → Begins t least line
begins_line t least k line le h place lt = rw (get_or-take k line place 0 (omega (arith, lt, le))) at (h place lt)

leaves : (t : Test) (least : ℕ) (w : Bool) (k : ℕ) (line : List ℕ) → k ≤ length line → HasText t least w (take k line) → Leaves t least w line (drop k line)
leaves t least w k line le h =
    let n = length-take-le k line le in
    (begins_line t least k line (omega (arith, n, h.1.0)) h.0, λ e. let same : k ≡ least = omega (arith, n, h.1.1 e) in rw same refl)

taken_at : {A : Type 0} (t : Test) (least : ℕ) (w : Bool) (k : ℕ) (line : List ℕ) (o : Option A) → k ≤ length line
    → IfSome o (λ _. HasText t least w (take k line)) → IfSome {T = A × List ℕ} (option_map (λ x. (x, drop k line)) o) (λ x. Leaves t least w line x.1)
taken_at t least w k line None le h = tt
taken_at t least w k line (Some x) le h = leaves t least w k line le h

pub taken_cuts : {A : Type 0} (t : Test) (least : ℕ) (w : Bool) (shape : Shape A) → Holds t least w shape → Cuts t least w (taken shape)
unfolding taken
taken_cuts t least w shape holds line = greatest_each (λ x. Leaves t least w line x.1) (prefix shape line) (length line) (λ k le. taken_at t least w k line (shape (take k line)) le (holds (take k line)))

-- ---- numbers

all_at : (p : ℕ → Bool) (text : List ℕ) (place : ℕ) → list_all p text ≡ true → place < length text → p (get_or text place 0) ≡ true
all_at p text place all lt = AllPass-from_list_all p text all place 0 lt

abbrev AreDigits : ℕ → ℕ → List ℕ → Type 0
AreDigits n m text = (n ≤ length text) × ((length text ≤ m) × (list_all is_ascii_digit text ≡ true))

digits_are : (n m : ℕ) (text : List ℕ) → are_digits n m text ≡ true → AreDigits n m text
digits_are n m text e = grind (arith, nat_tests)

if_chosen : {A : Type 0} (b : Bool) (o : Option A) (P : A → Type 0) → (b ≡ true → IfSome o P) → IfSome (if b then o else None) P
if_chosen b o P h = grind (arith, nat_tests)

-- n to m digits, of which so many are known
pub digits_hold : {A : Type 0} (value : List ℕ → A) (n m least : ℕ) (whole : Bool) → least ≤ n → (whole ≡ true → (n ≡ least) × (m ≡ least)) → Holds (λ place c. is_ascii_digit c) least whole (digits_as value n m)
unfolding digits_as
digits_hold value n m least whole le exact text = grind (arith, nat_tests, all_at)

-- after so many spaces stand the digits
spaced_stands : (n m s : ℕ) (text : List ℕ) (place : ℕ) → s ≡ space_count text → AreDigits n m (drop s text) → place < length text → (is_ascii_digit (get_or text place 0) || is_space (get_or text place 0)) ≡ true
spaced_stands n m s text place e d lt =
    elim (cases_lt place s) [
      | inl before ↦ let space = prefix_len_passes is_space text place 0 (omega (arith, before, e)) in grind (arith, nat_tests, space)
      | inr after ↦
          let at : s + (place - s) ≡ place = omega (arith, after) in
          let digit = rw (get_or-drop s text (place - s) 0, at) at (all_at is_ascii_digit (drop s text) (place - s) d.1.1 (omega (arith, length-drop s text, lt, after))) in
          grind (arith, nat_tests, digit)
    ]

spaced_text : (n m least s : ℕ) (whole : Bool) (text : List ℕ) → s ≡ space_count text → least ≤ n → (whole ≡ true → (n ≡ least) × (m ≡ least)) → s < n → AreDigits (n - s) (m - s) (drop s text)
    → HasText (λ place c. is_ascii_digit c || is_space c) least whole text
spaced_text n m least s whole text e le exact lt d =
    let cut = length-drop s text in
    let within = prefix_len-le-length is_space text in (
      (λ place small. spaced_stands (n - s) (m - s) s text place e d (omega (arith, small, le, lt, d.0, cut))),
      (omega (arith, le, lt, d.0, cut), λ w. omega (arith, lt, d.0, d.1.0, cut, within, e, (exact w).0, (exact w).1)),
    )

pub spaced_hold : (n m least : ℕ) (whole : Bool) → least ≤ n → (whole ≡ true → (n ≡ least) × (m ≡ least)) → Holds (λ place c. is_ascii_digit c || is_space c) least whole (spaced_between n m)
unfolding spaced_between digits_as
spaced_hold n m least whole le exact text =
    let s = space_count text in
    if_chosen (nat_lt s n) _ _ (λ few.
    if_chosen (are_digits (n - s) (m - s) (drop s text)) _ _ (λ e.
    spaced_text n m least s whole text refl le exact (less s n few) (digits_are (n - s) (m - s) (drop s text) e)))

-- ---- names

-- a byte after the digits, in any case
abbrev pub late : ℕ → Bool
late c = nat_lt 57 c && nat_lt 57 (to_ascii_lowercase c)

-- a name begins with one of these letters, has so many at least, or exactly so many, and no byte that is not late
abbrev pub is_name_of : List ℕ → ℕ → Bool → List ℕ → Bool
is_name_of initials least whole name =
    list_any (λ initial. initial == to_ascii_lowercase (get_or name 0 0)) initials && (nat_le least (length name) && ((not whole || nat_eq (length name) least) && list_all late name))

abbrev pub are_names_of : {A : Type 0} → List ℕ → ℕ → Bool → List (List ℕ × A) → Bool
are_names_of initials least whole [] = true
are_names_of initials least whole (entry ∷ entries) = is_name_of initials least whole entry.0 && are_names_of initials least whole entries

late_kept : (c : ℕ) → nat_lt 57 (to_ascii_lowercase c) ≡ true → nat_lt 57 c ≡ true
late_kept c e = grind (arith, nat_tests)

-- in small letters they are the same
same_small : (b : Bool) (name text : List ℕ) (place : ℕ) → compared b name ≡ compared b text → to_ascii_lowercase (get_or name place 0) ≡ to_ascii_lowercase (get_or text place 0)
same_small true name text place e = ap (λ t. to_ascii_lowercase (get_or t place 0)) e
same_small false name text place e = sym (get_or-map to_ascii_lowercase name place 0) ∙ ap (λ t. get_or t place 0) e ∙ get_or-map to_ascii_lowercase text place 0

late_at : (b : Bool) (name text : List ℕ) (place : ℕ) → compared b name ≡ compared b text → list_all late name ≡ true → place < length name → nat_lt 57 (get_or text place 0) ≡ true
late_at b name text place e all lt =
    let here = both (nat_lt 57 (get_or name place 0)) (nat_lt 57 (to_ascii_lowercase (get_or name place 0))) (all_at late name place all lt) in
    late_kept (get_or text place 0) (ap (λ c. nat_lt 57 c) (sym (same_small b name text place e)) ∙ here.1)

begins_at : (b : Bool) (initials name text : List ℕ) → compared b name ≡ compared b text → list_any (λ initial. initial == to_ascii_lowercase (get_or name 0 0)) initials ≡ true
    → list_any (λ initial. initial == to_ascii_lowercase (get_or text 0 0)) initials ≡ true
begins_at b initials name text e first = ap (λ c. list_any (λ initial. initial == c) initials) (sym (same_small b name text 0 e)) ∙ first

-- what is_name_of tells of a name
record NameOf (initials : List ℕ) (least : ℕ) (whole : Bool) (name : List ℕ) : Type 0 where
  first : list_any (λ initial. initial == to_ascii_lowercase (get_or name 0 0)) initials ≡ true
  few : least ≤ length name
  exact : whole ≡ true → length name ≡ least
  all : list_all late name ≡ true

name_of : (initials : List ℕ) (least : ℕ) (whole : Bool) (name : List ℕ) → is_name_of initials least whole name ≡ true → NameOf initials least whole name
name_of initials least whole name good = grind (arith, nat_tests)

not_first : (place : ℕ) → (suc place == 0) ≡ false
not_first place = grind (arith, nat_tests)

name_begins : (b : Bool) (initials : List ℕ) (least : ℕ) (whole : Bool) (name text : List ℕ) → NameOf initials least whole name → compared b name ≡ compared b text → Begins (name_stands initials) least text
name_begins b initials least whole name text it e zero lt = begins_at b initials name text e it.first
name_begins b initials least whole name text it e (suc place) lt = rw (not_first place) (late_at b name text (suc place) e it.all (omega (arith, lt, it.few)))

name_or_others : {A : Type 0} (b c : Bool) (initials : List ℕ) (least : ℕ) (whole : Bool) (name text : List ℕ) (x : A) (others : Option A) → is_name_of initials least whole name ≡ true → is_name b name text ≡ c
    → IfSome others (λ _. HasText (name_stands initials) least whole text) → IfSome (if c then Some x else others) (λ _. HasText (name_stands initials) least whole text)
name_or_others b true initials least whole name text x others good same h =
    let it = name_of initials least whole name good in
    let e = (bytes_eq-Decides (compared b name) (compared b text)).0 same in
    let n = is_name_length b name text same in
    (name_begins b initials least whole name text it e, (omega (arith, n, it.few), λ w. omega (arith, n, it.exact w)))
name_or_others b false initials least whole name text x others good e h = h

names_hold : {A : Type 0} (b : Bool) (initials : List ℕ) (least : ℕ) (whole : Bool) (entries : List (List ℕ × A)) → are_names_of initials least whole entries ≡ true → Holds (name_stands initials) least whole (named b entries)
unfolding named
names_hold b initials least whole [] good text = tt
names_hold b initials least whole (entry ∷ entries) good text =
    let each = both (is_name_of initials least whole entry.0) (are_names_of initials least whole entries) good in
    name_or_others b (is_name b entry.0 text) initials least whole entry.0 text entry.1 (named b entries text) each.0 refl (names_hold b initials least whole entries each.1 text)

pub names_cut : {A : Type 0} (b : Bool) (initials : List ℕ) (least : ℕ) (whole : Bool) (entries : List (List ℕ × A)) → are_names_of initials least whole entries ≡ true → Cuts (name_stands initials) least whole (taken (named b entries))
names_cut b initials least whole entries good = taken_cuts (name_stands initials) least whole (named b entries) (names_hold b initials least whole entries good)
