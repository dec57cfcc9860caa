-- What follows from the definitions, in the words of a reader of lines.
use Rattle.std.specs.Prelude.{◌≡◌, ◌≢◌, ◌≤◌, ◌+◌, ℕ, List, [], ◌∷◌, ◌++◌, false, length, Some}
use Rattle.std.specs.List.{AllByRecursion}
use Rattle.instants_fields.specs.Members.{member_of, longest}

-- a byte that stands for itself in a string
pub record IsPlain (c : ℕ) : Type 0 where
  pub no_mark : c ≢ 34
  pub no_backslash : c ≢ 92
  pub no_control : 32 ≤ c

-- `{"NAME":"TEXT"}`
abbrev pub one_member : List ℕ → List ℕ → List ℕ
one_member name text = 123 ∷ 34 ∷ (name ++ (34 ∷ 58 ∷ 34 ∷ (text ++ (34 ∷ 125 ∷ []))))

-- the member of such an object is the text between its quotation marks
abbrev pub GivesText : List ℕ → List ℕ → Type 0
GivesText name text = member_of (one_member name text) name ≡ Some (record { start = length name + 5; end = length name + 5 + length text; repeats = false })

abbrev pub EachGivesText : Type 0
EachGivesText = (name text : List ℕ) → AllByRecursion IsPlain name → AllByRecursion IsPlain text → length (one_member name text) ≤ longest → GivesText name text
