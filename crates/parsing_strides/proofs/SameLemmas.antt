-- Parts that are the same, and fields.
use Rattle.std.proofs.Common.{◌≡◌, ◌∙◌, ◌==◌, ℕ, true, [], ◌∷◌, ◌++◌, get_or, sym, ap}
use Rattle.parsing_layout.specs.declared.parts.Field.{Field}
use Rattle.parsing_layout.specs.Said.{place_of}
use Rattle.parsing_layout.specs.declared.parts.Field.TheVariants as field
use Rattle.parsing_layout.proofs.TestLemmas.{same}
use Rattle.parsing_strides.specs.Strides.{read_fields}
use Rattle.std.proofs.Common.{arith}
use Rattle.std.proofs.lemmas.Bool.Decides.{nat_tests}

-- the field with a place
abbrev pub field_at : ℕ → Field
field_at place = get_or (read_fields ++ (field.Nanosecond ∷ field.Unix ∷ [])) place field.Year

back : (f : Field) → field_at (place_of f) ≡ f
back f = grind (arith, nat_tests)

pub same_field : (f g : Field) → (place_of f == place_of g) ≡ true → f ≡ g
same_field f g e = sym (back f) ∙ ap field_at (same _ _ e) ∙ back g
