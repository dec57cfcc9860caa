-- What is taken of a padded or signed number.
use Rattle.std.proofs.Common.{◌≡◌, ◌∙◌, ℕ, suc, Bool, List, [], None, refl}
use Rattle.std.specs.Prelude.{if◌then◌else◌}
use Rattle.description_modifiers.specs.declared.choices.Padding.{Padding}
use Rattle.description_modifiers.specs.declared.choices.Padding.TheVariants as padding
use Rattle.parsing_combinator.specs.Pieces.{Piece, digits, sign}
use Rattle.parsing_combinator.specs.Shape.{taken, digits_between, spaced_between}
use Rattle.parsing_combinator.specs.Numbers.{padded, year, century, offset_hour, timestamp}
use Rattle.parsing_combinator.proofs.Longest.{taken_exactly}
use Rattle.parsing_combinator.proofs.SignLemmas.{by_sign_if, taken_signed_if}
use Rattle.parsing_combinator.proofs.SpaceLemmas.{no_spaces, no_text}

abbrev pub exactly_by : Padding → ℕ → Piece ℕ
exactly_by padding.Zero n = digits n
exactly_by padding.Space n = taken (spaced_between n n)
exactly_by padding.None n = taken (digits_between 1 n)

pub taken_padded_exactly : (p : Padding) (n : ℕ) (bytes : List ℕ) → taken (padded p n n) bytes ≡ exactly_by p n bytes
unfolding padded
taken_padded_exactly padding.Zero n bytes = taken_exactly n bytes
taken_padded_exactly padding.Space n bytes = refl
taken_padded_exactly padding.None n bytes = refl

-- no padded number is empty
pub padded_none : (p : Padding) (n m : ℕ) → padded p (suc n) m [] ≡ None
unfolding padded spaced_between
padded_none padding.Zero n m = no_text n m
padded_none padding.Space n m = no_spaces n m [] ∙ no_text n m
padded_none padding.None n m = no_text 0 m

pub taken_year : (p : Padding) (mandatory extended : Bool) (bytes : List ℕ) → taken (year p mandatory extended) bytes ≡ by_sign_if (sign bytes) mandatory (taken (padded p 4 (if extended then 6 else 4))) (taken (padded p 4 4)) bytes
unfolding year
taken_year p mandatory extended bytes = taken_signed_if mandatory (padded p 4 (if extended then 6 else 4)) (padded p 4 4) bytes (padded_none p 3 4)

pub taken_century : (p : Padding) (mandatory extended : Bool) (bytes : List ℕ) → taken (century p mandatory extended) bytes ≡ by_sign_if (sign bytes) mandatory (taken (padded p 2 (if extended then 4 else 2))) (taken (padded p 1 2)) bytes
unfolding century
taken_century p mandatory extended bytes = taken_signed_if mandatory (padded p 2 (if extended then 4 else 2)) (padded p 1 2) bytes (padded_none p 0 2)

pub taken_offset_hour : (p : Padding) (mandatory : Bool) (bytes : List ℕ) → taken (offset_hour p mandatory) bytes ≡ by_sign_if (sign bytes) mandatory (taken (padded p 2 2)) (taken (padded p 2 2)) bytes
unfolding offset_hour
taken_offset_hour p mandatory bytes = taken_signed_if mandatory (padded p 2 2) (padded p 2 2) bytes (padded_none p 1 2)

pub taken_timestamp : (mandatory : Bool) (most : ℕ) (bytes : List ℕ) → taken (timestamp mandatory most) bytes ≡ by_sign_if (sign bytes) mandatory (taken (digits_between 1 most)) (taken (digits_between 1 most)) bytes
unfolding timestamp
taken_timestamp mandatory most bytes = taken_signed_if mandatory (digits_between 1 most) (digits_between 1 most) bytes (no_text 0 most)
