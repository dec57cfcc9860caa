-- The shapes of numbers: padded, and after a sign.
use Rattle.std.specs.Prelude.{ℕ, Bool, if◌then◌else◌}
use Rattle.description_modifiers.specs.declared.choices.Padding.{Padding}
use Rattle.description_modifiers.specs.declared.choices.Padding.TheVariants as padding
use Rattle.parsing_combinator.specs.Shape.{Shape, nothing, digits_between, spaced_between, signed}

-- n to m digits with zeros, n to m bytes with spaces, 1 to m digits with neither
unfoldable pub padded : Padding → ℕ → ℕ → Shape ℕ
padded padding.Zero n m = digits_between n m
padded padding.Space n m = spaced_between n m
padded padding.None n m = digits_between 1 m

-- one shape after a sign, and another without one, where none is due
unfoldable pub signed_if : Bool → Shape ℕ → Shape ℕ → Shape (Bool × ℕ)
signed_if mandatory after bare = signed after (if mandatory then nothing else bare)

-- a year: four digits, and where it is extended up to six after a sign
unfoldable pub year : Padding → Bool → Bool → Shape (Bool × ℕ)
year p mandatory extended = signed_if mandatory (padded p 4 (if extended then 6 else 4)) (padded p 4 4)

-- a century: after a sign two digits, and where it is extended up to four; without one at most two
unfoldable pub century : Padding → Bool → Bool → Shape (Bool × ℕ)
century p mandatory extended = signed_if mandatory (padded p 2 (if extended then 4 else 2)) (padded p 1 2)

-- the hours of an offset
unfoldable pub offset_hour : Padding → Bool → Shape (Bool × ℕ)
offset_hour p mandatory = signed_if mandatory (padded p 2 2) (padded p 2 2)

-- a Unix timestamp of at most so many digits
unfoldable pub timestamp : Bool → ℕ → Shape (Bool × ℕ)
timestamp mandatory most = signed_if mandatory (digits_between 1 most) (digits_between 1 most)
