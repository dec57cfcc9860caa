-- The letters of names.
use Rattle.std.specs.Prelude.{◌/◌, ◌%◌, ℕ, List, [], ◌∷◌}

-- the three letters of a number, the first one lowest, after a byte of zero
abbrev pub letters_of : ℕ → List ℕ
letters_of word = word / 256 % 256 ∷ word / 65_536 % 256 ∷ word / 16_777_216 ∷ []
