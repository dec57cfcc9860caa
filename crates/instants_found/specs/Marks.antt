-- The places of a line at which a date may begin.
use Rattle.std.specs.Prelude.{◌≡◌, ◌<◌, ◌⊎◌, ◌+◌, ℕ, Bool, false, List, get_or, All}
use Rattle.instants_sources.specs.Grammar.{Grammar}
use Rattle.instants_found.specs.Keys.{AreKeys, LacksKeys}
use Rattle.instants_found.specs.Starts.{CannotStand}
use Rattle.instants_found.specs.Ranges.{AreWithin, is_within}
use Rattle.instants_found.specs.declared.marks.Marks.{Marks}

-- neither key stands after this place, or what stands there is outside of the range of first bytes, or what stands three places after it of that of fourth ones
abbrev pub IsUnmarked : Marks → List ℕ → ℕ → Type 0
IsUnmarked marks line place =
    LacksKeys marks.keys line place ⊎ (is_within marks.first (get_or line place 0) ≡ false) ⊎ (is_within marks.fourth (get_or line (place + 3) 0) ≡ false)

-- each date of the sources has a key, and a first byte and a fourth one from their ranges; it has four bytes at least
pub record AreMarks (sources : List Grammar) (starts : List Bool) (marks : Marks) : Type 0 where
  pub keys : AreKeys sources marks.keys
  pub first : AreWithin starts marks.first
  pub four : All (CannotStand 3 0) sources
  pub fourth : (byte : ℕ) → byte < 256 → is_within marks.fourth byte ≡ false → All (CannotStand 3 byte) sources
