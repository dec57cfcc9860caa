-- Texts whose first bytes are within bounds, and that are not too long.
use Rattle.std.specs.Prelude.{◌≡◌, ◌≤◌, ◌<◌, ℕ, Bool, true, List, Option, length, get_or}
use Rattle.std.specs.Option.{ForSome}
use Rattle.parsing_layout.specs.Stretch.{Stretch, IsCut}
use Rattle.parsing_layout.specs.declared.bounds.Bounds.{Bounds}

-- no place of a line has a byte outside of its bounds, and where the line is to be read as a whole, it is not too long; after the line stands 0
pub record Admits (whole : Bool) (b : Bounds) (line : List ℕ) : Type 0 where
  pub lowest : (place : ℕ) → get_or b.low place 0 ≤ get_or line place 0
  pub highest : (place : ℕ) → get_or line place 0 < 256 → get_or line place 0 ≤ get_or b.high place 255
  pub longest : whole ≡ true → ForSome b.longest (λ n. length line ≤ n)

-- so long is a line at most that begins with a stretch and goes on with one that is admitted
abbrev pub LongestWith : Option ℕ → Stretch → Bounds → Type 0
LongestWith longest stretch b = (line rest : List ℕ) → IsCut stretch line rest → ForSome b.longest (λ n. length rest ≤ n) → ForSome longest (λ n. length line ≤ n)
