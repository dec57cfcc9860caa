-- Which bytes can stand at the places of a stride.
use Rattle.std.specs.Prelude.{◌&&◌, ◌||◌, ◌==◌, ◌+◌, ℕ, Bool, nat_lt, nat_le, List, get_or}

-- bytes from the lowest on, and at most so far above it, alone can stand at a place
abbrev pub lets : List ℕ → List ℕ → ℕ → ℕ → ℕ → Bool
lets lows mosts place low most = nat_lt place 16 && ((get_or lows place 0 == low) && nat_le (get_or mosts place 0) most)

-- four digits alone can stand at a place within a length, or the year is nowhere, which is place 16
abbrev pub lets_year : List ℕ → List ℕ → ℕ → ℕ → Bool
lets_year low most length year = (year == 16) || (nat_le (year + 4) length && (lets low most year 48 9 && (lets low most (year + 1) 48 9 && (lets low most (year + 2) 48 9 && lets low most (year + 3) 48 9))))
