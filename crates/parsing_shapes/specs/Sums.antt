-- The numbers that lanes take of a text, in four sums.
use Rattle.std.specs.Prelude.{◌≡◌, ◌≤◌, ◌<◌, ◌+◌, ◌*◌, ℕ, true, List, get_or}
use Rattle.parsing_places.specs.Windows.{Taken}
use Rattle.parsing_shapes.specs.Shape.{own, taker_of}
use Rattle.parsing_shapes.specs.declared.shape.Shape.{Shape}

-- numbers are no larger than the bounds of their lanes
pub record AreFew (n : List ℕ) : Type 0 where
  pub month : get_or n 0 0 ≤ 59
  pub day : get_or n 2 0 ≤ 99
  pub minute : get_or n 6 0 ≤ 59
  pub second : get_or n 14 0 ≤ 59
  pub offset_hour : get_or n 8 0 ≤ 19
  pub offset_minute : get_or n 10 0 ≤ 59
  pub sign : get_or n 12 0 ≤ 2

-- those of a shape, whatever takes an offset after them
pub record AreSums (s : Shape) (text : List ℕ) (days minutes offsets seconds : ℕ) : Type 0 where
  pub front : List ℕ
  pub both : List ℕ
  pub n : List ℕ
  pub front_taken : Taken s.windows text front
  pub own_lane : (j : ℕ) → j < 8 → own (taker_of s) j ≡ true → (get_or both (2 * j) 0 ≡ get_or front (2 * j) 0) × (get_or both (2 * j + 1) 0 ≡ get_or front (2 * j + 1) 0)
  pub paired : (j : ℕ) → j < 8 → get_or both (2 * j) 0 ≤ 9 → get_or both (2 * j + 1) 0 ≤ 9 → get_or n (2 * j) 0 ≡ get_or both (2 * j) 0 * 10 + get_or both (2 * j + 1) 0
  pub days_are : days ≡ get_or n 0 0 + 64 * get_or n 2 0
  pub minutes_are : minutes ≡ 60 * get_or n 4 0 + get_or n 6 0
  pub offsets_are : offsets ≡ 60 * get_or n 8 0 + get_or n 10 0
  pub seconds_are : seconds ≡ get_or n 12 0 + 64 * get_or n 14 0
  pub few : AreFew n
