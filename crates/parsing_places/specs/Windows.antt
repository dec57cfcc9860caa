-- What two windows over a text let stand there, and what they take, as tests that compute for constants.
use Rattle.std.specs.Prelude.{◌≡◌, ◌<◌, ◌&&◌, ◌||◌, ◌==◌, ◌+◌, ◌-◌, ℕ, Bool, true, false, zero, suc, List, nat_lt, nat_le, get_or, bit_or, if◌then◌else◌}
use Rattle.parsing_places.specs.Last.{HaveWindow}
use Rattle.parsing_places.specs.declared.shape.Window.{Window}
use Rattle.parsing_places.specs.declared.windows.Windows.{Windows}

-- lanes v have what two windows take of a text
pub record Taken (w : Windows) (text v : List ℕ) : Type 0 where
  pub front : List ℕ
  pub back : List ℕ
  pub front_there : HaveWindow w.prefix text 0 front
  pub back_there : HaveWindow w.back text w.back_at back
  pub joined : (k : ℕ) → k < 16 → get_or v k 0 ≡ bit_or (get_or front k 0) (get_or back k 0)

-- ---- tests

-- a byte from the lowest on, and at most so far above it, alone can stand at a place of a window
abbrev pub lets : Window → ℕ → ℕ → ℕ → Bool
lets w place low most = nat_lt place 16 && ((get_or w.low place 0 == low) && nat_le (get_or w.high place 0) most)

-- the same of a place of a text
abbrev pub lets_at : Windows → ℕ → ℕ → ℕ → Bool
lets_at w place low most = if nat_lt place 16 then lets w.prefix place low most else (nat_le w.back_at place && lets w.back (place - w.back_at) low most)

-- a lane takes nothing, or a digit at a place, at most so large
abbrev pub spares : Window → ℕ → Bool
spares w lane = nat_le 128 (get_or w.taken.lanes lane 0)

abbrev pub takes : Window → ℕ → ℕ → ℕ → Bool
takes w lane place most = lets w place 48 most && (get_or w.taken.lanes lane 0 == place)

-- the same of both windows
abbrev pub spares_one : Windows → ℕ → Bool
spares_one w lane = spares w.prefix lane && spares w.back lane

abbrev pub takes_one : Windows → ℕ → ℕ → ℕ → Bool
takes_one w lane place most = if spares w.prefix lane then (nat_le w.back_at place && takes w.back lane (place - w.back_at) most) else (takes w.prefix lane place most && spares w.back lane)

-- and of two lanes, one after the other
abbrev pub spares_two : Windows → ℕ → Bool
spares_two w lane = spares_one w lane && spares_one w (lane + 1)

abbrev pub takes_two : Windows → ℕ → ℕ → ℕ → Bool
takes_two w lane place most = takes_one w lane place most && takes_one w (lane + 1) (place + 1) 9

-- lane 13 takes a sign, of the second window, and lane 12 nothing
abbrev pub takes_sign : Windows → ℕ → Bool
takes_sign w place = nat_le w.back_at place && (lets w.back (place - w.back_at) 43 2 && (spares_one w 12 && (spares w.prefix 13 && (get_or w.back.taken.lanes 13 0 == place - w.back_at))))

-- four digits alone can stand at a place, within a length
abbrev pub lets_year : Windows → ℕ → ℕ → Bool
lets_year w length year = nat_le (year + 4) length && (lets_at w year 48 9 && (lets_at w (year + 1) 48 9 && (lets_at w (year + 2) 48 9 && lets_at w (year + 3) 48 9)))

-- ---- lanes that take nothing but what they are for

-- the place of a text that a lane takes
abbrev pub source : Windows → ℕ → ℕ
source w lane = if spares w.prefix lane then w.back_at + get_or w.back.taken.lanes lane 0 else get_or w.prefix.taken.lanes lane 0

-- a lane takes nothing, or a digit of at most so much
abbrev pub is_lane_bounded : Windows → ℕ → ℕ → Bool
is_lane_bounded w lane most = spares_one w lane || takes_one w lane (source w lane) most

-- two lanes do, the second any digit
abbrev pub is_bounded : Windows → ℕ → ℕ → Bool
is_bounded w lane most = is_lane_bounded w lane most && is_lane_bounded w (lane + 1) 9

-- those of a sign take one, or nothing
abbrev pub is_sign_bounded : Windows → Bool
is_sign_bounded w = spares_two w 12 || takes_sign w (source w 13)

-- so many lanes from one on take nothing
abbrev pub spares_from : Windows → ℕ → ℕ → Bool
spares_from w lane zero = true
spares_from w lane (suc count) = spares_one w lane && spares_from w (lane + 1) count

-- those of an offset take nothing, where it is left to a tail, or hours below 20 and minutes, with a sign
abbrev pub is_offset_bounded : Windows → Bool → Bool
is_offset_bounded w true = spares_from w 8 6
is_offset_bounded w false = is_bounded w 8 1 && (is_bounded w 10 5 && is_sign_bounded w)

-- and those of a month, of a minute and of a second numbers below 60, those of a day one of two digits
abbrev pub are_bounded : Windows → Bool → Bool
are_bounded w has_tail = is_bounded w 0 5 && (is_bounded w 2 9 && (is_bounded w 6 5 && (is_bounded w 14 5 && is_offset_bounded w has_tail)))
