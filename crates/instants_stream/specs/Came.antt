-- What is written for bytes that came, by the whole lines among them and the part after those, where the line that they go on
-- with is maybe begun: it is longer than the limit, and its bytes are gone.
use Rattle.std.specs.Prelude.{◌≡◌, ℕ, Bool, true, false, ◌||◌, List, [], ◌∷◌, ◌++◌, length, nat_lt, if◌then◌else◌}
use Rattle.instants_stream.specs.Lines.{whole_lines, last_part}
use Rattle.instants_stream.specs.Steps.{Steps, passed, if_any, owed_of, state_of}

module _ {State : Type 0} (steps : Steps State) (limit : ℕ) where
  -- what is written for them
  abbrev pub came_said : Bool → State → List (List ℕ) → List ℕ → List ℕ
  came_said false state whole part = owed_of steps limit state whole part
  came_said true state [] part = passed (steps.hands_on state) part
  came_said true state (piece ∷ others) part = (passed (steps.hands_on state) piece ++ steps.ended state) ++ owed_of steps limit state others part

  -- the state after them
  abbrev pub came_state : Bool → State → List (List ℕ) → List ℕ → State
  came_state false state whole part = state_of steps limit state whole part
  came_state true state [] part = state
  came_state true state (piece ∷ others) part = state_of steps limit state others part

-- whether the line that they leave unfinished is begun
abbrev pub came_begun : ℕ → Bool → List (List ℕ) → List ℕ → Bool
came_begun limit false whole part = nat_lt limit (length part)
came_begun limit true [] part = true
came_begun limit true (piece ∷ others) part = nat_lt limit (length part)

-- what is kept of a line: nothing once it is begun
abbrev pub kept : Bool → List ℕ → List ℕ
kept is_begun part = if is_begun then [] else part

-- what is written at the end of a stream for a line that is begun, or of which all bytes are at hand
abbrev pub end_said : {State : Type 0} → Steps State → Bool → State → List ℕ → List ℕ
end_said steps true state line = steps.last_ended state
end_said steps false state line = if_any line (steps.last_said state line)

-- Some bytes came in a state, where the line that they go on with is maybe begun. It was gone on with, and this word was written:
-- the rest is left, and the line is begun still if it has not ended.
pub record GoesOn {State : Type 0} (steps : Steps State) (state : State) (is_begun : Bool) (bytes word rest : List ℕ) (is_begun_still : Bool) : Type 0 where
  pub said : (limit : ℕ) → came_said steps limit is_begun state (whole_lines bytes) (last_part bytes) ≡ word ++ owed_of steps limit state (whole_lines rest) (last_part rest)
  pub stands : (limit : ℕ) → came_state steps limit is_begun state (whole_lines bytes) (last_part bytes) ≡ state_of steps limit state (whole_lines rest) (last_part rest)
  pub begun : (limit : ℕ) → came_begun limit is_begun (whole_lines bytes) (last_part bytes) ≡ (is_begun_still || nat_lt limit (length (last_part rest)))
  pub last : is_begun_still ≡ false → last_part bytes ≡ last_part rest
  pub none : is_begun_still ≡ true → rest ≡ []
