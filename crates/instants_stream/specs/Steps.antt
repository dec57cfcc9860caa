-- What is written for a stream of bytes, where something may be kept of each line for the lines below it. Of a line that is
-- longer than the limit its first bytes decide, one more than the limit, and its rest may be handed on.
use Rattle.std.specs.Prelude.{ℕ, ◌+◌, Bool, List, [], ◌∷◌, ◌++◌, length, take, drop, nat_lt, if◌then◌else◌}
use Rattle.instants_stream.specs.Lines.{whole_lines, last_part}
use Rattle.instants_stream.specs.Writing.{Writing}

pub record Steps (State : Type 0) : Type 0 where
  -- what is written for a line that is not longer than the limit, its line feed included, and the state for the line below it
  pub said : State → List ℕ → List ℕ
  pub next : State → List ℕ → State
  -- what is written for such a line as the last, which no line feed ends
  pub last_said : State → List ℕ → List ℕ
  -- what is written for the first bytes of a longer line, and the state after them, which is that for the line below too
  pub begun : State → List ℕ → List ℕ
  pub within : State → List ℕ → State
  -- in that state: whether the rest of the line is handed on, and what is written at its end, with a line feed and as the last line
  pub hands_on : State → Bool
  pub ended : State → List ℕ
  pub last_ended : State → List ℕ

-- the rest of a longer line, where it is handed on
abbrev pub passed : Bool → List ℕ → List ℕ
passed hands_on rest = if hands_on then rest else []

-- nothing where there are no bytes
abbrev pub if_any : List ℕ → List ℕ → List ℕ
if_any [] text = []
if_any (b ∷ bytes) text = text

-- By these steps, for lines under this limit.
module _ {State : Type 0} (steps : Steps State) (limit : ℕ) where
  -- the state within a longer line
  unfoldable pub state_within : State → List ℕ → State
  state_within state line = steps.within state (take (limit + 1) line)

  -- what is written for a longer line before its end
  unfoldable pub opened : State → List ℕ → List ℕ
  opened state line = steps.begun state (take (limit + 1) line) ++ passed (steps.hands_on (state_within state line)) (drop (limit + 1) line)

  -- what is written for a line of any length, and the state for the line below it
  unfoldable pub line_said : State → List ℕ → List ℕ
  line_said state line = if nat_lt limit (length line) then opened state line ++ steps.ended (state_within state line) else steps.said state line

  unfoldable pub line_next : State → List ℕ → State
  line_next state line = if nat_lt limit (length line) then state_within state line else steps.next state line

  -- what is written for lines, one after another, and the state after them
  unfoldable pub written : State → List (List ℕ) → List ℕ
  written state [] = []
  written state (line ∷ others) = line_said state line ++ written (line_next state line) others

  unfoldable pub after : State → List (List ℕ) → State
  after state [] = state
  after state (line ∷ others) = after (line_next state line) others

  -- what is written for a line as soon as these bytes of it were read: nothing while it may still fit
  unfoldable pub part_said : State → List ℕ → List ℕ
  part_said state part = if nat_lt limit (length part) then opened state part else []

  -- what is written for the last part of a stream
  unfoldable pub last_part_said : State → List ℕ → List ℕ
  last_part_said state part = if nat_lt limit (length part) then opened state part ++ steps.last_ended (state_within state part) else if_any part (steps.last_said state part)

  -- what is owed as soon as these whole lines and this part of the next one were read, and the state then
  abbrev pub owed_of : State → List (List ℕ) → List ℕ → List ℕ
  owed_of state whole part = written state whole ++ part_said (after state whole) part

  abbrev pub part_state : State → List ℕ → State
  part_state state part = if nat_lt limit (length part) then state_within state part else state

  abbrev pub state_of : State → List (List ℕ) → List ℕ → State
  state_of state whole part = part_state (after state whole) part

-- what is written for a whole stream
unfoldable pub output : {State : Type 0} → Steps State → State → ℕ → List ℕ → List ℕ
output steps state limit stream =
    written steps limit state (whole_lines stream) ++ last_part_said steps limit (after steps limit state (whole_lines stream)) (last_part stream)

-- what is owed as soon as these bytes were read
unfoldable pub owed : {State : Type 0} → Steps State → State → ℕ → List ℕ → List ℕ
owed steps state limit bytes = owed_of steps limit state (whole_lines bytes) (last_part bytes)

-- what there is to write by steps from a state on, for lines under a limit
abbrev pub by_steps : {State : Type 0} → Steps State → State → ℕ → Writing
by_steps steps state limit = record { output = output steps state limit; owed = owed steps state limit }
