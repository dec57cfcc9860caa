-- Lemmas on what is written for lines, one after another.
use Rattle.std.proofs.Common.{◌≡◌, ◌+◌, ℕ, ◌<◌, ◌≤◌, Bool, true, false, List, [], ◌∷◌, ◌++◌, length, take, drop, nat_lt, refl, sym, ap, ◌∙◌, arith, append_assoc, append-nil, length-append}
use Rattle.std.proofs.lemmas.Bool.Decides.{nat_tests}
use Rattle.std.proofs.lemmas.List.{take-append-le, drop-append-le}
use Rattle.instants_stream.specs.Lines.{whole_lines, last_part}
use Rattle.instants_stream.specs.Steps.{Steps, passed, state_within, opened, line_said, line_next, written, after, part_said, last_part_said, owed_of, part_state, state_of, output}
use Rattle.instants_stream.proofs.Lines.{whole_lines_none, last_part_of_none, whole_lines-append, last_part-append}

pub is_longer : (limit n : ℕ) → limit < n → nat_lt limit n ≡ true
is_longer limit n h = grind (arith, nat_tests)

pub is_no_longer : (limit n : ℕ) → n ≤ limit → nat_lt limit n ≡ false
is_no_longer limit n h = grind (arith, nat_tests)

module _ (State : Type 0) (steps : Steps State) (limit : ℕ) where
  pub written-append : (state : State) (xs ys : List (List ℕ)) → written steps limit state (xs ++ ys) ≡ written steps limit state xs ++ written steps limit (after steps limit state xs) ys
  unfolding written after
  written-append state [] ys = refl
  written-append state (x ∷ xs) ys =
      ap (λ (l : List ℕ). line_said steps limit state x ++ l) (written-append (line_next steps limit state x) xs ys) ∙ sym (append_assoc (line_said steps limit state x) (written steps limit (line_next steps limit state x) xs) (written steps limit (after steps limit (line_next steps limit state x) xs) ys))

  pub after-append : (state : State) (xs ys : List (List ℕ)) → after steps limit state (xs ++ ys) ≡ after steps limit (after steps limit state xs) ys
  unfolding after
  after-append state [] ys = refl
  after-append state (x ∷ xs) ys = after-append (line_next steps limit state x) xs ys

  -- one line more, in the state after those before it
  pub written-next : (first state : State) (xs : List (List ℕ)) (x : List ℕ) → state ≡ after steps limit first xs → written steps limit first (xs ++ x ∷ []) ≡ written steps limit first xs ++ line_said steps limit state x
  unfolding written
  written-next first state xs x e =
      written-append first xs (x ∷ []) ∙ ap (λ (l : List ℕ). written steps limit first xs ++ l) (append-nil (line_said steps limit (after steps limit first xs) x)) ∙ ap (λ (s : State). written steps limit first xs ++ line_said steps limit s x) (sym e)

  pub after-next : (first state : State) (xs : List (List ℕ)) (x : List ℕ) → state ≡ after steps limit first xs → after steps limit first (xs ++ x ∷ []) ≡ line_next steps limit state x
  unfolding after
  after-next first state xs x e = after-append first xs (x ∷ []) ∙ ap (λ (s : State). line_next steps limit s x) (sym e)

  -- what is written for lines begins with what is written for the first of them
  pub written-begins : (first : State) (all xs rest : List (List ℕ)) → all ≡ xs ++ rest → (more : List ℕ) × (written steps limit first all ≡ written steps limit first xs ++ more)
  written-begins first all xs rest e = (written steps limit (after steps limit first xs) rest, ap (written steps limit first) e ∙ written-append first xs rest)

  -- what is owed for more lines
  pub owed_of-append : (state : State) (xs ys : List (List ℕ)) (part : List ℕ) → owed_of steps limit state (xs ++ ys) part ≡ written steps limit state xs ++ owed_of steps limit (after steps limit state xs) ys part
  owed_of-append state xs ys part =
      rw (written-append state xs ys, after-append state xs ys) (append_assoc (written steps limit state xs) (written steps limit (after steps limit state xs) ys) (part_said steps limit (after steps limit (after steps limit state xs) ys) part))

  pub owed_of-cons : (state : State) (x : List ℕ) (xs : List (List ℕ)) (part : List ℕ) → owed_of steps limit state (x ∷ xs) part ≡ line_said steps limit state x ++ owed_of steps limit (line_next steps limit state x) xs part
  unfolding written after
  owed_of-cons state x xs part =
      append_assoc (line_said steps limit state x) (written steps limit (line_next steps limit state x) xs) (part_said steps limit (after steps limit (line_next steps limit state x) xs) part)

  -- the output of joined streams, where nothing stands after the last line feed of the first
  pub output-append : (state : State) (s t : List ℕ) → last_part s ≡ [] → output steps state limit (s ++ t) ≡ output steps state limit s ++ output steps (after steps limit state (whole_lines s)) limit t
  unfolding output last_part_said
  output-append state s t h =
      let fits : nat_lt limit 0 ≡ false = is_no_longer limit 0 (omega arith) in
      rw (whole_lines-append s t h, last_part-append s t h, h, fits, written-append state (whole_lines s) (whole_lines t), after-append state (whole_lines s) (whole_lines t), append-nil (written steps limit state (whole_lines s)))
      (append_assoc (written steps limit state (whole_lines s)) (written steps limit (after steps limit state (whole_lines s)) (whole_lines t)) _)

  -- nothing is owed for a part that may still fit
  pub part_said-short : (state : State) (part : List ℕ) → nat_lt limit (length part) ≡ false → part_said steps limit state part ≡ []
  unfolding part_said
  part_said-short state part e = rw e refl

  pub part_said-long : (state : State) (part : List ℕ) → nat_lt limit (length part) ≡ true → part_said steps limit state part ≡ opened steps limit state part
  unfolding part_said
  part_said-long state part e = rw e refl

  pub part_said-none : (state : State) (part : List ℕ) → length part ≤ limit → part_said steps limit state part ≡ []
  part_said-none state part short = part_said-short state part (is_no_longer limit (length part) short)

  pub part_said-at : (state : State) (part : List ℕ) → limit < length part → part_said steps limit state part ≡ opened steps limit state part
  part_said-at state part over = part_said-long state part (is_longer limit (length part) over)

  -- a line that is longer than the limit, and one that is not
  pub line_said-longer : (state : State) (line : List ℕ) → limit < length line → line_said steps limit state line ≡ opened steps limit state line ++ steps.ended (state_within steps limit state line)
  unfolding line_said
  line_said-longer state line over = rw (is_longer limit (length line) over) refl

  pub line_next-longer : (state : State) (line : List ℕ) → limit < length line → line_next steps limit state line ≡ state_within steps limit state line
  unfolding line_next
  line_next-longer state line over = rw (is_longer limit (length line) over) refl

  pub line_said-short : (state : State) (line : List ℕ) → length line ≤ limit → line_said steps limit state line ≡ steps.said state line
  unfolding line_said
  line_said-short state line short = rw (is_no_longer limit (length line) short) refl

  pub line_next-short : (state : State) (line : List ℕ) → length line ≤ limit → line_next steps limit state line ≡ steps.next state line
  unfolding line_next
  line_next-short state line short = rw (is_no_longer limit (length line) short) refl

  -- no bytes have nothing to write
  fits : nat_lt limit (length (last_part [])) ≡ false
  fits = rw last_part_of_none (is_no_longer limit 0 (omega arith))

  pub owed_of-none : (state : State) → owed_of steps limit state (whole_lines []) (last_part []) ≡ []
  unfolding written
  owed_of-none state = rw (part_said-short (after steps limit state (whole_lines [])) (last_part []) fits, whole_lines_none) refl

  pub state_of-none : (state : State) → state_of steps limit state (whole_lines []) (last_part []) ≡ state
  unfolding after
  state_of-none state = rw (fits, whole_lines_none) refl

  passed-append : (hands_on : Bool) (xs ys : List ℕ) → passed hands_on (xs ++ ys) ≡ passed hands_on xs ++ passed hands_on ys
  passed-append true xs ys = refl
  passed-append false xs ys = refl

  -- more bytes of a line that is longer than the limit
  module _ (state : State) (gone more : List ℕ) (over : limit < length gone) where
    abbrev inside : State
    inside = state_within steps limit state gone

    pub still : nat_lt limit (length (gone ++ more)) ≡ true
    still = is_longer limit (length (gone ++ more)) (rw length-append (omega (arith, over)))

    state_within-more : state_within steps limit state (gone ++ more) ≡ inside
    unfolding state_within
    state_within-more = ap (steps.within state) (take-append-le (limit + 1) gone more (omega (arith, over)))

    opened-more : opened steps limit state (gone ++ more) ≡ opened steps limit state gone ++ passed (steps.hands_on inside) more
    unfolding opened
    opened-more =
        let fits : limit + 1 ≤ length gone = omega (arith, over) in
        rw (state_within-more, take-append-le (limit + 1) gone more fits, drop-append-le (limit + 1) gone more fits, passed-append (steps.hands_on inside) (drop (limit + 1) gone) more)
        (sym (append_assoc (steps.begun state (take (limit + 1) gone)) (passed (steps.hands_on inside) (drop (limit + 1) gone)) (passed (steps.hands_on inside) more)))

    pub line_said-more : line_said steps limit state (gone ++ more) ≡ opened steps limit state gone ++ (passed (steps.hands_on inside) more ++ steps.ended inside)
    unfolding line_said
    line_said-more = rw (still, opened-more, state_within-more) (append_assoc (opened steps limit state gone) (passed (steps.hands_on inside) more) (steps.ended inside))

    pub line_next-more : line_next steps limit state (gone ++ more) ≡ inside
    unfolding line_next
    line_next-more = rw still state_within-more

    pub part_said-more : part_said steps limit state (gone ++ more) ≡ opened steps limit state gone ++ passed (steps.hands_on inside) more
    part_said-more = part_said-long state (gone ++ more) still ∙ opened-more

    pub part_state-more : part_state steps limit state (gone ++ more) ≡ inside
    part_state-more = rw still state_within-more
