-- What is written for bytes that come after others.
use Rattle.std.proofs.Common.{◌≡◌, ℕ, ◌+◌, ◌<◌, ◌≤◌, Bool, true, false, List, [], ◌∷◌, ◌++◌, length, take, drop, get_or, nat_lt, refl, sym, ap, ◌∙◌, subst, arith, append_assoc, append-nil}
use Rattle.std.proofs.lemmas.List.{take_all, drop_all}
use Rattle.std.proofs.lemmas.Bool.Decides.{nat_tests}
use Rattle.instants_stream.specs.Lines.{HasNoLineFeed, parts, but_last, last, whole_lines, last_part}
use Rattle.instants_stream.specs.Steps.{Steps, passed, state_within, opened, written, after, part_said, owed_of, part_state, state_of}
use Rattle.instants_stream.specs.Came.{came_said, came_state, came_begun, kept, GoesOn}
use Rattle.instants_stream.proofs.Lines.{glue, glue-cons, parts_joined, parts_glued, parts_nonempty, but_last-append_nonempty, last-append_nonempty, glue_some}
use Rattle.instants_stream.proofs.WholeLines.{no_lines, all_last, first_line, last_of_others}
use Rattle.instants_stream.proofs.Written.{owed_of-none, state_of-none, owed_of-cons, line_said-more, line_next-more, part_said-more, part_said-short, part_said-long, part_state-more, still}

-- the lines and the last part of joined bytes: the last part of the first goes before the first part of the second
pub whole_lines-joined : (bytes more : List ℕ) → whole_lines (bytes ++ more) ≡ whole_lines bytes ++ but_last (glue (last_part bytes) (parts more))
unfolding whole_lines last_part
whole_lines-joined bytes more =
    ap but_last (parts_joined bytes more) ∙ but_last-append_nonempty (but_last (parts bytes)) (glue (last (parts bytes)) (parts more)) (glue_some (last (parts bytes)) (parts more) (parts_nonempty more))

pub last_part-joined : (bytes more : List ℕ) → last_part (bytes ++ more) ≡ last (glue (last_part bytes) (parts more))
unfolding last_part
last_part-joined bytes more =
    ap last (parts_joined bytes more) ∙ last-append_nonempty (but_last (parts bytes)) (glue (last (parts bytes)) (parts more)) (glue_some (last (parts bytes)) (parts more) (parts_nonempty more))

module _ (State : Type 0) (steps : Steps State) (limit : ℕ) where
  -- Parts come after those of a line that is longer than the limit.
  module _ (state : State) (gone : List ℕ) (over : limit < length gone) where
    abbrev inside : State
    inside = state_within steps limit state gone

    long : (ps : List (List ℕ)) → 0 < length ps
        → (owed_of steps limit state (but_last (glue gone ps)) (last (glue gone ps)) ≡ opened steps limit state gone ++ came_said steps limit true inside (but_last ps) (last ps))
        × (state_of steps limit state (but_last (glue gone ps)) (last (glue gone ps)) ≡ came_state steps limit true inside (but_last ps) (last ps))
        × (nat_lt limit (length (last (glue gone ps))) ≡ came_begun limit true (but_last ps) (last ps)) × (came_begun limit true (but_last ps) (last ps) ≡ false → last (glue gone ps) ≡ last ps)
    unfolding written after
    long [] some = absurd (omega arith)
    long (q ∷ []) some =
        rw (glue-cons gone q []) (part_said-more State steps limit state gone q over, part_state-more State steps limit state gone q over, still State steps limit state gone q over, λ e. absurd cc)
    long (q ∷ r ∷ ps) some = (
      rw (glue-cons gone q (r ∷ ps), owed_of-cons State steps limit state (gone ++ q) (but_last (r ∷ ps)) (last (r ∷ ps)), line_said-more State steps limit state gone q over, line_next-more State steps limit state gone q over)
          (append_assoc (opened steps limit state gone) (passed (steps.hands_on inside) q ++ steps.ended inside) (owed_of steps limit inside (but_last (r ∷ ps)) (last (r ∷ ps)))),
      rw (glue-cons gone q (r ∷ ps)) (ap (λ (s : State). state_of steps limit s (but_last (r ∷ ps)) (last (r ∷ ps))) (line_next-more State steps limit state gone q over)),
      rw (glue-cons gone q (r ∷ ps)) refl,
      λ e. rw (glue-cons gone q (r ∷ ps)) refl,
    )

  -- More bytes come after a part, of which all bytes are kept unless it is begun.
  module _ (state : State) (gone line more : List ℕ) (free : HasNoLineFeed gone) where
    abbrev ps : List (List ℕ)
    ps = glue gone (parts more)

    over : true ≡ nat_lt limit (length gone) → limit < length gone
    over e = grind (arith, nat_tests)

    -- what is written for them, the state after them, whether a line is begun then, and its bytes
    pub more_is : (is_begun : Bool) → is_begun ≡ nat_lt limit (length gone) → line ≡ kept is_begun gone
        → (owed_of steps limit state (but_last ps) (last ps) ≡ part_said steps limit state gone ++ came_said steps limit is_begun (part_state steps limit state gone) (whole_lines (line ++ more)) (last_part (line ++ more)))
        × (state_of steps limit state (but_last ps) (last ps) ≡ came_state steps limit is_begun (part_state steps limit state gone) (whole_lines (line ++ more)) (last_part (line ++ more)))
        × (nat_lt limit (length (last ps)) ≡ came_begun limit is_begun (whole_lines (line ++ more)) (last_part (line ++ more)))
        × (came_begun limit is_begun (whole_lines (line ++ more)) (last_part (line ++ more)) ≡ false → last ps ≡ last_part (line ++ more))
    unfolding whole_lines last_part
    more_is false e is = rw (part_said-short State steps limit state gone (sym e), ← e, is, parts_glued gone more free) (refl, refl, refl, λ h. refl)
    more_is true e is = rw (part_said-long State steps limit state gone (sym e), ← e, is) (long state gone (over e) (parts more) (parts_nonempty more))

-- A line that is begun is gone on with.
module _ (State : Type 0) (steps : Steps State) (state : State) (bytes : List ℕ) (len : ℕ) (free : HasNoLineFeed (take len bytes)) where
  abbrev piece : List ℕ
  piece = passed (steps.hands_on state) (take len bytes)

  -- no line feed came
  pub goes_on : length bytes ≤ len → GoesOn steps state true bytes piece (drop len bytes) true
  goes_on all =
      let whole : take len bytes ≡ bytes = take_all len bytes all in
      let none : drop len bytes ≡ [] = drop_all len bytes all in
      let is_free = subst HasNoLineFeed whole free in
      record {
        said = λ limit. rw (none, whole, no_lines bytes is_free, all_last bytes is_free, owed_of-none State steps limit state) (sym (append-nil (passed (steps.hands_on state) bytes)));
        stands = λ limit. rw (none, no_lines bytes is_free, state_of-none State steps limit state) refl;
        begun = λ limit. rw (no_lines bytes is_free) refl;
        last = λ e. absurd cc;
        none = λ e. none;
      }

  -- one came
  module _ (within : len < length bytes) (line_feed : get_or bytes len 0 ≡ 10) where
    pub ends : GoesOn steps state true bytes (piece ++ steps.ended state) (drop (len + 1) bytes) false
    ends = record {
      said = λ limit. rw (first_line bytes len within line_feed free, last_of_others bytes len within line_feed free) refl;
      stands = λ limit. rw (first_line bytes len within line_feed free, last_of_others bytes len within line_feed free) refl;
      begun = λ limit. rw (first_line bytes len within line_feed free, last_of_others bytes len within line_feed free) refl;
      last = λ e. last_of_others bytes len within line_feed free;
      none = λ e. absurd cc;
    }

  by_test : (limit : ℕ) (is_within : Bool) → is_within ≡ nat_lt len (length bytes) → (len < length bytes → get_or bytes len 0 ≡ 10)
      → (rest : List ℕ) × (came_said steps limit true state (whole_lines bytes) (last_part bytes) ≡ piece ++ rest)
  by_test limit true e line_feed =
      let within : len < length bytes = grind (arith, nat_tests) in
      (_, (ends within (line_feed within)).said limit ∙ append_assoc piece (steps.ended state) _)
  by_test limit false e line_feed =
      let all : length bytes ≤ len = grind (arith, nat_tests) in
      (_, (goes_on all).said limit)

  -- what is written begins with what is handed on
  pub begins_with : (limit : ℕ) → (len < length bytes → get_or bytes len 0 ≡ 10) → (rest : List ℕ) × (came_said steps limit true state (whole_lines bytes) (last_part bytes) ≡ piece ++ rest)
  begins_with limit line_feed = by_test limit (nat_lt len (length bytes)) refl line_feed
