-- How far a run has come, and its steps.
use Rattle.std.proofs.Common.{◌≡◌, ◌==◌, ℕ, Bool, true, false, Option, None, Some, List, [], ◌∷◌, ◌++◌, length, nat_lt, IfSome, refl, sym, ap, ◌∙◌, subst, arith, append_assoc, append-nil}
use Rattle.std.specs.Io.KnownBytes.{Consumes, Appends, IsAtEnd, Keeps}
use Rattle.std.proofs.KnownBytes.{Consumes-nil, Consumes-trans, Appends-nil, Appends-trans, Appends-kept}
use Rattle.std.proofs.lemmas.List.Elements.{All-nil}
use Rattle.instants_stream.specs.Lines.{HasNoLineFeed, last_part, whole_lines}
use Rattle.instants_stream.specs.Writing.{due}
use Rattle.instants_stream.specs.Steps.{Steps, written, after, part_said, last_part_said, part_state, owed_of, state_of, output, owed, by_steps}
use Rattle.instants_stream.specs.Came.{came_said, came_state, came_begun, kept, end_said}
use Rattle.instants_stream.specs.Known.{StaysOrUnknown, AppendsPrefix}
use Rattle.instants_stream.proofs.Lines.{last_part_of_none, last_part_free}
use Rattle.instants_stream.proofs.Written.{is_no_longer, owed_of-none, state_of-none, after-append, owed_of-append}
use Rattle.instants_stream.proofs.MoreCame.{whole_lines-joined, last_part-joined, more_is}
use Rattle.instants_stream.proofs.Known.{AppendsPrefix-after, AppendsPrefix-more, AppendsPrefix-stays}

-- A run has read these bytes and written what is owed for them. Of the unfinished line it holds all bytes, or none once it is begun.
pub record Progress (State : Type 0) (steps : Steps State) (first state : State) (limit : ℕ) (left_first left held_first held : Option (List ℕ)) (line : List ℕ) (is_begun : Bool) : Type 0 where
  pub bytes : List ℕ
  pub read : Consumes left_first left bytes
  pub written : Appends held_first held (owed steps first limit bytes)
  pub stands : state ≡ state_of steps limit first (whole_lines bytes) (last_part bytes)
  pub begun : is_begun ≡ nat_lt limit (length (last_part bytes))
  pub line_is : line ≡ kept is_begun (last_part bytes)

kept_free : (is_begun : Bool) (part : List ℕ) → HasNoLineFeed part → HasNoLineFeed (kept is_begun part)
kept_free true part free = All-nil (λ (b : ℕ). (b == 10) ≡ false)
kept_free false part free = free

AppendsPrefix-all : (a b c : Option (List ℕ)) (bytes : List ℕ) → Appends a b bytes → StaysOrUnknown b c → AppendsPrefix a c bytes
AppendsPrefix-all a b c bytes = AppendsPrefix-stays a b c bytes [] bytes (sym (append-nil bytes))

module _ (State : Type 0) (steps : Steps State) (first : State) (limit : ℕ) where
  pub begins : (left held : Option (List ℕ)) → Progress State steps first first limit left left held held [] false
  unfolding owed
  begins left held = record {
    bytes = [];
    read = Consumes-nil left;
    written = rw (owed_of-none State steps limit first) (Appends-nil held);
    stands = sym (state_of-none State steps limit first);
    begun = sym (rw last_part_of_none (is_no_longer limit 0 (omega arith)));
    line_is = sym last_part_of_none;
  }

  -- what is written at the end, beside what was owed
  end_is : (state : State) (gone line : List ℕ) (is_begun : Bool) → is_begun ≡ nat_lt limit (length gone) → line ≡ kept is_begun gone
      → last_part_said steps limit state gone ≡ part_said steps limit state gone ++ end_said steps is_begun (part_state steps limit state gone) line
  unfolding last_part_said part_said
  end_is state gone line false e is = rw (← e, is) refl
  end_is state gone line true e is = rw (← e) refl

  output-owed : (bytes line : List ℕ) (is_begun : Bool) → is_begun ≡ nat_lt limit (length (last_part bytes)) → line ≡ kept is_begun (last_part bytes)
      → output steps first limit bytes ≡ owed steps first limit bytes ++ end_said steps is_begun (state_of steps limit first (whole_lines bytes) (last_part bytes)) line
  unfolding output owed
  output-owed bytes line is_begun e is =
      let state = after steps limit first (whole_lines bytes) in
      ap (λ (l : List ℕ). written steps limit first (whole_lines bytes) ++ l) (end_is state (last_part bytes) line is_begun e is)
      ∙ sym (append_assoc (written steps limit first (whole_lines bytes)) (part_said steps limit state (last_part bytes)) (end_said steps is_begun (part_state steps limit state (last_part bytes)) line))

  -- the output is what is owed, and maybe more
  output_extends : (bytes : List ℕ) → (more : List ℕ) × (output steps first limit bytes ≡ owed steps first limit bytes ++ more)
  output_extends bytes = (_, output-owed bytes _ _ refl refl)

  module _ (state : State) (left_first left held_first held : Option (List ℕ)) (line : List ℕ) (is_begun : Bool) (p : Progress State steps first state limit left_first left held_first held line is_begun) where
    -- the unfinished line has no line feed
    pub line_is_free : HasNoLineFeed line
    line_is_free = rw p.line_is (kept_free is_begun (last_part p.bytes) (last_part_free p.bytes))

    -- a read gave nothing
    pub pauses : (left_next : Option (List ℕ)) → Consumes left left_next [] → Progress State steps first state limit left_first left_next held_first held line is_begun
    pauses left_next came = record {
      bytes = p.bytes;
      read = subst (Consumes left_first left_next) (append-nil p.bytes) (Consumes-trans left_first left left_next p.bytes [] p.read came);
      written = p.written;
      stands = p.stands;
      begun = p.begun;
      line_is = p.line_is;
    }

    -- what was written is handed on
    pub handed_on : (held_next : Option (List ℕ)) → Keeps held held_next → Progress State steps first state limit left_first left held_first held_next line is_begun
    handed_on held_next keeps = record {
      bytes = p.bytes;
      read = p.read;
      written = Appends-kept held_first held held_next (owed steps first limit p.bytes) p.written keeps;
      stands = p.stands;
      begun = p.begun;
      line_is = p.line_is;
    }

  -- what is owed is due
  due_from_owed : (a c : Option (List ℕ)) (bytes : List ℕ) (left : Option (List ℕ)) → AppendsPrefix a c (owed steps first limit bytes) → AppendsPrefix a c (due (by_steps steps first limit) bytes left)
  due_from_owed a c bytes None h = let more = output_extends bytes in subst (AppendsPrefix a c) (sym more.1) (AppendsPrefix-more a c (owed steps first limit bytes) more.0 h)
  due_from_owed a c bytes (Some []) h = let more = output_extends bytes in subst (AppendsPrefix a c) (sym more.1) (AppendsPrefix-more a c (owed steps first limit bytes) more.0 h)
  due_from_owed a c bytes (Some (b ∷ left)) h = h

  -- at the end the whole output is due
  due_at_end : (a c : Option (List ℕ)) (bytes : List ℕ) (left : Option (List ℕ)) → IsAtEnd left → AppendsPrefix a c (output steps first limit bytes) → AppendsPrefix a c (due (by_steps steps first limit) bytes left)
  due_at_end a c bytes None e h = h
  due_at_end a c bytes (Some []) e h = h
  due_at_end a c bytes (Some (b ∷ left)) e h = absurd cc

  -- A run is through: the reader is at its end, and the output of what was read is written.
  pub record Through (left_first left held_first held : Option (List ℕ)) : Type 0 where
    pub bytes : List ℕ
    pub read : Consumes left_first left bytes
    pub ends : IsAtEnd left
    pub written : Appends held_first held (output steps first limit bytes)

  -- A write failed: a prefix of what is due is written.
  abbrev pub Fails : Option (List ℕ) → Option (List ℕ) → Option (List ℕ) → Option (List ℕ) → Type 0
  Fails left_first left held_first held = (bytes : List ℕ) × Consumes left_first left bytes × AppendsPrefix held_first held (due (by_steps steps first limit) bytes left)

  module _ (state : State) (left_first left held_first held held_next : Option (List ℕ)) (line : List ℕ) (is_begun : Bool) (p : Progress State steps first state limit left_first left held_first held line is_begun) where
    -- handing on failed
    pub fails_to_hand_on : StaysOrUnknown held held_next → Fails left_first left held_first held_next
    fails_to_hand_on stays =
        (p.bytes, p.read, due_from_owed held_first held_next p.bytes left (AppendsPrefix-all held_first held held_next (owed steps first limit p.bytes) p.written stays))

    output_is : output steps first limit p.bytes ≡ owed steps first limit p.bytes ++ end_said steps is_begun state line
    output_is = output-owed p.bytes line is_begun p.begun p.line_is ∙ ap (λ (s : State). owed steps first limit p.bytes ++ end_said steps is_begun s line) (sym p.stands)

    -- the write at the end failed
    pub fails_at_end : IsAtEnd left → AppendsPrefix held held_next (end_said steps is_begun state line) → Fails left_first left held_first held_next
    fails_at_end ends wrote = (p.bytes, p.read, due_at_end held_first held_next p.bytes left ends (rw output_is (AppendsPrefix-after _ _ _ _ _ p.written wrote)))

    -- all was written at the end
    pub through : IsAtEnd left → Appends held held_next (end_said steps is_begun state line) → Through left_first left held_first held_next
    through ends wrote = record {
      bytes = p.bytes;
      read = p.read;
      ends = ends;
      written = rw output_is (Appends-trans _ _ _ _ _ p.written wrote);
    }

    -- Bytes came.
    module _ (left_next : Option (List ℕ)) (more : List ℕ) (came : Consumes left left_next more) where
      abbrev whole : List (List ℕ)
      whole = whole_lines (line ++ more)

      abbrev part : List ℕ
      part = last_part (line ++ more)

      abbrev gone : List ℕ
      gone = last_part p.bytes

      abbrev after_gone : State
      after_gone = after steps limit first (whole_lines p.bytes)

      owed-more : owed steps first limit (p.bytes ++ more) ≡ owed steps first limit p.bytes ++ came_said steps limit is_begun state whole part
      unfolding owed
      owed-more =
          rw (whole_lines-joined p.bytes more, last_part-joined p.bytes more, owed_of-append State steps limit first (whole_lines p.bytes) _ _, (more_is State steps limit after_gone gone line more (last_part_free p.bytes) is_begun p.begun p.line_is).0)
          (sym (append_assoc (written steps limit first (whole_lines p.bytes)) (part_said steps limit after_gone gone) (came_said steps limit is_begun (part_state steps limit after_gone gone) whole part))
          ∙ ap (λ (s : State). owed_of steps limit first (whole_lines p.bytes) gone ++ came_said steps limit is_begun s whole part) (sym p.stands))

      stands-more : state_of steps limit first (whole_lines (p.bytes ++ more)) (last_part (p.bytes ++ more)) ≡ came_state steps limit is_begun state whole part
      stands-more =
          rw (whole_lines-joined p.bytes more, last_part-joined p.bytes more, after-append State steps limit first (whole_lines p.bytes) _, p.stands) (more_is State steps limit after_gone gone line more (last_part_free p.bytes) is_begun p.begun p.line_is).1

      begun-more : nat_lt limit (length (last_part (p.bytes ++ more))) ≡ came_begun limit is_begun whole part
      begun-more = rw (last_part-joined p.bytes more) (more_is State steps limit after_gone gone line more (last_part_free p.bytes) is_begun p.begun p.line_is).2

      line-more : (is_begun_next : Bool) → is_begun_next ≡ came_begun limit is_begun whole part → kept is_begun_next part ≡ kept is_begun_next (last_part (p.bytes ++ more))
      line-more true e = refl
      line-more false e = sym (last_part-joined p.bytes more ∙ (more_is State steps limit after_gone gone line more (last_part_free p.bytes) is_begun p.begun p.line_is).3 (sym e))

      -- a write for them failed
      pub more_fails : AppendsPrefix held held_next (came_said steps limit is_begun state whole part) → Fails left_first left_next held_first held_next
      more_fails wrote = (
        p.bytes ++ more,
        Consumes-trans _ _ _ _ _ p.read came,
        due_from_owed held_first held_next (p.bytes ++ more) left_next (rw owed-more (AppendsPrefix-after _ _ _ _ _ p.written wrote)),
      )

      -- what is owed for them is written
      pub more_came : (state_next : State) (line_next : List ℕ) (is_begun_next : Bool)
          → Appends held held_next (came_said steps limit is_begun state whole part)
          → state_next ≡ came_state steps limit is_begun state whole part
          → is_begun_next ≡ came_begun limit is_begun whole part
          → line_next ≡ kept is_begun_next (last_part (line ++ more))
          → Progress State steps first state_next limit left_first left_next held_first held_next line_next is_begun_next
      more_came state_next line_next is_begun_next wrote goes starts rest = record {
        bytes = p.bytes ++ more;
        read = Consumes-trans _ _ _ _ _ p.read came;
        written = rw owed-more (Appends-trans _ _ _ _ _ p.written wrote);
        stands = goes ∙ sym stands-more;
        begun = starts ∙ sym begun-more;
        line_is = rest ∙ line-more is_begun_next starts;
      }

  -- the flush failed
  pub fails_at_flush : (left_first left held_first held held_next : Option (List ℕ)) → Through left_first left held_first held → StaysOrUnknown held held_next → Fails left_first left held_first held_next
  fails_at_flush left_first left held_first held held_next t stays =
      (t.bytes, t.read, due_at_end held_first held_next t.bytes left t.ends (AppendsPrefix-all held_first held held_next (output steps first limit t.bytes) t.written stays))

  -- the flush succeeded
  pub done : (left_first left held_first held held_next : Option (List ℕ)) → Through left_first left held_first held → Keeps held held_next → IfSome left_first (λ stream. (left ≡ Some []) × Appends held_first held_next (output steps first limit stream))
  done None left held_first held held_next t stays = tt
  done (Some stream) None held_first held held_next t stays = absurd t.read
  done (Some stream) (Some rest) held_first held held_next t stays =
      let whole : stream ≡ t.bytes = t.read ∙ ap (λ (l : List ℕ). t.bytes ++ l) t.ends ∙ append-nil t.bytes in
      (ap Some t.ends, rw whole (Appends-kept held_first held held_next (output steps first limit t.bytes) t.written stays))
