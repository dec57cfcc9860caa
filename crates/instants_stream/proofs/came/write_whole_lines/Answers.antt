use Rattle.std.proofs.Common.{◌≤◌, ◌≡◌, ℕ, ◌+◌, ◌-◌, ◌<◌, List, [], ◌∷◌, ◌++◌, length, get_or, take, drop, Option, refl, sym, ap, ◌∙◌, subst, arith, length-drop}
use Rattle.std.proofs.KnownBytes.{Appends-nil, Appends-trans}
use Rattle.std.proofs.lemmas.List.{drop-drop, take_all}
use Rattle.std.specs.Io.KnownBytes.{Appends}
use Rattle.instants_stream.specs.Lines.{HasNoLineFeed, whole_lines, last_part}
use Rattle.instants_stream.specs.Steps.{Steps, written, after, line_said, line_next}
use Rattle.instants_stream.specs.Known.{AppendsPrefix}
use Rattle.instants_stream.proofs.Lines.{whole_lines_none, last_part_of_none}
use Rattle.instants_stream.proofs.Written.{written-next, after-next, written-begins}
use Rattle.instants_stream.proofs.Known.{AppendsPrefix-after, AppendsPrefix-more, wrote_err}
use Rattle.instants_stream.proofs.WholeLines.{whole_lines-prefix, next_ended, next_lines, rest_is_last, lines_are_all}
use Rattle.instants_stream.proofs.came.write_whole_lines.Goals as goal

pub loop-init : goal.loop-init
unfolding written after
loop-init g c =
    let n = length c.args.bytes.now in
    let start : n - n ≡ 0 = omega arith in
    record {
      within = omega arith;
      rest_is = rw start refl;
      ended = rw start last_part_of_none;
      written = rw (start, whole_lines_none) (Appends-nil _);
      stands = rw (start, whole_lines_none) refl;
      inside = omega (arith, c.line_end_noted-len.ensures.within, c.if-len-rest.false);
      before = c.line_end_noted-len.ensures.before;
      line_feed = c.line_end_noted-len.ensures.line_feed (omega (arith, c.line_end_noted-len.ensures.within, c.if-len-rest.false));
      works = refl;
    }

-- the rest after a line of it, which ends at a line feed
record IsNext (bytes rest after : List ℕ) (len : ℕ) : Type 0 where
  within : length after ≤ length bytes
  shorter : length after < length rest
  start_is : length bytes - length after ≡ length bytes - length rest + (len + 1)
  rest_is : after ≡ drop (length bytes - length after) bytes
  ended : last_part (take (length bytes - length after) bytes) ≡ []
  lines : whole_lines (take (length bytes - length after) bytes) ≡ whole_lines (take (length bytes - length rest) bytes) ++ take len rest ∷ []

next : (bytes rest rest_after : List ℕ) (len : ℕ) → length rest ≤ length bytes → rest ≡ drop (length bytes - length rest) bytes → last_part (take (length bytes - length rest) bytes) ≡ [] → len < length rest → HasNoLineFeed (take len rest) → get_or rest len 0 ≡ 10 → rest_after ≡ drop (len + 1) rest → IsNext bytes rest rest_after len
next bytes rest rest_after len within is ended short before line_feed is_after =
    let start : ℕ = length bytes - length rest in
    let shorter : length rest_after ≡ length rest - (len + 1) = ap length is_after ∙ length-drop (len + 1) rest in
    let next_start : length bytes - length rest_after ≡ start + (len + 1) = omega (arith, within, short, shorter) in
    let inside : len < length (drop start bytes) = subst (λ (l : List ℕ). len < length l) is short in
    let feed : get_or (drop start bytes) len 0 ≡ 10 = subst (λ (l : List ℕ). get_or l len 0 ≡ 10) is line_feed in
    let free : HasNoLineFeed (take len (drop start bytes)) = subst (λ (l : List ℕ). HasNoLineFeed (take len l)) is before in
    record {
      within = omega (arith, within, shorter);
      shorter = omega (arith, short, shorter);
      start_is = next_start;
      rest_is = is_after ∙ ap (drop (len + 1)) is ∙ drop-drop (len + 1) start bytes ∙ ap (λ (n : ℕ). drop n bytes) (sym next_start);
      ended = rw next_start (next_ended bytes start len ended inside feed free);
      lines = rw next_start (next_lines bytes start len ended inside feed free ∙ ap (λ (l : List ℕ). whole_lines (take start bytes) ++ l ∷ []) (ap (take len) (sym is)));
    }

-- ---- what is written for one line more, and what stands after it
module _ (State : Type 0) (steps : Steps State) (limit : ℕ) (first state new : State) (bytes rest after_line : List ℕ) (len : ℕ)
    (to : IsNext bytes rest after_line len)
    (stands : state ≡ after steps limit first (whole_lines (take (length bytes - length rest) bytes))) where
  said_more : (old held held_new : Option (List ℕ)) → Appends old held (written steps limit first (whole_lines (take (length bytes - length rest) bytes))) → Appends held held_new (line_said steps limit state (take len rest)) → Appends old held_new (written steps limit first (whole_lines (take (length bytes - length after_line) bytes)))
  said_more old held held_new so_far wrote = rw (to.lines, written-next State steps limit first state (whole_lines (take (length bytes - length rest) bytes)) (take len rest) stands) (Appends-trans _ _ _ _ _ so_far wrote)

  stands_more : new ≡ line_next steps limit state (take len rest) → new ≡ after steps limit first (whole_lines (take (length bytes - length after_line) bytes))
  stands_more goes = rw (to.lines, after-next State steps limit first state (whole_lines (take (length bytes - length rest) bytes)) (take len rest) stands) goes

pub loop-preserved : goal.loop-preserved
loop-preserved g c =
    let i = c.loop.invariant in
    let bytes = c.args.bytes.now in
    let to = next bytes c.loop.rest.now c.after_line-rest.result.now c.loop.len i.within i.rest_is i.ended i.inside i.before i.line_feed c.after_line-rest.ensures in
    let first = g.S.WritesLines.state c.args.steps.now in
    let state = g.S.WritesLines.state c.loop.steps in
    let new = g.S.WritesLines.state c.write_any.new.steps in
    record {
      within = to.within;
      rest_is = to.rest_is;
      ended = to.ended;
      written = said_more g.S.WritesLines.State g.S.WritesLines.steps c.args.limit first state new bytes _ _ _ to i.stands _ _ _ i.written c.in_ok-write_any.ensures.wrote.0;
      stands = stands_more g.S.WritesLines.State g.S.WritesLines.steps c.args.limit first state new bytes _ _ _ to i.stands c.in_ok-write_any.ensures.state;
      inside = omega (arith, c.line_end-len.ensures.within, c.if-len-rest-2.false);
      before = c.line_end-len.ensures.before;
      line_feed = c.line_end-len.ensures.line_feed (omega (arith, c.line_end-len.ensures.within, c.if-len-rest-2.false));
      works = c.in_ok-write_any.ensures.wrote.1 ∙ i.works;
    }

pub returns-in_err-write_any-clause-wrote : goal.returns-in_err-write_any-clause-wrote
returns-in_err-write_any-clause-wrote g c =
    let i = c.loop.invariant in
    let bytes = c.args.bytes.now in
    let rest = c.loop.rest.now in
    let to = next bytes rest c.after_line-rest.result.now c.loop.len i.within i.rest_is i.ended i.inside i.before i.line_feed c.after_line-rest.ensures in
    let first = g.S.WritesLines.state c.args.steps.now in
    let some = whole_lines (take (length bytes - length c.after_line-rest.result.now) bytes) in
    let said : AppendsPrefix (g.W.ByteWriter.held c.args.writer.now) (g.W.ByteWriter.held c.write_any.new.writer) (written g.S.WritesLines.steps c.args.limit first some) =
    rw (to.lines, written-next g.S.WritesLines.State g.S.WritesLines.steps c.args.limit first (g.S.WritesLines.state c.loop.steps) (whole_lines (take (length bytes - length rest) bytes)) _ i.stands) (AppendsPrefix-after _ _ _ _ _ i.written c.in_err-write_any.ensures.wrote.2) in
    let begins = written-begins g.S.WritesLines.State g.S.WritesLines.steps c.args.limit first (whole_lines bytes) some (whole_lines (drop (length bytes - length c.after_line-rest.result.now) bytes)) (whole_lines-prefix bytes _ to.ended) in
    wrote_err g.W.ByteWriter c.args.writer.now c.args.writer.now c.write_any.new.writer _ _ _ c.from_residual.ensures.1 (rw begins.1 (AppendsPrefix-more _ _ _ begins.0 said)) c.in_err-write_any.ensures.wrote.3

-- no line feed is left
free : (bytes rest : List ℕ) (start len : ℕ) → rest ≡ drop start bytes → len ≡ length rest → HasNoLineFeed (take len rest) → HasNoLineFeed (drop start bytes)
free bytes rest start len is all before = subst HasNoLineFeed (take_all len rest (omega (arith, all)) ∙ is) before

-- ---- there is no whole line
none : (bytes : List ℕ) (len : ℕ) → len ≡ length bytes → HasNoLineFeed (take len bytes) → HasNoLineFeed (drop 0 bytes)
none bytes len all before = free bytes bytes 0 len refl all before

pub returns-then-len-rest-clause-rest : goal.returns-then-len-rest-clause-rest
returns-then-len-rest-clause-rest g c = rest_is_last c.args.bytes.now 0 last_part_of_none (none c.args.bytes.now _ (omega (arith, c.if-len-rest.true)) c.line_end_noted-len.ensures.before)

pub returns-then-len-rest-clause-wrote : goal.returns-then-len-rest-clause-wrote
unfolding written
returns-then-len-rest-clause-wrote g c = rw (lines_are_all c.args.bytes.now 0 last_part_of_none (none c.args.bytes.now _ (omega (arith, c.if-len-rest.true)) c.line_end_noted-len.ensures.before), whole_lines_none) (Appends-nil _, refl, tt, tt)

pub returns-then-len-rest-clause-state : goal.returns-then-len-rest-clause-state
unfolding after
returns-then-len-rest-clause-state g c = rw (lines_are_all c.args.bytes.now 0 last_part_of_none (none c.args.bytes.now _ (omega (arith, c.if-len-rest.true)) c.line_end_noted-len.ensures.before), whole_lines_none) refl

-- ---- the last whole line is done
pub returns-then-len-rest-2-clause-rest : goal.returns-then-len-rest-2-clause-rest
returns-then-len-rest-2-clause-rest g c =
    let i = c.loop.invariant in
    let bytes = c.args.bytes.now in
    let to = next bytes c.loop.rest.now c.after_line-rest.result.now c.loop.len i.within i.rest_is i.ended i.inside i.before i.line_feed c.after_line-rest.ensures in
    rest_is_last bytes _ to.ended (free bytes _ _ _ to.rest_is (omega (arith, c.if-len-rest-2.true)) c.line_end-len.ensures.before)

pub returns-then-len-rest-2-clause-wrote : goal.returns-then-len-rest-2-clause-wrote
returns-then-len-rest-2-clause-wrote g c =
    let i = c.loop.invariant in
    let bytes = c.args.bytes.now in
    let to = next bytes c.loop.rest.now c.after_line-rest.result.now c.loop.len i.within i.rest_is i.ended i.inside i.before i.line_feed c.after_line-rest.ensures in
    let first = g.S.WritesLines.state c.args.steps.now in
    let state = g.S.WritesLines.state c.loop.steps in
    let new = g.S.WritesLines.state c.write_any.new.steps in
    rw (lines_are_all bytes _ to.ended (free bytes _ _ _ to.rest_is (omega (arith, c.if-len-rest-2.true)) c.line_end-len.ensures.before)) (said_more g.S.WritesLines.State g.S.WritesLines.steps c.args.limit first state new bytes _ _ _ to i.stands _ _ _ i.written c.in_ok-write_any.ensures.wrote.0, c.in_ok-write_any.ensures.wrote.1 ∙ i.works, tt, tt)

pub returns-then-len-rest-2-clause-state : goal.returns-then-len-rest-2-clause-state
returns-then-len-rest-2-clause-state g c =
    let i = c.loop.invariant in
    let bytes = c.args.bytes.now in
    let to = next bytes c.loop.rest.now c.after_line-rest.result.now c.loop.len i.within i.rest_is i.ended i.inside i.before i.line_feed c.after_line-rest.ensures in
    let first = g.S.WritesLines.state c.args.steps.now in
    let state = g.S.WritesLines.state c.loop.steps in
    let new = g.S.WritesLines.state c.write_any.new.steps in
    rw (lines_are_all bytes _ to.ended (free bytes _ _ _ to.rest_is (omega (arith, c.if-len-rest-2.true)) c.line_end-len.ensures.before)) (stands_more g.S.WritesLines.State g.S.WritesLines.steps c.args.limit first state new bytes _ _ _ to i.stands c.in_ok-write_any.ensures.state)
