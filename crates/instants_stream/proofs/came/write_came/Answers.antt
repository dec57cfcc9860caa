use Rattle.std.proofs.Common.{◌≡◌, ℕ, ◌<◌, ◌≤◌, Bool, true, false, ◌||◌, List, nat_lt, length, take, drop, refl, sym, ap, ◌∙◌, arith, append-nil, length-drop}
use Rattle.std.proofs.KnownBytes.{Appends-trans}
use Rattle.std.proofs.lemmas.List.{take_rest, drop-drop}
use Rattle.instants_stream.specs.Came.{kept, GoesOn}
use Rattle.instants_stream.specs.Lines.{HasNoLineFeed, whole_lines, last_part}
use Rattle.instants_stream.specs.Steps.{Steps, written, after}
use Rattle.instants_stream.proofs.Lines.{last_part_of_none}
use Rattle.instants_stream.proofs.Known.{AppendsPrefix-after, AppendsPrefix-more, wrote_err}
use Rattle.instants_stream.proofs.Written.{is_longer, is_no_longer, part_said-at, part_said-none}
use Rattle.instants_stream.proofs.came.write_came.Goals as goal

-- what is kept of the rest is what is kept of all
same_kept : {State : Type 0} (steps : Steps State) (state : State) (is_begun : Bool) (bytes word rest : List ℕ) (is_begun_still : Bool)
    → GoesOn steps state is_begun bytes word rest is_begun_still → last_part rest ≡ kept is_begun_still (last_part bytes)
same_kept steps state is_begun bytes word rest true went_on = rw (went_on.none refl) last_part_of_none
same_kept steps state is_begun bytes word rest false went_on = sym (went_on.last refl)

-- a short part begins no line, and a longer one does
short_begun : (is_begun : Bool) (limit n : ℕ) → n ≤ limit → (is_begun || nat_lt limit n) ≡ is_begun
short_begun true limit n short = refl
short_begun false limit n short = is_no_longer limit n short

long_begun : (is_begun : Bool) (limit n : ℕ) → limit < n → (is_begun || nat_lt limit n) ≡ true
long_begun true limit n long = refl
long_begun false limit n long = is_longer limit n long

-- the bytes that are known to be no line feeds are none after a line that was gone on with
free_after : (is_begun : Bool) (searched start : ℕ) (bytes : List ℕ) → (is_begun ≡ true → searched ≡ 0) → (is_begun ≡ false → start ≡ 0) → HasNoLineFeed (take searched bytes)
    → HasNoLineFeed (take searched (drop start bytes))
free_after true searched start bytes none here free = rw (none refl) (λ k d h. absurd (omega arith))
free_after false searched start bytes none here free = rw (here refl) free

pub write_whole_lines-requires-clause-free : goal.write_whole_lines-requires-clause-free
write_whole_lines-requires-clause-free g c =
    rw (take_rest c.args.bytes.now c.in_ok-first.first.start) (free_after c.args.is_begun c.args.searched c.in_ok-first.first.start c.args.bytes.now c.requires.begun c.in_ok-first.ensures.new c.requires.free)

pub returns-in_err-first-clause-wrote : goal.returns-in_err-first-clause-wrote
returns-in_err-first-clause-wrote g c =
    wrote_err g.W.ByteWriter c.args.writer.now c.args.writer.now c.go_on.new.writer _ _ _ c.from_residual.ensures.1
    (c.in_err-first.ensures.prefix c.args.limit) c.in_err-first.ensures.err

pub returns-in_err-start-clause-wrote : goal.returns-in_err-start-clause-wrote
returns-in_err-start-clause-wrote g c =
    let (word, wrote, went_on) = c.in_ok-first.ensures.written in
    let came = rw (take_rest c.args.bytes.now c.in_ok-first.first.start) at c.in_err-start.ensures.wrote.2 in
    wrote_err g.W.ByteWriter c.args.writer.now c.args.writer.now c.write_whole_lines.new.writer _ _ _ c.from_residual-in_err-start.ensures.1 (rw (went_on.said c.args.limit) (AppendsPrefix-after _ _ _ _ _ wrote (AppendsPrefix-more _ _ _ _ came))) c.in_err-start.ensures.wrote.3

pub returns-then-rest-start-clause-wrote : goal.returns-then-rest-start-clause-wrote
returns-then-rest-start-clause-wrote g c =
    let (word, wrote, went_on) = c.in_ok-first.ensures.written in
    let bytes = drop c.in_ok-first.first.start c.args.bytes.now in
    let whole = take_rest c.args.bytes.now c.in_ok-first.first.start in
    let rest = rw whole at c.in_ok-start.ensures.rest in
    let came = rw whole at c.in_ok-start.ensures.wrote.0 in
    let fits = rw whole at c.if-rest-start.true in
    let short : length (last_part bytes) ≤ c.args.limit = omega (arith, ap length rest, length-drop c.in_ok-start.start bytes, fits) in
    let nothing = part_said-none g.S.WritesLines.State g.S.WritesLines.steps c.args.limit (after g.S.WritesLines.steps c.args.limit (g.S.WritesLines.state c.args.steps.now) (whole_lines bytes)) (last_part bytes) short in
    rw (went_on.said c.args.limit, nothing, append-nil (written g.S.WritesLines.steps c.args.limit (g.S.WritesLines.state c.args.steps.now) (whole_lines bytes))) (Appends-trans _ _ _ _ _ wrote came, c.in_ok-start.ensures.wrote.1 ∙ c.in_ok-first.ensures.ok, tt, tt)

pub returns-then-rest-start-clause-within : goal.returns-then-rest-start-clause-within
returns-then-rest-start-clause-within g c =
    let within = rw (take_rest c.args.bytes.now c.in_ok-first.first.start) at c.in_ok-start.ensures.within in
    omega (arith, within, c.in_ok-first.ensures.within, length-drop c.in_ok-first.first.start c.args.bytes.now)

pub returns-then-rest-start-clause-short : goal.returns-then-rest-start-clause-short
returns-then-rest-start-clause-short g c =
    let fits = rw (take_rest c.args.bytes.now c.in_ok-first.first.start) at c.if-rest-start.true in
    omega (arith, fits, length-drop c.in_ok-first.first.start c.args.bytes.now)

pub returns-then-rest-start-clause-rest : goal.returns-then-rest-start-clause-rest
returns-then-rest-start-clause-rest g c =
    let start = c.in_ok-first.first.start in
    let bytes = c.args.bytes.now in
    let (word, wrote, went_on) = c.in_ok-first.ensures.written in
    let rest = rw (take_rest bytes start) at c.in_ok-start.ensures.rest in
    sym (drop-drop c.in_ok-start.start start bytes) ∙ rest ∙ same_kept _ _ _ _ _ _ _ went_on

pub returns-then-rest-start-clause-begun : goal.returns-then-rest-start-clause-begun
returns-then-rest-start-clause-begun g c =
    let (word, wrote, went_on) = c.in_ok-first.ensures.written in
    let bytes = drop c.in_ok-first.first.start c.args.bytes.now in
    let whole = take_rest c.args.bytes.now c.in_ok-first.first.start in
    let rest = rw whole at c.in_ok-start.ensures.rest in
    let fits = rw whole at c.if-rest-start.true in
    let short : length (last_part bytes) ≤ c.args.limit = omega (arith, ap length rest, length-drop c.in_ok-start.start bytes, fits) in
    sym (went_on.begun c.args.limit ∙ short_begun c.in_ok-first.first.is_begun c.args.limit (length (last_part bytes)) short)

pub returns-then-rest-start-clause-state : goal.returns-then-rest-start-clause-state
returns-then-rest-start-clause-state g c =
    let (word, wrote, went_on) = c.in_ok-first.ensures.written in
    let bytes = drop c.in_ok-first.first.start c.args.bytes.now in
    let whole = take_rest c.args.bytes.now c.in_ok-first.first.start in
    let rest = rw whole at c.in_ok-start.ensures.rest in
    let fits = rw whole at c.if-rest-start.true in
    let short : length (last_part bytes) ≤ c.args.limit = omega (arith, ap length rest, length-drop c.in_ok-start.start bytes, fits) in
    rw (went_on.stands c.args.limit, is_no_longer c.args.limit (length (last_part bytes)) short) (rw whole at c.in_ok-start.ensures.state)

pub returns-in_err-open_line-clause-wrote : goal.returns-in_err-open_line-clause-wrote
returns-in_err-open_line-clause-wrote g c =
    let (word, wrote, went_on) = c.in_ok-first.ensures.written in
    let bytes = drop c.in_ok-first.first.start c.args.bytes.now in
    let whole = take_rest c.args.bytes.now c.in_ok-first.first.start in
    let rest = rw whole at c.in_ok-start.ensures.rest in
    let came = rw whole at c.in_ok-start.ensures.wrote.0 in
    let goes = rw whole at c.in_ok-start.ensures.state in
    let longer = rw whole at c.if-rest-start.false in
    let over : c.args.limit < length (last_part bytes) = omega (arith, ap length rest, length-drop c.in_ok-start.start bytes, longer) in
    let begun = part_said-at g.S.WritesLines.State g.S.WritesLines.steps c.args.limit (after g.S.WritesLines.steps c.args.limit (g.S.WritesLines.state c.args.steps.now) (whole_lines bytes)) (last_part bytes) over in
    let opens = rw (whole, take_rest bytes c.in_ok-start.start, rest, goes) at c.in_err-open_line.ensures.wrote.2 in
    wrote_err g.W.ByteWriter c.args.writer.now c.args.writer.now c.open_line.new.writer _ _ _ c.from_residual-in_err-open_line.ensures.1 (rw (went_on.said c.args.limit, begun) (AppendsPrefix-after _ _ _ _ _ wrote (AppendsPrefix-after _ _ _ _ _ came opens))) c.in_err-open_line.ensures.wrote.3

pub returns-clause-wrote : goal.returns-clause-wrote
returns-clause-wrote g c =
    let (word, wrote, went_on) = c.in_ok-first.ensures.written in
    let bytes = drop c.in_ok-first.first.start c.args.bytes.now in
    let whole = take_rest c.args.bytes.now c.in_ok-first.first.start in
    let rest = rw whole at c.in_ok-start.ensures.rest in
    let came = rw whole at c.in_ok-start.ensures.wrote.0 in
    let goes = rw whole at c.in_ok-start.ensures.state in
    let longer = rw whole at c.if-rest-start.false in
    let over : c.args.limit < length (last_part bytes) = omega (arith, ap length rest, length-drop c.in_ok-start.start bytes, longer) in
    let begun = part_said-at g.S.WritesLines.State g.S.WritesLines.steps c.args.limit (after g.S.WritesLines.steps c.args.limit (g.S.WritesLines.state c.args.steps.now) (whole_lines bytes)) (last_part bytes) over in
    let opens = rw (whole, take_rest bytes c.in_ok-start.start, rest, goes) at c.in_ok-open_line.ensures.wrote.0 in
    rw (went_on.said c.args.limit, begun) (Appends-trans _ _ _ _ _ wrote (Appends-trans _ _ _ _ _ came opens), c.in_ok-open_line.ensures.wrote.1 ∙ c.in_ok-start.ensures.wrote.1 ∙ c.in_ok-first.ensures.ok, tt, tt)

pub returns-clause-begun : goal.returns-clause-begun
returns-clause-begun g c =
    let (word, wrote, went_on) = c.in_ok-first.ensures.written in
    let bytes = drop c.in_ok-first.first.start c.args.bytes.now in
    let whole = take_rest c.args.bytes.now c.in_ok-first.first.start in
    let rest = rw whole at c.in_ok-start.ensures.rest in
    let longer = rw whole at c.if-rest-start.false in
    let over : c.args.limit < length (last_part bytes) = omega (arith, ap length rest, length-drop c.in_ok-start.start bytes, longer) in
    sym (went_on.begun c.args.limit ∙ long_begun c.in_ok-first.first.is_begun c.args.limit (length (last_part bytes)) over)

pub returns-clause-state : goal.returns-clause-state
returns-clause-state g c =
    let (word, wrote, went_on) = c.in_ok-first.ensures.written in
    let bytes = drop c.in_ok-first.first.start c.args.bytes.now in
    let whole = take_rest c.args.bytes.now c.in_ok-first.first.start in
    let rest = rw whole at c.in_ok-start.ensures.rest in
    let goes = rw whole at c.in_ok-start.ensures.state in
    let longer = rw whole at c.if-rest-start.false in
    let over : c.args.limit < length (last_part bytes) = omega (arith, ap length rest, length-drop c.in_ok-start.start bytes, longer) in
    rw (went_on.stands c.args.limit, is_longer c.args.limit (length (last_part bytes)) over) (rw (whole, take_rest bytes c.in_ok-start.start, rest, goes) at c.in_ok-open_line.ensures.state)
